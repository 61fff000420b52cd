-- A set of 256 slots is 32 bytes: slot s is byte s / 8, weight 2 ^ (s % 8). docs/SPEC.md, "Sets".
use Rattle.std.specs.Prelude.{◌≡◌, Bool, false, not, ◌&&◌, Option, Some, None, List, ℕ, ◌-◌, ◌/◌, ◌%◌, ◌^◌, ◌<◌, get_or, set}
use Rattle.std.specs.Int.Bits.{bit_and, bit_or}
use Rattle.finite.specs.Tests.{same, bit, any, first}

-- how many bytes a set has, and how many slots: SET_BYTES and SET_SLOTS of the code
abbrev pub set_bytes : ℕ
set_bytes = 32

abbrev pub set_slots : ℕ
set_slots = 256

-- slot s is in the set. There is no bound: slot s of the set that starts at byte b of longer bytes S is `has S (b * 8 + s)`
unfoldable pub has : List ℕ → ℕ → Bool
has S s = bit (get_or S (s / 8) 0) (s % 8)

-- of the numbers below n, S holds those that p says
abbrev pub Holds : ℕ → List ℕ → (ℕ → Bool) → Type 0
Holds n S p = (s : ℕ) → s < n → has S s ≡ p s

-- S holds the slots that p says
abbrev pub Is : List ℕ → (ℕ → Bool) → Type 0
Is S p = Holds set_slots S p

-- S with slot s put in, and with it taken out
unfoldable pub inserted : List ℕ → ℕ → List ℕ
inserted S s = set S (s / 8) (bit_or (get_or S (s / 8) 0) (2 ^ (s % 8)))

unfoldable pub removed : List ℕ → ℕ → List ℕ
removed S s = set S (s / 8) (bit_and (get_or S (s / 8) 0) (255 - 2 ^ (s % 8)))

-- of the numbers below n that S holds, r is the lowest, and S' holds the others
abbrev pub Next : ℕ → List ℕ → Option ℕ → List ℕ → Type 0
Next n S None S' = any n (has S) ≡ false
Next n S (Some s) S' = (s < n) × (s ≡ first n (has S)) × Holds n S' (λ t. has S t && not (same t s))
