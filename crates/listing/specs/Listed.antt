-- What listing a condition answers: the set of the slots where it holds, and how many they are. docs/SPEC.md, "The condition".
use Rattle.std.specs.Prelude.{◌≡◌, ◌↔◌, List, true, ℕ, ◌*◌, ◌<◌, length}
use Rattle.finite.specs.Tests.{count}
use Rattle.finite.specs.Bytes.{Bytes}
use Rattle.bitset.specs.Set.{set_bytes, has}
use Rattle.limits.specs.Limits.{slots, table_nodes}
use Rattle.semantics.specs.Form.{Form}
use Rattle.semantics.specs.Holds.{Env, Model, Holds}
use Rattle.listing.specs.declared.Found.{Found}

-- how many bytes the work buffer has: a set for each node of a table
abbrev pub work_bytes : ℕ
work_bytes = set_bytes * table_nodes

-- the set is 32 bytes and holds the slots where the condition φ holds on the site M, and there are n of them. A condition without a free
-- variable holds at the same slots under every valuation
pub record Listed (M : Model) (φ : Form) (set : List ℕ) (n : ℕ) : Type 0 where
  pub size : length set ≡ set_bytes
  pub bytes : Bytes set
  pub listed : (ρ : Env) (s : ℕ) → s < slots → (has set s ≡ true) ↔ Holds M ρ φ s
  pub counted : n ≡ count slots (has set)

-- the answer of a list in numbers
abbrev pub found_of : (count rounds : ℕ) → Found
found_of n r = record { count = n; rounds = r }
