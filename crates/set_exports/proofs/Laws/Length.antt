-- What is done with bytes, once their length is known.
use Rattle.std.specs.Prelude.{◌≡◌, List, ℕ, length}
use Rattle.std.proofs.Common.{arith}
use Rattle.bitset.specs.Set.{set_bytes}
use Rattle.set_exports.specs.Length.{IfSet}

pub is_set : {S : List ℕ} {P Q : Type 0} → length S ≡ set_bytes → P → IfSet S P Q
is_set e p = record { met = λ _. p; unmet = λ n. absurd (n e) }

pub not_set : {S : List ℕ} {P Q : Type 0} → (length S ≡ set_bytes → ⊥) → Q → IfSet S P Q
not_set n q = record { met = λ e. absurd (omega arith); unmet = λ _. q }
