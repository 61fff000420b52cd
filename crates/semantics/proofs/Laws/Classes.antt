-- Class numbers: the lowest slots that a stable round relates. Two slots have the same class number exactly if they are bisimilar.
use Rattle.std.specs.Prelude.{◌≡◌, ◌↔◌, true, ℕ, ◌<◌}
use Rattle.std.proofs.Common.{subst, arith}
use Rattle.finite.specs.Tests.{first}
use Rattle.finite.proofs.Laws.Below.{any_in}
use Rattle.finite.proofs.Laws.First.{first_in, first_low}
use Rattle.limits.specs.Limits.{slots}
use Rattle.semantics.specs.Holds.{Model}
use Rattle.semantics.specs.Bisimulation.{Bisimilar, IsClass}
use Rattle.semantics.specs.Refine.{bisimilar_in}
use Rattle.semantics.proofs.Laws.Refine.{bisimilar_refl, bisimilar_sym, bisimilar_trans, Stable, stable_bisimilar, bisimilar_rounds}

module _ (M : Model) where
  -- the class number of s is the lowest slot that a stable round relates to s
  pub class_is : (k : ℕ) → Stable M M k → (s : ℕ) → s < slots → IsClass M s (first slots (bisimilar_in k M M s))
  class_is k c s h =
      let a = first_in slots (bisimilar_in k M M s) (any_in slots _ s h (bisimilar_refl M k s)) in
      record {
        is_slot = a.0;
        bisimilar = (stable_bisimilar M k c s _ h a.0).1 a.1;
        low = λ t l b. first_low slots (bisimilar_in k M M s) t l ((stable_bisimilar M k c s t h l).0 b);
      }

  pub class_same : (s t c d : ℕ) → s < slots → t < slots → IsClass M s c → IsClass M t d → (c ≡ d) ↔ Bisimilar M s t
  class_same s t c d h k p q =
      let sc = (bisimilar_rounds M s c h p.is_slot).0 p.bisimilar in
      let td = (bisimilar_rounds M t d k q.is_slot).0 q.bisimilar in (
        λ e. (bisimilar_rounds M s t h k).1
            (bisimilar_trans M M M slots s d t (subst (λ x. bisimilar_in slots M M s x ≡ true) e sc) (bisimilar_sym M M slots t d td)),
        λ z.
            let st = (bisimilar_rounds M s t h k).0 z in
            let dc = q.low c p.is_slot ((bisimilar_rounds M t c k p.is_slot).1 (bisimilar_trans M M M slots t s c (bisimilar_sym M M slots s t st) sc)) in
            let cd = p.low d q.is_slot ((bisimilar_rounds M s d h q.is_slot).1 (bisimilar_trans M M M slots s t d st td)) in
            omega arith,
      )
