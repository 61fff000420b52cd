-- Sets compared.
use Rattle.std.specs.Prelude.{◌≡◌, refl, Bool, true, false, not, ◌&&◌, ◌||◌, List, ℕ}
use Rattle.std.proofs.Common.{◌∙◌, sym, ap₂}
use Rattle.finite.specs.Tests.{any}
use Rattle.finite.proofs.Laws.Bools.{clash, no_true, not_in, not_out, both, beq-true, eq_beq}
use Rattle.finite.proofs.Laws.Below.{any_out, any_none, all_in, all_out}
use Rattle.bitset.specs.Set.{set_slots, has, Is}
use Rattle.partition.specs.Rows.{same_set}

-- C and D are what is in A alone and in B alone, and E is both
pub none_apart : (A B C D E : List ℕ) → Is C (λ s. has A s && not (has B s)) → Is D (λ s. has B s && not (has A s)) → Is E (λ s. has C s || has D s)
    → not (any set_slots (has E)) ≡ same_set A B
none_apart A B C D E c d e = both
    (λ q. all_in set_slots _ (λ s h. eq_beq (one (has A s) (has B s) (sym (e s h ∙ ap₂ ◌||◌ (c s h) (d s h)) ∙ any_none set_slots (has E) (no_true (not_out _ q)) s h))))
    (λ q. not_in (λ p.
    let s = any_out set_slots _ p in
    clash (sym (e s.0 s.1 ∙ ap₂ ◌||◌ (c s.0 s.1) (d s.0 s.1)) ∙ s.2) (alike (has A s.0) (has B s.0) (beq-true _ _ (all_out set_slots _ q s.0 s.1)))))
  where
    one : (a b : Bool) → ((a && not b) || (b && not a)) ≡ false → a ≡ b
    one true true e = refl
    one true false e = e
    one false true e = sym e
    one false false e = refl

    alike : (a b : Bool) → a ≡ b → ((a && not b) || (b && not a)) ≡ false
    alike true b e = rw (← e)
    alike false b e = rw (← e)
