-- Sets of slots in the code's terms: one of several written, and those outside a set.
use Rattle.std.specs.Prelude.{◌≡◌, ◌≢◌, List, [], Bool, false, not, ◌&&◌, ℕ, ◌<◌, length, set, Option, Some, None, IfSome}
use Rattle.std.proofs.Common.{◌∙◌, ap, sym, get_or-set_same, get_or-set_other}
use Rattle.finite.specs.Tests.{same, any, first}
use Rattle.finite.proofs.Laws.Below.{any_cong}
use Rattle.finite.proofs.Laws.First.{first_cong}
use Rattle.bitset.specs.Set.{set_slots, has, Is}
use Rattle.limits.specs.Limits.{slots}
use Rattle.semantics.specs.Form.{Way}
use Rattle.semantics.specs.Holds.{Model, step}
use Rattle.semantics.specs.Agree.{◌≐◌}
use Rattle.modal_among.specs.Among.{Among}
use Rattle.chains.specs.Directed.{into}
use Rattle.chaining.specs.Rounds.{set_no, Fresh}

-- set j of several is written
pub written_here : (sets : List (List ℕ)) (j : ℕ) (S : List ℕ) → j < length sets → set_no (set sets j S) j ≐ has S
unfolding set_no
written_here sets j S h x l = ap (λ (T : List ℕ). has T x) (get_or-set_same sets j S [] h)

pub written_others : (sets : List (List ℕ)) (j k : ℕ) (S : List ℕ) → k ≢ j → set_no (set sets j S) k ≐ set_no sets k
unfolding set_no
written_others sets j k S n x l = ap (λ (T : List ℕ). has T x) (get_or-set_other sets j k S [] n)

-- among the slots that are not in the set
pub fresh_is : {M : Model} {w : Way} {front unseen r : List ℕ} (set : List ℕ) → Is unseen (λ s. not (has set s)) → Among M w front unseen r → Fresh M w front set r
unfolding into
fresh_is {M} {w} {front} set u a = record { holds = λ x h. a.holds x h ∙ ap (λ (b : Bool). b && into M w (has front) x) (u x h) }

-- the lowest slot of D from which a step leads to x
module _ {M : Model} {w : Way} {one D row : List ℕ} (x : ℕ) (e : Is one (λ t. same t x)) (a : Among M w one D row) where
  leads-on : has row ≐ (λ t. has D t && any slots (λ u. step M w t u && same u x))
  unfolding slots
  leads-on t l = a.holds t l ∙ ap (◌&&◌ (has D t)) (any_cong slots _ _ (λ u k. ap (◌&&◌ (step M w t u)) (e u k)))

  pub nearest_some : (r : Option ℕ) → IfSome r (λ t. (t < set_slots) × (t ≡ first set_slots (has row)))
      → IfSome r (λ t. (t < set_slots) × (t ≡ first slots (λ t. has D t && any slots (λ u. step M w t u && same u x))))
  unfolding slots
  nearest_some None q = q
  nearest_some (Some t) q = (q.0, q.1 ∙ first_cong set_slots _ _ leads-on)

  pub nearest_none : any set_slots (has row) ≡ false → any slots (λ t. has D t && any slots (λ u. step M w t u && same u x)) ≡ false
  unfolding slots
  nearest_none q = sym (any_cong set_slots _ _ leads-on) ∙ q
