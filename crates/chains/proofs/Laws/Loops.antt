-- What the code's loops go by: the walk from the start, the way back, and the bytes.
use Rattle.std.specs.Prelude.{◌≡◌, List, true, ◌&&◌, ℕ, suc, ◌+◌, ◌-◌, ◌<◌}
use Rattle.std.proofs.Common.{sym, ◌∙◌, ap, arith, ext_get_or}
use Rattle.std.proofs.Math.Bool.{and-true, and-false}
use Rattle.finite.specs.Tests.{same, below, any, first}
use Rattle.finite.proofs.Laws.Bools.{either, look, both, and_in, and_l, and_r}
use Rattle.finite.proofs.Laws.Below.{same_eq, same_refl, any_in, any_out, below_out, not-below}
use Rattle.finite.proofs.Laws.First.{first_cong}
use Rattle.limits.specs.Limits.{slots, links, every_way}
use Rattle.semantics.specs.Form.{Way}
use Rattle.semantics.specs.Holds.{Set, Model, step}
use Rattle.semantics.specs.Table.{way_of}
use Rattle.semantics.proofs.Laws.Ways.{way_along, way_against}
use Rattle.chains.specs.Given.{ChainGiven}
use Rattle.chains.specs.Layers.{within}
use Rattle.chains.specs.Shortest.{next}
use Rattle.chains.proofs.Laws.Shortest.{shortest_one}
use Rattle.chains.specs.Reached.{reverse}
use Rattle.chains.proofs.Laws.Reached.{step-reverse}
use Rattle.chains.specs.Loops.{reverse_no}

-- the next slot: the lowest of a set D from which the way back leads to x, where D has of the slots after x those within k steps
pub next_lowest : (M : Model) (w : Way) (S : Set) (k x : ℕ) (D : Set) → x < slots
    → ((t : ℕ) → t < slots → step M w x t ≡ true → D t ≡ within M w S k t)
    → first slots (λ t. D t && any slots (λ u. step M (reverse w) t u && same u x)) ≡ next M w S k x
unfolding next
next_lowest M w S k x D h d = first_cong slots _ _ (λ t l. ap (◌&&◌ (D t)) (alone t) ∙ either (look (step M w x t))
    (λ g. rw g (and-true (D t) ∙ d t l g))
    (λ g. rw g (and-false (D t))))
  where
    alone : (t : ℕ) → any slots (λ u. step M (reverse w) t u && same u x) ≡ step M w x t
    alone t =
        both
        (λ p.
        let r = any_out slots _ p in
        let e : r.0 ≡ x = same_eq (and_r (step M (reverse w) t r.0) _ r.2) in
        let q : step M (reverse w) t r.0 ≡ true = and_l _ _ r.2 in
        sym (step-reverse M w t x) ∙ rw e at q)
        (λ p. any_in slots _ x h (and_in (step-reverse M w t x ∙ p) (same_refl x)))

pub way_reverse : (p : ℕ) → p < every_way → way_of (reverse_no p) ≡ reverse (way_of p)
unfolding reverse_no reverse
way_reverse p h =
    either
    (look (below p links))
    (λ e. rw (e, way_against p (below_out p links e), way_along p (below_out p links e)))
    (λ e.
    let l = not-below p links e in
    let q : p ≡ p - links + links = omega arith in
    rw e (way_along (p - links) (omega arith) ∙ ap reverse (sym (ap way_of q ∙ way_against (p - links) (omega arith)))))

-- the bytes are the only ones
pub given_one : (M : Model) (w : Way) (G : ℕ → Type 0) (s n m : ℕ) (chain chain' : List ℕ) → ChainGiven M w G s n chain → ChainGiven M w G s m chain'
    → (n ≡ m) × (chain ≡ chain')
given_one M w G s n m chain chain' g g' =
    let o = shortest_one g.shortest g'.shortest in (
      o.0,
      ext_get_or 0 chain chain' (g.size ∙ sym g'.size) (λ i l. either (look (below i (suc n)))
          (λ e. o.1 i (omega (arith, below_out i (suc n) e)))
          (λ e. g.zeros i (not-below i (suc n) e) ∙ sym (g'.zeros i (omega (arith, o.0, not-below i (suc n) e))))),
    )
