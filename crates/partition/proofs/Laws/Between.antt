-- The slots of a second site N, numbered by the classes of a first, M: as lowest slots, and what the numbers say of the two sites at the end.
use Rattle.std.specs.Prelude.{◌≡◌, ◌↔◌, false, List, ℕ, suc, ◌≤◌, ◌<◌, get_or, true}
use Rattle.std.proofs.Common.{sym, ◌∙◌, ap, arith}
use Rattle.finite.specs.Tests.{same, any, all, first}
use Rattle.finite.proofs.Laws.Bools.{clash, no_true, and_in, and_r}
use Rattle.finite.proofs.Laws.Below.{any_in, any_out, any_none, all_in, all_out}
use Rattle.finite.proofs.Laws.First.{first_cong, first_in}
use Rattle.bitset.specs.Set.{set_slots}
use Rattle.limits.specs.Limits.{slots, every_way}
use Rattle.semantics.specs.Holds.{Model}
use Rattle.semantics.specs.Bisimulation.{Total}
use Rattle.semantics.specs.Table.{way_of}
use Rattle.semantics.specs.Refine.{Rel, match, bisimilar_in}
use Rattle.semantics.proofs.Laws.Refine.{bisimilar_sym, bisimilar_less}
use Rattle.partition.specs.Partition.{across, Partitions, Follows}
use Rattle.partition.proofs.Laws.Partitions.{partitions_first}
use Rattle.partition.proofs.Laws.Rounds.{upto}

-- the lowest slot of the first site that E relates to t is the class of t, where E relates whole classes of p
pub follows_of : (F E : Rel) (p q : List ℕ) → Partitions F p
    → ((t s u : ℕ) → t < set_slots → s < set_slots → u < set_slots → E t s ≡ true → F s u ≡ E t u)
    → ((t : ℕ) → t < set_slots → any set_slots (E t) ≡ true) → ((t : ℕ) → t < set_slots → get_or q t 0 ≡ first set_slots (E t))
    → Follows E p q
follows_of F E p q n whole met low = record {
  met = met;
  by = λ t s h j.
      let a = first_in set_slots (E t) (met t h) in
      let x : ℕ = first set_slots (E t) in
      let same_class : get_or q t 0 ≡ get_or p x 0 =
      low t h ∙ first_cong set_slots (E t) (F x) (λ u l. sym (whole t x u h a.0 l a.1)) ∙ sym (partitions_first n x a.0) in
      ap (λ (c : ℕ). same c (get_or p s 0)) same_class ∙ n.by x s a.0 j ∙ whole t x s h a.0 j a.1;
}

-- relations that agree on slots number the second site alike
pub follows_map : {E F : Rel} {p q : List ℕ} → ((t s : ℕ) → t < set_slots → s < set_slots → E t s ≡ F t s) → Follows E p q → Follows F p q
follows_map {E} {F} e f = record {
  met = λ t h. let a = any_out set_slots (E t) (f.met t h) in any_in set_slots (F t) a.0 a.1 (sym (e t a.0 h a.1) ∙ a.2);
  by = λ t s h j. f.by t s h j ∙ e t s h j;
}

module _ (M N : Model) where
  -- a slot that has no slot left after some ways of a round has none after the round
  pub upto_alone : (k w t : ℕ) → w ≤ every_way → any set_slots (upto N M k w t) ≡ false → (s : ℕ) → s < set_slots → bisimilar_in (suc k) N M t s ≡ false
  unfolding upto bisimilar_in
  upto_alone k w t l e s h = no_true (λ p.
      let matched : all every_way (λ v. match N M (way_of v) (bisimilar_in k N M) t s) ≡ true = and_r (bisimilar_in k N M t s) _ p in
      let so_far : upto N M k w t s ≡ true = and_in (bisimilar_less N M k t s p) (all_in w _ (λ v b. all_out every_way _ matched v (omega arith))) in
      clash so_far (any_none set_slots (upto N M k w t) e s h))

  -- the test at the end: each class of the first site has a slot of the second
  pub follows_total : (k : ℕ) (p q : List ℕ) → Follows (bisimilar_in k N M) p q
      → (all set_slots (λ s. any set_slots (λ t. across q p t s)) ≡ true) ↔ Total (λ s t. bisimilar_in k M N s t ≡ true)
  unfolding slots
  follows_total k p q f = (
    λ e. record {
      ahead = λ s h. let a = any_out set_slots _ (all_out set_slots _ e s h) in (a.0, a.1, bisimilar_sym N M k a.0 s (sym (f.by a.0 s a.1 h) ∙ a.2));
      behind = λ t h. let a = any_out set_slots (bisimilar_in k N M t) (f.met t h) in (a.0, a.1, bisimilar_sym N M k t a.0 a.2);
    },
    λ b. all_in set_slots _ (λ s h. let a = b.ahead s h in any_in set_slots _ a.0 a.1 (f.by a.0 s a.1 h ∙ bisimilar_sym M N k s a.0 a.2)),
  )
