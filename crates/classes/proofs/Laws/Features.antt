-- Slots with the same features agree, so their partition is that before the first round.
use Rattle.std.specs.Prelude.{◌≡◌, Bool, ◌&&◌, ◌||◌, List, ℕ, ◌+◌, ◌-◌, ◌≤◌, ◌<◌, replicate, true}
use Rattle.std.proofs.Common.{◌∙◌, sym, ap, arith}
use Rattle.std.specs.Bool.{beq}
use Rattle.finite.specs.Tests.{same, below, any, all}
use Rattle.finite.proofs.Laws.Bools.{either, look, and_in, and_l, and_r, or_l, or_r, or_out, both, beq-true, eq_beq}
use Rattle.finite.proofs.Laws.Below.{same_eq, eq_same, below_in, below_out, below-not, not-below, any_in, any_out, all_in, all_out}
use Rattle.finite.proofs.Laws.First.{first_is, none_start}
use Rattle.bitset.specs.Set.{set_slots}
use Rattle.limits.specs.Limits.{labels, names}
use Rattle.semantics.specs.Holds.{Model}
use Rattle.semantics.specs.Refine.{agree, bisimilar_in}
use Rattle.partition.specs.Rows.{in_row, same_row, RowsOf}
use Rattle.partition.specs.Partition.{together, Partition, Partitions, by_row_of}
use Rattle.finite.proofs.Laws.Zeros.{zeros_at}
use Rattle.partition.proofs.Laws.Partitions.{partitions_map}
use Rattle.classes.proofs.Laws.Different.{same_turned}
use Rattle.classes.specs.Features.{labels_from, names_from, features, feature, FeatureRows}

module _ (M : Model) where
  -- what `has_feature` returns: below the labels, below the names, and above
  pub feature_low : (s c : ℕ) → c < labels_from → feature M s c ≡ M.present s
  unfolding feature
  feature_low s c h = rw (below_in c labels_from h)

  pub feature_mid : (s c : ℕ) → labels_from ≤ c → c < names_from → feature M s c ≡ M.marked (c - labels_from) s
  unfolding feature
  feature_mid s c h k = rw (below-not c labels_from h, below_in c names_from k)

  pub feature_high : (s c : ℕ) → names_from ≤ c → feature M s c ≡ same (M.place (c - names_from)) s
  unfolding feature
  feature_high s c h = rw (below-not c labels_from (omega arith), below-not c names_from h)

  feature_label : (s p : ℕ) → p < labels → feature M s (labels_from + p) ≡ M.marked p s
  unfolding feature
  feature_label s p h =
      rw (below-not (labels_from + p) labels_from (omega arith), below_in (labels_from + p) names_from (omega arith))
      (ap (λ (x : ℕ). M.marked x s) (omega arith))

  feature_name : (s n : ℕ) → feature M s (names_from + n) ≡ same (M.place n) s
  unfolding feature
  feature_name s n =
      rw (below-not (names_from + n) labels_from (omega arith), below-not (names_from + n) names_from (omega arith))
      (ap (λ (x : ℕ). same (M.place x) s) (omega arith))

  -- the features as they are put in: that a slot is present, its labels, its names
  abbrev pub put_in : ℕ → ℕ → Bool
  put_in s c = ((M.present s && same c 0) || any labels (λ p. M.marked p s && same c (labels_from + p))) || any names (λ n. same s (M.place n) && same c (names_from + n))

  pub featured : (G : List (List ℕ)) → RowsOf put_in G → FeatureRows M G
  unfolding FeatureRows
  featured G g s c h k = g s c h k ∙ both
      (λ e. either
      (or_out ((M.present s && same c 0) || any labels (λ p. M.marked p s && same c (labels_from + p))) _ e)
      (λ q. either
      (or_out (M.present s && same c 0) _ q)
      (λ a. let z : c ≡ 0 = same_eq (and_r (M.present s) _ a) in and_in (below_in c features (omega arith)) (feature_low s c (omega arith) ∙ and_l _ _ a))
      (λ a.
      let p = any_out labels _ a in
      let z : c ≡ labels_from + p.0 = same_eq (and_r (M.marked p.0 s) _ p.2) in
      and_in (below_in c features (omega (arith, p.1))) (rw z (feature_label s p.0 p.1 ∙ and_l _ _ p.2))))
      (λ q.
      let n = any_out names _ q in
      let z : c ≡ names_from + n.0 = same_eq (and_r (same s (M.place n.0)) _ n.2) in
      and_in (below_in c features (omega (arith, n.1))) (rw z (feature_name s n.0 ∙ same_turned (M.place n.0) s ∙ and_l _ _ n.2))))
      (λ q.
      let l = below_out c features (and_l _ _ q) in
      let f : feature M s c ≡ true = and_r (below c features) _ q in
      either
      (look (below c labels_from))
      (λ x. let i = below_out c labels_from x in or_l _ _ (or_l _ _ (and_in (sym (feature_low s c i) ∙ f) (eq_same (omega arith)))))
      (λ x. let i = not-below c labels_from x in
      either
      (look (below c names_from))
      (λ y.
      let j = below_out c names_from y in
      or_l _ _ (or_r (M.present s && same c 0) _ (any_in labels _ (c - labels_from) (omega arith) (and_in (sym (feature_mid s c i j) ∙ f) (eq_same (omega arith))))))
      (λ y.
      let j = not-below c names_from y in
      or_r ((M.present s && same c 0) || any labels (λ p. M.marked p s && same c (labels_from + p))) _
      (any_in names _ (c - names_from) (omega arith) (and_in (same_turned s (M.place (c - names_from)) ∙ sym (feature_high s c j) ∙ f) (eq_same (omega arith)))))))

  features-agree : (s t : ℕ) → ((c : ℕ) → c < features → feature M s c ≡ feature M t c) → agree M M s t ≡ true
  unfolding agree
  features-agree s t f = and_in (eq_beq (sym (feature_low s 0 (omega arith)) ∙ f 0 (omega arith) ∙ feature_low t 0 (omega arith))) (and_in
      (all_in labels _ (λ p h. eq_beq (sym (feature_label s p h) ∙ f (labels_from + p) (omega arith) ∙ feature_label t p h)))
      (all_in names _ (λ n h. eq_beq (same_turned s (M.place n) ∙ sym (feature_name s n) ∙ f (names_from + n) (omega arith) ∙ feature_name t n ∙ sym (same_turned t (M.place n))))))

  agree-features : (s t : ℕ) → agree M M s t ≡ true → (c : ℕ) → c < features → feature M s c ≡ feature M t c
  unfolding agree
  agree-features s t e c h =
      let a : beq (M.present s) (M.present t) ≡ true = and_l _ _ e in
      let d = and_r (beq (M.present s) (M.present t)) _ e in
      let on_labels : all labels (λ p. beq (M.marked p s) (M.marked p t)) ≡ true = and_l _ _ d in
      let on_names = and_r (all labels (λ p. beq (M.marked p s) (M.marked p t))) _ d in
      either
      (look (below c labels_from))
      (λ x. let l = below_out c labels_from x in feature_low s c l ∙ beq-true _ _ a ∙ sym (feature_low t c l))
      (λ x. let g = not-below c labels_from x in
      either
      (look (below c names_from))
      (λ y. let l = below_out c names_from y in
      feature_mid s c g l ∙ beq-true _ _ (all_out labels _ on_labels (c - labels_from) (omega arith)) ∙ sym (feature_mid t c g l))
      (λ y. let l = not-below c names_from y in
      feature_high s c l ∙ sym (same_turned s (M.place (c - names_from))) ∙ beq-true _ _ (all_out names _ on_names (c - names_from) (omega arith)) ∙ same_turned t (M.place (c - names_from)) ∙ sym (feature_high t c l)))

  rows_agree : (G : List (List ℕ)) → FeatureRows M G → (s t : ℕ) → s < set_slots → t < set_slots → same_row G s t ≡ agree M M s t
  unfolding FeatureRows same_row
  rows_agree G g s t h k = both
      (λ e. features-agree s t (λ c l.
      let b = below_in c features l in
      let m : c < set_slots = omega arith in
      rw b at (sym (g s c h m) ∙ beq-true (in_row G s c) (in_row G t c) (all_out set_slots _ e c m) ∙ g t c k m)))
      (λ e. all_in set_slots _ (λ c l. eq_beq (g s c h l ∙ either
      (look (below c features))
      (λ b. ap (λ (x : Bool). below c features && x) (agree-features s t e c (below_out c features b)))
      (λ b. rw b) ∙ sym (g t c k l))))

-- all slots in one class
module _ (n : ℕ) where
  zeros_together : (s t : ℕ) → together (replicate n 0) s t ≡ true
  zeros_together s t = eq_same (zeros_at n s ∙ sym (zeros_at n t))

  pub zeros_partition : Partition (replicate n 0)
  unfolding Partition
  zeros_partition s h = zeros_at n s ∙ sym (first_is set_slots (together (replicate n 0) s) 0 (omega arith) (none_start _) (zeros_together s 0))

  -- one class, split by the slots' features, is the partition before the first round
  pub features_partition : (M : Model) (G : List (List ℕ)) (r : List ℕ) → FeatureRows M G → Partitions (by_row_of (replicate n 0) G) r → Partitions (bisimilar_in 0 M M) r
  unfolding by_row_of bisimilar_in
  features_partition M G r g = partitions_map (λ s t h k. rw (zeros_together s t) (rows_agree M G g s t h k))
