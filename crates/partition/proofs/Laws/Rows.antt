-- Rows compared, and what the signatures say.
use Rattle.std.specs.Prelude.{◌≡◌, refl, ◌≢◌, Bool, true, false, ◌&&◌, List, ℕ, ◌<◌, get_or}
use Rattle.std.proofs.Common.{◌∙◌, ap, ap₂, sym}
use Rattle.std.specs.Bool.{beq}
use Rattle.std.proofs.Math.Bool.{and-true}
use Rattle.finite.specs.Tests.{first}
use Rattle.finite.proofs.Laws.Bools.{and_in, and_l, and_r, beq-true, eq_beq}
use Rattle.finite.proofs.Laws.Below.{same_eq, same_refl, eq_same, ne_same, all_in, all_out, all_cong, none_any}
use Rattle.bitset.specs.Set.{set_slots}
use Rattle.partition.specs.Rows.{row, in_row, same_row, sees, see_same, Signed}
use Rattle.partition.specs.Partition.{together, Partition, Partitions, by_row_of, by_seen}
use Rattle.partition.proofs.Laws.Partitions.{partitions_of, partitions_map}

-- ---- rows compared

module _ (R : List (List ℕ)) (s t : ℕ) where
  row_out : same_row R s t ≡ true → (c : ℕ) → c < set_slots → in_row R s c ≡ in_row R t c
  unfolding same_row
  row_out e c h = beq-true _ _ (all_out set_slots _ e c h)

  row_in : ((c : ℕ) → c < set_slots → in_row R s c ≡ in_row R t c) → same_row R s t ≡ true
  unfolding same_row
  row_in f = all_in set_slots _ (λ c h. eq_beq (f c h))

-- a relation by equal rows is an equivalence, so the lowest slots that it relates are its partition
module _ (q : List ℕ) (R : List (List ℕ)) where
  pub by_refl : (s : ℕ) → by_row_of q R s s ≡ true
  unfolding by_row_of
  by_refl s = and_in (same_refl (get_or q s 0)) (row_in R s s (λ c h. refl))

  by_in : (s t : ℕ) → get_or q s 0 ≡ get_or q t 0 → same_row R s t ≡ true → by_row_of q R s t ≡ true
  unfolding by_row_of
  by_in s t a b = and_in (eq_same a) b

  by_out : (s t : ℕ) → by_row_of q R s t ≡ true → (get_or q s 0 ≡ get_or q t 0) × (same_row R s t ≡ true)
  unfolding by_row_of
  by_out s t e = (same_eq (and_l (together q s t) (same_row R s t) e), and_r (together q s t) (same_row R s t) e)

  pub by_apart : (s t : ℕ) → get_or q s 0 ≢ get_or q t 0 → by_row_of q R s t ≡ false
  unfolding by_row_of
  by_apart s t n = rw (ne_same n)

  -- in one class the rows decide
  pub by_same : (s t : ℕ) → get_or q s 0 ≡ get_or q t 0 → same_row R s t ≡ by_row_of q R s t
  unfolding by_row_of
  by_same s t e = rw (eq_same e)

  by_sym : (s t : ℕ) → by_row_of q R s t ≡ true → by_row_of q R t s ≡ true
  by_sym s t e = let a = by_out s t e in by_in t s (sym a.0) (row_in R t s (λ c h. sym (row_out R s t a.1 c h)))

  by_trans : (s t u : ℕ) → by_row_of q R s t ≡ true → by_row_of q R t u ≡ true → by_row_of q R s u ≡ true
  by_trans s t u e f =
      let a = by_out s t e in
      let b = by_out t u f in
      by_in s u (a.0 ∙ b.0) (row_in R s u (λ c h. row_out R s t a.1 c h ∙ row_out R t u b.1 c h))

  pub rows_partition : (r : List ℕ) → ((s : ℕ) → s < set_slots → get_or r s 0 ≡ first set_slots (by_row_of q R s)) → Partitions (by_row_of q R) r
  rows_partition r n = partitions_of (by_row_of q R) by_refl by_sym by_trans r n

-- ---- signatures

-- a partition split by the classes seen, from the signatures and their split
pub signed_partition : (R : List (List ℕ)) (p : List ℕ) (G : List (List ℕ)) (q r : List ℕ) → Signed R p G → Partitions (by_row_of q G) r → Partitions (by_seen q R p) r
unfolding Signed by_row_of by_seen same_row see_same
signed_partition R p G q r g n = partitions_map (λ s t h k.
    ap (λ (x : Bool). together q s t && x) (all_cong set_slots _ _ (λ c l. ap₂ beq (g s c h l) (g t c k l)))) n

-- rows without a slot see nothing, and leave the classes as they are
none_seen : (R : List (List ℕ)) (p : List ℕ) (s c : ℕ) → ((t : ℕ) → t < set_slots → in_row R s t ≡ false) → sees (row R s) p c ≡ false
unfolding sees
none_seen R p s c z = none_any set_slots _ (λ t k. rw (z t k))

pub unseen_partition : (R : List (List ℕ)) (p q : List ℕ) → ((s t : ℕ) → s < set_slots → t < set_slots → in_row R s t ≡ false) → Partition q → Partitions (by_seen q R p) q
unfolding by_seen see_same
unseen_partition R p q z n = record {
  lowest = n;
  by = λ s t h k.
      let e = all_in set_slots (λ c. beq (sees (row R s) p c) (sees (row R t) p c)) (λ c l. eq_beq (none_seen R p s c (λ x. z s x h) ∙ sym (none_seen R p t c (λ x. z t x k)))) in
      rw e (sym (and-true (together q s t)));
}
