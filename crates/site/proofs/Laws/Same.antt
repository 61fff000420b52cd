-- Sites that say the same are the same bytes.
use Rattle.std.specs.Prelude.{◌≡◌, List, length, ℕ, ◌+◌, ◌-◌, ◌*◌, ◌/◌, ◌%◌, ◌≤◌, ◌<◌, get_or}
use Rattle.std.proofs.Common.{◌∙◌, ext_get_or, sym, ap, subst, arith}
use Rattle.std.proofs.Math.Decide.{dec_lt}
use Rattle.bitset.specs.Set.{set_bytes, set_slots, has}
use Rattle.finite.proofs.Laws.Weights.{same_bits}
use Rattle.bitset.proofs.Laws.Bytes.{has_byte}
use Rattle.limits.specs.Limits.{slots, labels, names, links, general_links}
use Rattle.semantics.specs.Holds.{Model}
use Rattle.semantics.specs.Edit.{target}
use Rattle.site.specs.Layout.{labels_at, names_at, targets_at, rows_at, rows_bytes, site_bytes, label_at, name_at, target_at, row_at}
use Rattle.site.specs.Site.{site_of}
use Rattle.site.proofs.Laws.Read.{present_is, marked_is, place_is, row_is}
use Rattle.site.proofs.Laws.Target.{target_byte}

module _ (S S' : List ℕ) (b : (k : ℕ) → get_or S k 0 < 256) (b' : (k : ℕ) → get_or S' k 0 < 256) (e : site_of S ≡ site_of S') where
  -- each kind of byte, by what the models say of it
  present_same : (s : ℕ) → s < slots → has S s ≡ has S' s
  present_same s h = sym (present_is S s h) ∙ ap (λ (M : Model). M.present s) e ∙ present_is S' s h

  label_same : (p s : ℕ) → p < labels → s < slots → has S (label_at p * 8 + s) ≡ has S' (label_at p * 8 + s)
  label_same p s hp hs = sym (marked_is S p s hp hs) ∙ ap (λ (M : Model). M.marked p s) e ∙ marked_is S' p s hp hs

  name_same : (n : ℕ) → n < names → get_or S (name_at n) 0 ≡ get_or S' (name_at n) 0
  name_same n h = sym (place_is S n h) ∙ ap (λ (M : Model). M.place n) e ∙ place_is S' n h

  target-same : (f s : ℕ) → general_links ≤ f → f < links → s < slots → get_or S (target_at f s) 0 ≡ get_or S' (target_at f s) 0
  unfolding slots
  target-same f s hg hl hs =
      sym (target_byte S f s hg hl hs (b (target_at f s))) ∙ ap (λ (M : Model). target M f s) e ∙ target_byte S' f s hg hl hs (b' (target_at f s))

  row_same : (m s t : ℕ) → m < general_links → s < slots → t < slots → has S (row_at m s * 8 + t) ≡ has S' (row_at m s * 8 + t)
  row_same m s t hm hs ht = sym (row_is S m s t hm hs ht) ∙ ap (λ (M : Model). M.link m s t) e ∙ row_is S' m s t hm hs ht

  -- a byte of a set, by its slots, each at its address a
  set_same : (j : ℕ) (a : ℕ → ℕ) → ((k : ℕ) → k < 8 → a k ≡ j * 8 + k) → ((k : ℕ) → k < 8 → has S (a k) ≡ has S' (a k)) → get_or S j 0 ≡ get_or S' j 0
  set_same j a at h =
      same_bits 8 (get_or S j 0) (get_or S' j 0) (b j) (b' j) (λ k l.
      sym (has_byte S j k l) ∙ subst (λ (x : ℕ). has S x ≡ has S' x) (at k l) (h k l) ∙ has_byte S' j k l)

  byte_same : (j : ℕ) → j < site_bytes → get_or S j 0 ≡ get_or S' j 0
  unfolding slots
  byte_same j h = go (dec_lt j labels_at) (dec_lt j names_at) (dec_lt j targets_at) (dec_lt j rows_at)
    where
      go : Dec (j < labels_at) → Dec (j < names_at) → Dec (j < targets_at) → Dec (j < rows_at) → get_or S j 0 ≡ get_or S' j 0
      go (yes l) x y z = set_same j (λ k. j * 8 + k) (λ k hk. omega arith) (λ k hk. present_same (j * 8 + k) (omega arith))
      go (no l) (yes p) y z =
          let i : ℕ = j - labels_at in
          set_same j (λ k. label_at (i / set_bytes) * 8 + (i % set_bytes * 8 + k)) (λ k hk. omega arith) (λ k hk.
          label_same (i / set_bytes) (i % set_bytes * 8 + k) (omega arith) (omega arith))
      go (no l) (no p) (yes n) z =
          subst (λ (x : ℕ). get_or S x 0 ≡ get_or S' x 0) (let q : name_at (j - names_at) ≡ j = omega arith in q) (name_same (j - names_at) (omega arith))
      go (no l) (no p) (no n) (yes t) =
          let i : ℕ = j - targets_at in
          subst (λ (x : ℕ). get_or S x 0 ≡ get_or S' x 0) (let q : target_at (general_links + i / set_slots) (i % set_slots) ≡ j = omega arith in q)
          (target-same (general_links + i / set_slots) (i % set_slots) (omega arith) (omega arith) (omega arith))
      go (no l) (no p) (no n) (no t) =
          let i : ℕ = j - rows_at in
          let m : ℕ = i / rows_bytes in
          let s : ℕ = i % rows_bytes / set_bytes in
          set_same j (λ k. row_at m s * 8 + (i % set_bytes * 8 + k)) (λ k hk. omega arith) (λ k hk.
          row_same m s (i % set_bytes * 8 + k) (omega arith) (omega arith) (omega arith))

  pub same_site : length S ≡ site_bytes → length S' ≡ site_bytes → S ≡ S'
  same_site l l' = ext_get_or 0 S S' (l ∙ sym l') (λ j h. byte_same j (omega arith))
