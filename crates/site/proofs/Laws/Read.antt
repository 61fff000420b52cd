-- The site's model, read off the bytes in range, and what is in range.
use Rattle.std.specs.Prelude.{◌≡◌, ◌&&◌, List, ℕ, ◌+◌, ◌*◌, ◌^◌, ◌≤◌, ◌<◌, get_or, true, not}
use Rattle.std.proofs.Common.{◌∙◌, arith}
use Rattle.finite.specs.Tests.{same, below}
use Rattle.finite.proofs.Laws.Bools.{either, look, no_true, and_l, and_r, not_out}
use Rattle.finite.proofs.Laws.Below.{below_in, below_out, below-not, not-below}
use Rattle.bitset.specs.Set.{set_slots, has}
use Rattle.limits.specs.Limits.{slots, labels, names, links, general_links}
use Rattle.semantics.specs.Edit.{functional}
use Rattle.semantics.proofs.Laws.Edits.{functional_small}
use Rattle.site.specs.Layout.{label_at, name_at, target_at, row_at}
use Rattle.site.specs.Site.{linked, site_of}

-- a byte fits a usize
pub byte_fits : (x : ℕ) → x < 256 → x < 2 ^ 64
byte_fits x h = omega arith

pub functional_in : (f : ℕ) → general_links ≤ f → f < links → functional f ≡ true
unfolding functional
functional_in f h k = rw (below-not f 4 h, below_in f links k)

pub functional_out : (f : ℕ) → functional f ≡ true → (general_links ≤ f) × (f < links)
unfolding functional
functional_out f p = (
  not-below f 4 (no_true (not_out (below f 4) (and_l (not (below f 4)) (below f links) p))),
  functional_small f p,
)

module _ (S : List ℕ) where
  pub present_is : (s : ℕ) → s < slots → (site_of S).present s ≡ has S s
  unfolding site_of
  present_is s h = rw (below_in s slots h)

  pub marked_is : (p s : ℕ) → p < labels → s < slots → (site_of S).marked p s ≡ has S (label_at p * 8 + s)
  unfolding site_of
  marked_is p s hp hs = rw (below_in p labels hp, below_in s slots hs)

  pub place_is : (n : ℕ) → n < names → (site_of S).place n ≡ get_or S (name_at n) 0
  unfolding site_of
  place_is n h = rw (below_in n names h)

  pub place_out : (n : ℕ) → names ≤ n → (site_of S).place n ≡ 0
  unfolding site_of
  place_out n h = rw (below-not n names h)

  pub link_is : (m s t : ℕ) → s < slots → t < slots → (site_of S).link m s t ≡ linked S m s t
  unfolding site_of
  link_is m s t hs ht = rw (below_in s slots hs, below_in t slots ht)

  pub row_is : (m s t : ℕ) → m < general_links → s < slots → t < slots → (site_of S).link m s t ≡ has S (row_at m s * 8 + t)
  unfolding linked
  row_is m s t hm hs ht = link_is m s t hs ht ∙ rw (below_in m general_links hm)

  pub target_is : (f s t : ℕ) → general_links ≤ f → f < links → s < slots → t < slots
      → (site_of S).link f s t ≡ (same (get_or S (target_at f s) 0) t && not (same t 0))
  unfolding linked
  target_is f s t hg hl hs ht = link_is f s t hs ht ∙ rw (below-not f general_links hg, functional_in f hg hl)

  -- a functional link by the target v that was read
  pub target_read : (f s : ℕ) → general_links ≤ f → f < links → s < set_slots → (v : ℕ) → v ≡ get_or S (target_at f s) 0
      → (t : ℕ) → t < set_slots → (site_of S).link f s t ≡ (same v t && not (same t 0))
  unfolding slots
  target_read f s hg hl hs v e t ht = rw e (target_is f s t hg hl hs ht)

  -- what the model has is in range
  pub present_in : (s : ℕ) → (site_of S).present s ≡ true → s < slots
  unfolding site_of
  present_in s p = below_out s slots (and_l (below s slots) (has S s) p)

  pub marked_in : (p s : ℕ) → (site_of S).marked p s ≡ true → (p < labels) × (s < slots)
  unfolding site_of
  marked_in p s e =
      let r : (below p labels && below s slots) ≡ true = and_l (below p labels && below s slots) (has S (label_at p * 8 + s)) e in
      (below_out p labels (and_l (below p labels) (below s slots) r), below_out s slots (and_r (below p labels) (below s slots) r))

  linked_in : (m s t : ℕ) → linked S m s t ≡ true → m < links
  unfolding linked
  linked_in m s t e =
      either
      (look (below m general_links))
      (λ p. let l = below_out m general_links p in omega arith)
      (λ p. (functional_out m (and_l (functional m) (same (get_or S (target_at m s) 0) t && not (same t 0)) (rw p at e))).1)

  pub link_in : (m s t : ℕ) → (site_of S).link m s t ≡ true → (m < links) × ((s < slots) × (t < slots))
  unfolding site_of
  link_in m s t e =
      let r : (below s slots && below t slots) ≡ true = and_l (below s slots && below t slots) (linked S m s t) e in (
        linked_in m s t (and_r (below s slots && below t slots) (linked S m s t) e),
        (below_out s slots (and_l (below s slots) (below t slots) r), below_out t slots (and_r (below s slots) (below t slots) r)),
      )
