-- The links of one slot on sets: a general link by the slot's row, a functional one by its target v.
use Rattle.std.specs.Prelude.{◌≡◌, ◌≢◌, Bool, false, ◌&&◌, List, ℕ, ◌≤◌, ◌<◌, get_or, not}
use Rattle.std.proofs.Common.{◌∙◌, sym, ap}
use Rattle.finite.specs.Tests.{same, any}
use Rattle.finite.proofs.Laws.Bools.{either, look, both, and_l}
use Rattle.finite.proofs.Laws.Below.{equal?, any_in, none_any, same_eq, same_refl, eq_same, ne_same, any_cong}
use Rattle.bitset.specs.Set.{set_slots, has}
use Rattle.limits.specs.Limits.{slots, links, general_links}
use Rattle.site.specs.Layout.{target_at}
use Rattle.site.specs.Site.{site_of}
use Rattle.site.proofs.Laws.Read.{target_read}
use Rattle.site.proofs.Laws.Target.{nil_none}

-- where all numbers but v fail, v decides
pub any_only : (n : ℕ) (f : ℕ → Bool) (v : ℕ) → v < n → ((t : ℕ) → t ≢ v → f t ≡ false) → any n f ≡ f v
any_only n f v hv h =
    either
    (look (f v))
    (λ e. any_in n f v hv e ∙ sym e)
    (λ e. none_any n f (λ t l. either (equal? t v) (λ q. rw q e) (h t)) ∙ sym e)

module _ (S : List ℕ) (m s : ℕ) (hs : s < set_slots) (hg : general_links ≤ m) (hl : m < links) (v : ℕ) (e : v ≡ get_or S (target_at m s) 0) where
  only : (T : List ℕ) → v < set_slots → any slots (λ t. (site_of S).link m s t && has T t) ≡ (not (same v 0) && has T v)
  unfolding slots
  only T hv =
      any_cong slots _ _ (λ t h. ap (λ (x : Bool). x && has T t) (target_read S m s hg hl hs v e t h))
      ∙ any_only slots (λ t. (same v t && not (same t 0)) && has T t) v hv (λ t n. rw (ne_same (λ q. n (sym q))))
      ∙ rw (same_refl v)

  -- whether it leads into T
  pub target_none : (T : List ℕ) → v < set_slots → v ≡ 0 → any slots (λ t. (site_of S).link m s t && has T t) ≡ false
  target_none T hv z = only T hv ∙ rw (eq_same z)

  pub target-meets : (T : List ℕ) → v < set_slots → v ≢ 0 → any slots (λ t. (site_of S).link m s t && has T t) ≡ has T v
  target-meets T hv n = only T hv ∙ rw (ne_same n)

  -- where it leads to
  pub target_nowhere : v ≡ 0 → (t : ℕ) → t < set_slots → (site_of S).link m s t ≡ false
  target_nowhere z t h = target_read S m s hg hl hs v e t h ∙ rw z (nil_none t)

  pub target_alone : v ≢ 0 → (t : ℕ) → t < set_slots → (site_of S).link m s t ≡ same t v
  target_alone n t h =
      target_read S m s hg hl hs v e t h
      ∙ both
      (λ p. eq_same (sym (same_eq (and_l (same v t) (not (same t 0)) p))))
      (λ p. let q = same_eq p in rw (eq_same (sym q), ne_same (λ z. n (sym q ∙ z))))
