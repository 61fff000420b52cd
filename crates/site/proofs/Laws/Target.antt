-- The target byte of a functional link is the model's target.
use Rattle.std.specs.Prelude.{◌≡◌, ◌⊎◌, ◌≢◌, Bool, true, false, not, ◌&&◌, List, ℕ, zero, suc, ◌+◌, ◌*◌, ◌≤◌, ◌<◌, get_or}
use Rattle.std.proofs.Common.{sym, ◌∙◌, ap, inl, inr, arith}
use Rattle.std.proofs.Math.Bool.{and-false}
use Rattle.finite.specs.Tests.{same}
use Rattle.finite.proofs.Laws.Bools.{either}
use Rattle.finite.proofs.Laws.Below.{equal?, same_refl, eq_same, ne_same}
use Rattle.limits.specs.Limits.{slots, links, general_links}
use Rattle.semantics.specs.Edit.{find, target}
use Rattle.site.specs.Layout.{target_at}
use Rattle.site.specs.Site.{site_of}
use Rattle.site.proofs.Laws.Read.{target_is}

-- nothing is at nil
pub nil_none : (t : ℕ) → (same 0 t && not (same t 0)) ≡ false
nil_none t = either (equal? t 0) (λ q. rw (q, same_refl 0)) (λ n. rw (ne_same (λ q. n (sym q))))

-- a set that has v alone, and nothing where v is 0
find-one : (n v : ℕ) (P : ℕ → Bool) → ((t : ℕ) → t < n → P t ≡ (same v t && not (same t 0))) → (v < n) ⊎ (v ≡ 0) → find n P ≡ v
unfolding find
find-one zero v P h i = either i (λ l. absurd (omega arith)) sym
find-one (suc n) v P h i =
    either
    (equal? v n)
    (λ e. either (equal? n 0) (λ z. rw (h n (omega arith) ∙ nil z) (find-one n v P (λ t l. h t (omega arith)) (inr (e ∙ z)))) (λ z. rw (h n (omega arith) ∙ hit e z) (sym e)))
    (λ e. rw (h n (omega arith) ∙ ap (λ (b : Bool). b && not (same n 0)) (ne_same e)) (find-one n v P (λ t l. h t (omega arith)) (either i (λ l. inl (omega arith)) inr)))
  where
    nil : n ≡ 0 → (same v n && not (same n 0)) ≡ false
    nil z = rw (eq_same z) (and-false (same v n))

    hit : v ≡ n → n ≢ 0 → (same v n && not (same n 0)) ≡ true
    hit e z = rw (eq_same e, ne_same z)

pub target_byte : (S : List ℕ) (f s : ℕ) → general_links ≤ f → f < links → s < slots → get_or S (target_at f s) 0 < slots
    → target (site_of S) f s ≡ get_or S (target_at f s) 0
unfolding target
target_byte S f s hg hl hs b = find-one slots (get_or S (target_at f s) 0) ((site_of S).link f s) (λ t ht. target_is S f s t hg hl hs ht) (inl b)

-- the byte that was read of the functional link f, counted among its kind
pub target_shown : (S : List ℕ) (f i s j v : ℕ) → i ≡ f → i < 4 → j ≡ s → s < 256 → v < 256 → v ≡ get_or S (592 + 256 * i + j) 0 → v ≡ target (site_of S) (general_links + f) s
unfolding slots
target_shown S f i s j v e l q h b r =
    let at : 592 + 256 * i + j ≡ target_at (general_links + f) s = omega (arith, e, q) in
    let here : v ≡ get_or S (target_at (general_links + f) s) 0 = r ∙ ap (λ k. get_or S k 0) at in
    here ∙ sym (target_byte S (general_links + f) s (omega arith) (omega (arith, e, l)) h (rw (← here) b))
