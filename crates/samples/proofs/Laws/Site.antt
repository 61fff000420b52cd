-- A small site is valid where a test passes, which the checker computes.
use Rattle.std.specs.Prelude.{◌≡◌, refl, ◌≢◌, Bool, true, not, ◌&&◌, ◌||◌, ℕ, List, [], ◌∷◌}
use Rattle.std.proofs.Common.{◌∙◌, subst, sym}
use Rattle.finite.specs.Tests.{same, below}
use Rattle.finite.proofs.Laws.Bools.{either, look, clash, and_in, and_l, and_r, or_out, not_out}
use Rattle.finite.proofs.Laws.Below.{same_eq, eq_same, below_out}
use Rattle.limits.specs.Limits.{slots}
use Rattle.semantics.specs.Edit.{functional, Valid}
use Rattle.samples.specs.Site.{some, each, Small, name_at, model}

-- an element that passes one test where each passes another passes both
pub some-each : {A : Type 0} (f g : A → Bool) (xs : List A) → some f xs ≡ true → each g xs ≡ true → (x : A) × (f x ≡ true) × (g x ≡ true)
unfolding some each
some-each f g [] p q = clash p refl
some-each f g (x ∷ xs) p q =
    either
    (or_out (f x) (some f xs) p)
    (λ a. (x, a, and_l _ _ q))
    (λ a. some-each f g xs a (and_r (g x) _ q))

-- the slot s is present and is not slot 0
unfoldable pub on_site : Small → ℕ → Bool
on_site a s = (model a).present s && not (same s 0)

-- two links agree: a functional one has one target
unfoldable pub agree : (ℕ × ℕ × ℕ) → (ℕ × ℕ × ℕ) → Bool
agree x y = not (functional x.0 && (same x.0 y.0 && same x.1 y.1)) || same x.2 y.2

unfoldable pub slots_are_present : Small → Bool
slots_are_present a = each (λ s. below s slots) a.slots_here && (model a).present 0

unfoldable pub names_here : Small → Bool
names_here a = same (name_at a.names_at 0) 0 && each (λ x. (model a).present x.1) a.names_at

unfoldable pub link_here : Small → (ℕ × ℕ × ℕ) → Bool
link_here a x = (on_site a x.1 && on_site a x.2) && each (agree x) a.links_of

unfoldable pub valid_small : Small → Bool
valid_small a =
    (slots_are_present a && names_here a)
    && (each (λ x. on_site a x.1) a.labels_on && each (link_here a) a.links_of)

module _ (a : Small) (ok : valid_small a ≡ true) where
  slots_ok : slots_are_present a ≡ true
  unfolding valid_small
  slots_ok = and_l _ _ (and_l _ _ ok)

  names_ok : names_here a ≡ true
  unfolding valid_small
  names_ok = and_r (slots_are_present a) _ (and_l _ _ ok)

  labels_ok : each (λ x. on_site a x.1) a.labels_on ≡ true
  unfolding valid_small
  labels_ok = and_l _ _ (and_r (slots_are_present a && names_here a) _ ok)

  links_ok : each (link_here a) a.links_of ≡ true
  unfolding valid_small
  links_ok = and_r (each (λ x. on_site a x.1) a.labels_on) _ (and_r (slots_are_present a && names_here a) _ ok)

  named_in : (xs : List (ℕ × ℕ)) → each (λ x. (model a).present x.1) xs ≡ true → (n : ℕ) → (model a).present (name_at xs n) ≡ true
  unfolding each name_at slots_are_present
  named_in [] q n = and_r (each (λ s. below s slots) a.slots_here) _ slots_ok
  named_in (x ∷ xs) q n =
      either
      (look (same n x.0))
      (λ e. rw e (and_l _ _ q))
      (λ e. rw e (named_in xs (and_r ((model a).present x.1) _ q) n))

  -- a slot that is one of the site's
  on_out : (s t : ℕ) → s ≡ t → on_site a t ≡ true → ((model a).present s ≡ true) × (s ≢ 0)
  unfolding on_site
  on_out s t e p =
      rw e
      (and_l _ _ p, λ z. not_out (same t 0) (and_r ((model a).present t) _ p) (eq_same z))

  -- a link is one of the site's list
  linked : (m s t : ℕ) (g : (ℕ × ℕ × ℕ) → Bool) → each g a.links_of ≡ true → (model a).link m s t ≡ true
      → (x : ℕ × ℕ × ℕ) × (m ≡ x.0) × (s ≡ x.1) × (t ≡ x.2) × (g x ≡ true)
  unfolding model
  linked m s t g q p =
      let r = some-each (λ x. same m x.0 && (same s x.1 && same t x.2)) g a.links_of p q in
      let x = r.0 in
      let ends = and_r (same m x.0) _ r.1 in
      (x, same_eq (and_l _ _ r.1), same_eq (and_l _ _ ends), same_eq (and_r (same s x.1) _ ends), r.2)

  agreed : (x y : ℕ × ℕ × ℕ) → agree x y ≡ true → functional x.0 ≡ true → x.0 ≡ y.0 → x.1 ≡ y.1 → x.2 ≡ y.2
  unfolding agree
  agreed x y p f e d =
      either
      (or_out _ _ p)
      (λ q. absurd (not_out _ q (and_in f (and_in (eq_same e) (eq_same d)))))
      (λ q. same_eq q)

  pub small_valid : Valid (model a)
  unfolding model slots_are_present names_here link_here
  small_valid = record {
    small = λ s p.
        let r = some-each (same s) (λ s. below s slots) a.slots_here p (and_l _ _ slots_ok) in
        below_out s slots (subst (λ t. below t slots ≡ true) (sym (same_eq r.1)) r.2);
    nil_present = and_r (each (λ s. below s slots) a.slots_here) _ slots_ok;
    nil_named = same_eq (and_l _ _ names_ok);
    named = named_in a.names_at (and_r (same (name_at a.names_at 0) 0) _ names_ok);
    labelled = λ p s h.
        let r = some-each _ _ a.labels_on h labels_ok in
        on_out s r.0.1 (same_eq (and_r (same p r.0.0) _ r.1)) r.2;
    from = λ m s t h.
        let r = linked m s t (link_here a) links_ok h in
        on_out s r.0.1 r.2 (and_l _ _ (and_l _ _ r.4));
    to = λ m s t h.
        let r = linked m s t (link_here a) links_ok h in
        on_out t r.0.2 r.3 (and_r (on_site a r.0.1) _ (and_l _ _ r.4));
    one = λ m s t u f h k.
        let r = linked m s t (link_here a) links_ok h in
        let x = r.0 in
        let q = linked m s u (agree x) (and_r (on_site a x.1 && on_site a x.2) _ r.4) k in
        r.3 ∙ agreed x q.0 q.4 (subst (λ l. functional l ≡ true) r.1 f) (sym r.1 ∙ q.1) (sym r.2 ∙ q.2) ∙ sym q.3;
  }
