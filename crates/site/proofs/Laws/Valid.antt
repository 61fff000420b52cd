-- The sites that are accepted are those of the right length that are valid.
use Rattle.std.specs.Prelude.{◌≡◌, refl, ◌↔◌, ◌≢◌, false, ◌&&◌, ◌||◌, cond, List, length, get_or, Bool, true, not, ℕ, ◌<◌, Err}
use Rattle.std.proofs.Common.{sym, ◌∙◌, arith, ap}
use Rattle.std.proofs.Math.Decide.{dec_lt}
use Rattle.std.proofs.lemmas.Bool.{not-false}
use Rattle.finite.specs.Tests.{same, any}
use Rattle.finite.proofs.Laws.Bools.{clash, no_true, and_in, and_l, and_r, or_l, or_none}
use Rattle.finite.proofs.Laws.Below.{same_eq, eq_same, ne_same, same_refl, any_in, any_none, none_any}
use Rattle.limits.specs.Limits.{slots, labels, names, links}
use Rattle.semantics.specs.Holds.{Model}
use Rattle.semantics.specs.Edit.{functional, Valid}
use Rattle.verdict.proofs.Laws.{refused}
use Rattle.verdict.specs.Verdict.{Accepted}
use Rattle.verdict.specs.declared.Refusal.TheVariants.{SiteLength, Names, Labels, Links}
use Rattle.site.specs.Layout.{site_bytes, target_at}
use Rattle.site.specs.Site.{site_of}
use Rattle.site.specs.Refusal.{item4, item5, item6, barred, touches, site_verdict}
use Rattle.site.proofs.Laws.Read.{functional_out, present_in, marked_in, link_in, target_is, place_out}

-- none of items 4 to 6 is met
pub record Passes (M : Model) : Type 0 where
  pub names_pass : item4 M ≡ false
  pub labels_pass : item5 M ≡ false
  pub links_pass : item6 M ≡ false

-- ---- what is accepted

pub accepted_out : (S : List ℕ) → site_verdict S ≡ Accepted → (length S ≡ site_bytes) × Passes (site_of S)
unfolding site_verdict
accepted_out S e =
    let r = chain (same (length S) site_bytes) (item4 (site_of S)) (item5 (site_of S)) (item6 (site_of S)) e in
    (same_eq r.0, record { names_pass = r.1.0; labels_pass = r.1.1.0; links_pass = r.1.1.1 })
  where
    chain : (a b c d : Bool)
        → cond (not a) (Err SiteLength) (cond b (Err Names) (cond c (Err Labels) (cond d (Err Links) Accepted))) ≡ Accepted
        → (a ≡ true) × ((b ≡ false) × ((c ≡ false) × (d ≡ false)))
    chain false b c d p = refused p
    chain true true c d p = refused p
    chain true false true d p = refused p
    chain true false false true p = refused p
    chain true false false false p = (refl, (refl, (refl, refl)))

pub wrong_length : (S : List ℕ) → length S ≢ site_bytes → site_verdict S ≡ Err SiteLength
unfolding site_verdict
wrong_length S h = rw (ne_same h)

pub accepted_in : (S : List ℕ) → length S ≡ site_bytes → Passes (site_of S) → site_verdict S ≡ Accepted
unfolding site_verdict
accepted_in S l h = rw (eq_same l, h.names_pass, h.labels_pass, h.links_pass)

-- a label on slot 0 meets item 5
pub nil_labelled : (S : List ℕ) → length S ≡ site_bytes → item4 (site_of S) ≡ false → (p : ℕ) → (site_of S).marked p 0 ≡ true → site_verdict S ≡ Err Labels
unfolding site_verdict item5 barred slots
nil_labelled S l h p m =
    let on : any slots (λ s. (site_of S).marked p s && barred (site_of S) s) ≡ true =
    any_in slots _ 0 (omega arith) (and_in m (or_l (same 0 0) _ (same_refl 0))) in
    let met : item5 (site_of S) ≡ true = any_in labels _ p (marked_in S p 0 m).0 on in
    rw (eq_same l, h, met)

-- ---- a valid site meets none of the items

barred-not : (M : Model) (s : ℕ) → M.present s ≡ true → s ≢ 0 → barred M s ≡ false
unfolding barred
barred-not M s p n = rw (ne_same n, p)

module _ (M : Model) (v : Valid M) where
  valid_names : item4 M ≡ false
  unfolding item4
  valid_names =
      rw (v.nil_present, eq_same v.nil_named) (none_any names (λ n. not (M.present (M.place n))) (λ n h. ap not (v.named n)))

  valid_labels : item5 M ≡ false
  unfolding item5
  valid_labels =
      none_any labels _ (λ p hp. none_any slots (λ s. M.marked p s && barred M s) (λ s hs. no_true (λ e.
      let r = v.labelled p s (and_l (M.marked p s) _ e) in
      clash (and_r (M.marked p s) _ e) (barred-not M s r.0 r.1))))

  valid_links : item6 M ≡ false
  unfolding item6 touches
  valid_links = none_any links _ (λ m hm. none_any slots _ (λ s hs. none_any slots (λ t. M.link m s t && (barred M s || barred M t)) (λ t ht. no_true (one m s t))))
    where
      one : (m s t : ℕ) → (M.link m s t && (barred M s || barred M t)) ≡ true → ⊥
      one m s t e =
          let l : M.link m s t ≡ true = and_l (M.link m s t) _ e in
          let from = v.from m s t l in
          let to = v.to m s t l in
          clash (and_r (M.link m s t) _ e) (rw (barred-not M s from.0 from.1, barred-not M t to.0 to.1))

  pub valid_passes : Passes M
  valid_passes = record { names_pass = valid_names; labels_pass = valid_labels; links_pass = valid_links }

-- ---- a site that meets none of the items is valid

and_none : (a b : Bool) → (a && b) ≡ false → a ≡ true → b ≡ false
and_none true b e p = e
and_none false b e p = clash p refl

barred-none : (M : Model) (s : ℕ) → barred M s ≡ false → (M.present s ≡ true) × (s ≢ 0)
unfolding barred
barred-none M s e =
    let r = or_none (same s 0) (not (M.present s)) e in
    (not-false _ r.1, λ q. clash (eq_same q) r.0)

module _ (S : List ℕ) (h : Passes (site_of S)) where
  abbrev M : Model
  M = site_of S

  nil : (M.present 0 ≡ true) × ((M.place 0 ≡ 0) × (any names (λ n. not (M.present (M.place n))) ≡ false))
  unfolding item4
  nil =
      let r = or_none (not (M.present 0)) _ h.names_pass in
      let q = or_none (not (same (M.place 0) 0)) _ r.1 in
      (not-false _ r.0, (same_eq (not-false _ q.0), q.1))

  name_at_lem : (n : ℕ) → M.present (M.place n) ≡ true
  name_at_lem n = go (dec_lt n names)
    where
      go : Dec (n < names) → M.present (M.place n) ≡ true
      go (yes l) = not-false _ (any_none names (λ n. not (M.present (M.place n))) nil.1.1 n l)
      go (no l) = rw (place_out S n (omega arith)) nil.0

  label_at : (p s : ℕ) → M.marked p s ≡ true → (M.present s ≡ true) × (s ≢ 0)
  unfolding item5
  label_at p s e =
      let r = marked_in S p s e in
      barred-none M s (and_none (M.marked p s) _ (any_none slots (λ s. M.marked p s && barred M s) (any_none labels _ h.labels_pass p r.0) s r.1) e)

  ends : (m s t : ℕ) → M.link m s t ≡ true → (barred M s ≡ false) × (barred M t ≡ false)
  unfolding item6 touches
  ends m s t e =
      let r = link_in S m s t e in
      let f : ℕ → Bool = λ t. M.link m s t && (barred M s || barred M t) in
      or_none (barred M s) (barred M t) (and_none (M.link m s t) _ (any_none slots f (any_none slots _ (any_none links _ h.links_pass m r.0) s r.1.0) t r.1.1) e)

  one-target : (m s t u : ℕ) → functional m ≡ true → M.link m s t ≡ true → M.link m s u ≡ true → t ≡ u
  one-target m s t u f p q = sym (at t p) ∙ at u q
    where
      at : (t : ℕ) → M.link m s t ≡ true → get_or S (target_at m s) 0 ≡ t
      at t p =
          let r = link_in S m s t p in
          let k = functional_out m f in
          same_eq (and_l (same (get_or S (target_at m s) 0) t) (not (same t 0)) (sym (target_is S m s t k.0 k.1 r.1.0 r.1.1) ∙ p))

  pub passes_valid : Valid (site_of S)
  passes_valid = record {
    small = present_in S;
    nil_present = nil.0;
    nil_named = nil.1.0;
    named = name_at_lem;
    labelled = label_at;
    from = λ m s t e. barred-none M s (ends m s t e).0;
    to = λ m s t e. barred-none M t (ends m s t e).1;
    one = one-target;
  }

pub site_valid : (S : List ℕ) → (site_verdict S ≡ Accepted) ↔ ((length S ≡ site_bytes) × Valid (site_of S))
site_valid S = (
  λ e. let r = accepted_out S e in (r.0, passes_valid S r.1),
  λ r. accepted_in S r.0 (valid_passes (site_of S) r.1),
)
