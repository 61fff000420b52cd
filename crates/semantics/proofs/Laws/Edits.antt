-- An edit that goes through leaves a valid site valid, and so does a sheet.
use Rattle.std.specs.Prelude.{◌≡◌, refl, ◌⊎◌, ◌≢◌, List, [], ◌∷◌, false, ◌&&◌, ℕ, zero, suc, ◌<◌, true, not, ◌||◌}
use Rattle.std.proofs.Common.{◌∙◌, ap, subst, inl, inr, arith, sym}
use Rattle.finite.specs.Tests.{same, below}
use Rattle.finite.proofs.Laws.Bools.{either, look, clash, and_in, and_l, and_r, or_l, or_r, or_out, not_in, not_out, cond_comes, cond_was}
use Rattle.finite.proofs.Laws.Below.{same_eq, eq_same, ne_same, equal?, below_out}
use Rattle.limits.specs.Limits.{slots, names, links, general_links}
use Rattle.semantics.specs.Holds.{Set, Model}
use Rattle.semantics.specs.Edit.{Edit, CN1, CN2, AP, DP, AT, RT, DT1, DT2, AS, DS, functional, find, target, edit, legal, goes, Valid, sheet, sheet_legal, sheet_goes}

-- where the search for a target ends
pub find_ends : (n : ℕ) (S : Set) → (((t : ℕ) → t < n → S t ≡ false) × (find n S ≡ 0)) ⊎ (S (find n S) ≡ true)
unfolding find
find_ends zero S = inl (λ t k. absurd (omega arith), refl)
find_ends (suc n) S =
    either
    (look (S n))
    (λ e. inr (rw (e, find) e))
    (λ e. either (find_ends n S)
    (λ p. inl (λ t k. either (equal? t n) (λ q. rw q e) (λ q. p.0 t (omega arith)), rw (e, find) p.1))
    (λ p. inr (rw (e, find) p)))

-- what proofs use of an edit's operands: no fixed name moves, and blocks are written with numbers in range
unfoldable pub Legal : Edit → Type 0
Legal (CN1 n1 n2) = (n1 ≢ 0) × (below n2 names ≡ true)
Legal (CN2 n1 n2 f) = (n1 ≢ 0) × (below n2 names ≡ true) × (functional f ≡ true)
Legal (AP n p) = below n names ≡ true
Legal (DP n p) = below n names ≡ true
Legal (AT m n1 n2) = (below n1 names ≡ true) × (below n2 names ≡ true)
Legal (RT f n1 n2) = (below n1 names ≡ true) × (below n2 names ≡ true)
Legal (DT1 m n1 n2) = (below n1 names ≡ true) × (below n2 names ≡ true)
Legal (DT2 f n) = below n names ≡ true
Legal (AS n k) = (n ≢ 0) × (below k slots ≡ true)
Legal (DS n) = below n names ≡ true

not_nil_lem : (n : ℕ) → (below n names && not (same n 0)) ≡ true → n ≢ 0
not_nil_lem n p e = not_out _ (and_r (below n names) _ p) (eq_same e)

pub legal_out : (e : Edit) → legal e ≡ true → Legal e
unfolding legal Legal
legal_out (CN1 n1 n2) l = (not_nil_lem n1 (and_l _ _ l), and_r (below n1 names && not (same n1 0)) _ l)
legal_out (CN2 n1 n2 f) l =
    let r = and_r (below n1 names && not (same n1 0)) _ l in
    (not_nil_lem n1 (and_l _ _ l), and_l _ _ r, and_r (below n2 names) _ r)
legal_out (AP n p) l = and_l _ _ l
legal_out (DP n p) l = and_l _ _ l
legal_out (AT m n1 n2) l = let r = and_r (below m links) _ l in (and_l _ _ r, and_r (below n1 names) _ r)
legal_out (RT f n1 n2) l = let r = and_r (functional f) _ l in (and_l _ _ r, and_r (below n1 names) _ r)
legal_out (DT1 m n1 n2) l = let r = and_r (below m links) _ l in (and_l _ _ r, and_r (below n1 names) _ r)
legal_out (DT2 f n) l = and_r (functional f) _ l
legal_out (AS n k) l = (not_nil_lem n (and_l _ _ l), and_r (below n names && not (same n 0)) _ l)
legal_out (DS n) l = l

-- what proofs use of an edit's going through: nil gets no link and stays, and a functional link from @n1 leads to @n2
unfoldable pub Goes : Edit → Model → Type 0
Goes (CN1 n1 n2) M = Unit {0}
Goes (CN2 n1 n2 f) M = Unit {0}
Goes (AP n p) M = Unit {0}
Goes (DP n p) M = Unit {0}
Goes (AT m n1 n2) M =
    (M.place n1 ≢ 0) × (M.place n2 ≢ 0)
    × (functional m ≡ true → (t : ℕ) → M.link m (M.place n1) t ≡ true → t ≡ M.place n2)
Goes (RT f n1 n2) M = (M.place n1 ≢ 0) × (M.place n2 ≢ 0)
Goes (DT1 m n1 n2) M = Unit {0}
Goes (DT2 f n) M = Unit {0}
Goes (AS n k) M = Unit {0}
Goes (DS n) M = M.place n ≢ 0

-- a functional link is a link
pub functional_small : (f : ℕ) → functional f ≡ true → f < links
unfolding functional
functional_small f p = below_out f links (and_r (not (below f general_links)) _ p)

module _ (M : Model) (v : Valid M) where
  -- a functional link leads to the target that the search finds
  pub target_one : (f s t : ℕ) → functional f ≡ true → M.link f s t ≡ true → t ≡ target M f s
  unfolding target
  target_one f s t o p =
      either
      (find_ends slots (M.link f s))
      (λ q. clash p (q.0 t (v.small t (v.to f s t p).0)))
      (λ q. v.one f s t _ o p q)

  target_present : (f s : ℕ) → M.present (target M f s) ≡ true
  unfolding target
  target_present f s = either (find_ends slots (M.link f s)) (λ q. rw q.1 v.nil_present) (λ q. (v.to _ _ _ q).0)

  neither : (n1 n2 : ℕ) → (not (same (M.place n1) 0) && not (same (M.place n2) 0)) ≡ true → (M.place n1 ≢ 0) × (M.place n2 ≢ 0)
  neither n1 n2 g = (λ e. not_out _ (and_l _ _ g) (eq_same e), λ e. not_out _ (and_r (not (same (M.place n1) 0)) _ g) (eq_same e))

  pub goes_out : (e : Edit) → goes e M ≡ true → Goes e M
  unfolding goes Goes
  goes_out (CN1 n1 n2) g = tt
  goes_out (CN2 n1 n2 f) g = tt
  goes_out (AP n p) g = tt
  goes_out (DP n p) g = tt
  goes_out (AT m n1 n2) g = (
    (neither n1 n2 (and_l _ _ g)).0,
    (neither n1 n2 (and_l _ _ g)).1,
    λ o t p.
        let e = target_one m (M.place n1) t o p in
        either
        (or_out _ _ (and_r (not (same (M.place n1) 0) && not (same (M.place n2) 0)) _ g))
        (λ q. absurd (not_out _ q o))
        (λ q. either (or_out _ _ q) (λ r. absurd ((v.to _ _ _ p).1 (e ∙ same_eq r))) (λ r. e ∙ same_eq r)),
  )
  goes_out (RT f n1 n2) g = neither n1 n2 g
  goes_out (DT1 m n1 n2) g = tt
  goes_out (DT2 f n) g = tt
  goes_out (AS n k) g = tt
  goes_out (DS n) g = λ e. not_out _ g (eq_same e)

  -- a valid site with other names, other labels or other links
  renamed : (place : ℕ → ℕ) → place 0 ≡ 0 → ((n : ℕ) → M.present (place n) ≡ true)
      → Valid (record { present = M.present; marked = M.marked; place = place; link = M.link })
  renamed place nil named = record {
    small = v.small;
    nil_present = v.nil_present;
    nil_named = nil;
    named = named;
    labelled = v.labelled;
    from = v.from;
    to = v.to;
    one = v.one;
  }

  relabelled : (marked : ℕ → Set) → ((p s : ℕ) → marked p s ≡ true → (M.present s ≡ true) × (s ≢ 0))
      → Valid (record { present = M.present; marked = marked; place = M.place; link = M.link })
  relabelled marked h = record {
    small = v.small;
    nil_present = v.nil_present;
    nil_named = v.nil_named;
    named = v.named;
    labelled = h;
    from = v.from;
    to = v.to;
    one = v.one;
  }

  relinked : (link : ℕ → ℕ → Set)
      → ((m s t : ℕ) → link m s t ≡ true → ((M.present s ≡ true) × (s ≢ 0)) × ((M.present t ≡ true) × (t ≢ 0)))
      → ((m s t u : ℕ) → functional m ≡ true → link m s t ≡ true → link m s u ≡ true → t ≡ u)
      → Valid (record { present = M.present; marked = M.marked; place = M.place; link = link })
  relinked link ends one = record {
    small = v.small;
    nil_present = v.nil_present;
    nil_named = v.nil_named;
    named = v.named;
    labelled = v.labelled;
    from = λ m s t h. (ends m s t h).0;
    to = λ m s t h. (ends m s t h).1;
    one = one;
  }

  fewer_links : (link : ℕ → ℕ → Set) → ((m s t : ℕ) → link m s t ≡ true → M.link m s t ≡ true)
      → Valid (record { present = M.present; marked = M.marked; place = M.place; link = link })
  fewer_links link h =
      relinked link (λ m s t p. (v.from m s t (h m s t p), v.to m s t (h m s t p))) (λ m s t u f p q. v.one m s t u f (h m s t p) (h m s u q))

  valid_after : (e : Edit) → Legal e → Goes e M → Valid (edit e M)
  unfolding edit Legal Goes
  valid_after (CN1 n1 n2) l g =
      renamed _ (rw (ne_same {m = 0} {n = n1} (λ q. l.0 (sym q))) v.nil_named)
      (λ n. either (look (same n n1)) (λ e. rw e (v.named n2)) (λ e. rw e (v.named n)))
  valid_after (CN2 n1 n2 f) l g =
      renamed _ (rw (ne_same {m = 0} {n = n1} (λ q. l.0 (sym q))) v.nil_named)
      (λ n. either (look (same n n1)) (λ e. rw e (target_present f (M.place n2))) (λ e. rw e (v.named n)))
  valid_after (AP n p) l g =
      relabelled _ (λ q s h. either (cond_comes ◌||◌ or_out _ (same q p) _ h)
      (λ x. v.labelled q s x)
      (λ x.
      let at : s ≡ M.place n = same_eq (and_l _ _ x.1) in
      let off = not_out (same s 0) (and_r (same s (M.place n)) _ x.1) in
      (subst (λ z. M.present z ≡ true) (sym at) (v.named n), λ z. off (eq_same z))))
  valid_after (DP n p) l g = relabelled _ (λ q s h. v.labelled q s (cond_was _ (same q p) _ h))
  valid_after (AT m n1 n2) l g =
      relinked _
      (λ j s t h. either (cond_comes ◌||◌ or_out _ (same j m) _ h)
      (λ x. (v.from j s t x, v.to j s t x))
      (λ x.
      let a : s ≡ M.place n1 = same_eq (and_l _ _ x.1) in
      let b : t ≡ M.place n2 = new s t x.1 in
      (rw a (v.named n1, g.0), rw b (v.named n2, g.1))))
      (λ j s t u f h k. either (cond_comes ◌||◌ or_out _ (same j m) _ h)
      (λ x. either (cond_comes ◌||◌ or_out _ (same j m) _ k) (λ y. v.one j s t u f x y) (λ y. old j s t f y.0 (and_l _ _ y.1) x ∙ sym (new s u y.1)))
      (λ x. either (cond_comes ◌||◌ or_out _ (same j m) _ k)
      (λ y. new s t x.1 ∙ sym (old j s u f x.0 (and_l _ _ x.1) y))
      (λ y. new s t x.1 ∙ sym (new s u y.1))))
    where
      -- the new link leads to @n2, and so does an old one from @n1
      new : (s t : ℕ) → (same s (M.place n1) && same t (M.place n2)) ≡ true → t ≡ M.place n2
      new s t x = same_eq (and_r (same s (M.place n1)) _ x)

      old : (j s t : ℕ) → functional j ≡ true → same j m ≡ true → same s (M.place n1) ≡ true → M.link j s t ≡ true → t ≡ M.place n2
      old j s t f a b h =
          g.2 (subst (λ i. functional i ≡ true) (same_eq a) f) t
          (subst (λ z. M.link m z t ≡ true) (same_eq b) (subst (λ i. M.link i s t ≡ true) (same_eq a) h))
  valid_after (RT f n1 n2) l g =
      relinked _
      (λ j s t h. either (look (same j f && same s (M.place n1)))
      (λ c.
      let a : s ≡ M.place n1 = same_eq (and_r (same j f) _ c) in
      let b : t ≡ M.place n2 = same_eq (rw c at h) in
      (rw a (v.named n1, g.0), rw b (v.named n2, g.1)))
      (λ c. let x : M.link j s t ≡ true = rw c at h in (v.from j s t x, v.to j s t x)))
      (λ j s t u o h k. either (look (same j f && same s (M.place n1)))
      (λ c.
      let a : t ≡ M.place n2 = same_eq (rw c at h) in
      let b : u ≡ M.place n2 = same_eq (rw c at k) in
      a ∙ sym b)
      (λ c. v.one j s t u o (rw c at h) (rw c at k)))
  valid_after (DT1 m n1 n2) l g = fewer_links _ (λ j s t h. cond_was _ (same j m) _ h)
  valid_after (DT2 f n) l g = fewer_links _ (λ j s t h. cond_was _ (same j f) _ h)
  valid_after (AS n j) l g = record {
    small = λ s h. either (or_out _ _ h) (λ x. v.small s x) (λ x. rw (same_eq x) (below_out j slots l.1));
    nil_present = or_l _ _ v.nil_present;
    nil_named = rw (ne_same {m = 0} {n = n} (λ q. l.0 (sym q))) v.nil_named;
    named = λ y. either (look (same y n)) (λ e. rw e (or_r (M.present j) _ (eq_same refl))) (λ e. rw e (or_l _ _ (v.named y)));
    labelled = λ p s h. (or_l _ _ (v.labelled p s h).0, (v.labelled p s h).1);
    from = λ m s t h. (or_l _ _ (v.from m s t h).0, (v.from m s t h).1);
    to = λ m s t h. (or_l _ _ (v.to m s t h).0, (v.to m s t h).1);
    one = v.one;
  }
  valid_after (DS n) l g =
      let nil : (M.present 0 && not (same 0 (M.place n))) ≡ true = and_in v.nil_present (not_in (λ q. g (sym (same_eq q)))) in
      record {
        small = λ s h. v.small s (and_l _ _ h);
        nil_present = nil;
        nil_named = either (look (same (M.place 0) (M.place n))) (λ e. rw e) (λ e. rw e v.nil_named);
        named = λ y. either (look (same (M.place y) (M.place n))) (λ e. rw e nil) (λ e. rw e (and_in (v.named y) (ap not e)));
        labelled = λ p s h. let r = v.labelled p s (and_l _ _ h) in (and_in r.0 (and_r (M.marked p s) _ h), r.1);
        from = λ m s t h.
            let r = v.from m s t (and_l _ _ h) in
            let off = not_out (same s (M.place n) || same t (M.place n)) (and_r (M.link m s t) _ h) in
            (and_in r.0 (not_in {b = same s (M.place n)} (λ q. off (or_l _ _ q))), r.1);
        to = λ m s t h.
            let r = v.to m s t (and_l _ _ h) in
            let off = not_out (same s (M.place n) || same t (M.place n)) (and_r (M.link m s t) _ h) in
            (and_in r.0 (not_in (λ q. off (or_r (same s (M.place n)) _ q))), r.1);
        one = λ m s t u f h k. v.one m s t u f (and_l _ _ h) (and_l _ _ k);
      }

pub edit_valid : (e : Edit) → legal e ≡ true → (M : Model) → Valid M → goes e M ≡ true → Valid (edit e M)
edit_valid e l M v g = valid_after M v e (legal_out e l) (goes_out M v e g)

pub sheet_valid : (es : List Edit) → sheet_legal es ≡ true → (M : Model) → Valid M → sheet_goes es M ≡ true → Valid (sheet es M)
unfolding sheet sheet_legal sheet_goes
sheet_valid [] l M v g = v
sheet_valid (e ∷ es) l M v g =
    sheet_valid es (and_r (legal e) _ l) (edit e M) (edit_valid e (and_l _ _ l) M v (and_l _ _ g)) (and_r (goes e M) _ g)
