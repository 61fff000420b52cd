-- Booleans by cases, as the laws of the changes need them.
use Rattle.std.specs.Prelude.{◌≡◌, refl, ◌⊎◌, Bool, true, false, not, ◌&&◌, ◌||◌, cond, ℕ, ◌+◌}
use Rattle.std.proofs.Common.{sym, ◌∙◌, inl, arith}
use Rattle.std.proofs.Math.Bool.{and-true, or-false}
use Rattle.finite.specs.Tests.{same, below}
use Rattle.finite.proofs.Laws.Bools.{either, clash, both, and_l, or_l, or_r, or_out}
use Rattle.finite.proofs.Laws.Below.{equal?, same_eq, eq_same, below_in, below_out}

pub cond_yes {ℓ} : {A : Type ℓ} {b : Bool} (x y : A) → b ≡ true → cond b x y ≡ x
cond_yes {b = true} x y p = refl
cond_yes {b = false} x y p = clash p refl

pub cond_no {ℓ} : {A : Type ℓ} {b : Bool} (x y : A) → b ≡ false → cond b x y ≡ y
cond_no {b = true} x y p = clash refl p
cond_no {b = false} x y p = refl

pub cond_same {ℓ} : {A : Type ℓ} (b : Bool) (x : A) → cond b x x ≡ x
cond_same true x = refl
cond_same false x = refl

-- tests under a test that has passed
pub guard : (b : Bool) {x y : Bool} → (b ≡ true → x ≡ y) → (b && x) ≡ (b && y)
guard true h = h refl
guard false h = refl

-- an address is equal where its parts are
pub same_by : {m n : ℕ} {b : Bool} → (m ≡ n → b ≡ true) → (b ≡ true → m ≡ n) → same m n ≡ b
same_by f g = both (λ p. f (same_eq p)) (λ p. eq_same (g p))

-- ---- a test that is changed where another passes: by "or" that is put in, by "and not" it is taken out

abbrev pub takes : Bool → Bool → Bool
takes a b = a && not b

pub record Changes (g : Bool → Bool → Bool) : Type 0 where
  pub keeps : (a : Bool) → g a false ≡ a
  pub comes : (a b : Bool) → g a b ≡ true → (a ≡ true) ⊎ (b ≡ true)

pub puts_changes : Changes ◌||◌
puts_changes = record { keeps = or-false; comes = or_out }

pub takes_changes : Changes takes
takes_changes = record { keeps = and-true; comes = λ a b p. inl (and_l a (not b) p) }

-- changed at b alone, where d passes
module _ (g : Bool → Bool → Bool) (ch : Changes g) where
  pub at-cond : (a b d : Bool) → g a (b && d) ≡ cond b (g a d) a
  at-cond a true d = refl
  at-cond a false d = ch.keeps a

  pub cond_off : (a b c d : Bool) → (b && c) ≡ false → a ≡ cond b (g a (c && d)) a
  cond_off a true true d p = clash refl p
  cond_off a true false d p = sym (ch.keeps a)
  cond_off a false c d p = refl

-- where a test passes, d alone is d put in, if nothing else is there
pub alone_put : (a b c d : Bool) → ((b && c) ≡ true → a ≡ true → d ≡ true) → cond (b && c) d a ≡ cond b (a || (c && d)) a
alone_put true true true d h = h refl refl
alone_put false true true d h = refl
alone_put a true false d h = sym (or-false a)
alone_put a false c d h = refl

-- ---- one more turn of a loop: e is "this one", b is "one before it"

pub below_more : (q i : ℕ) → below q (i + 1) ≡ (below q i || same q i)
below_more q i =
    both
    (λ p.
    let h = below_out q (i + 1) p in
    either (equal? q i) (λ e. or_r (below q i) _ (eq_same e)) (λ e. or_l _ _ (below_in q i (omega arith))))
    (λ p.
    either
    (or_out _ _ p)
    (λ b. let h = below_out q i b in below_in q (i + 1) (omega arith))
    (λ e. let h = same_eq e in below_in q (i + 1) (omega arith)))

pub more_cond : (a b c e : Bool) → cond e ((a && not (b && c)) && not c) (a && not (b && c)) ≡ (a && not ((b || e) && c))
more_cond false b c true = refl
more_cond false b c false = refl
more_cond true true true true = refl
more_cond true true true false = refl
more_cond true true false true = refl
more_cond true true false false = refl
more_cond true false true true = refl
more_cond true false true false = refl
more_cond true false false true = refl
more_cond true false false false = refl

pub more_and : (a b c e : Bool) → ((a && not (b && c)) && not (e && c)) ≡ (a && not ((b || e) && c))
more_and false b c e = refl
more_and true true true e = refl
more_and true true false true = refl
more_and true true false false = refl
more_and true false c e = refl

pub more_place : (b e : Bool) (w x : ℕ)
    → cond (e && same (cond (b && same w x) 0 w) x) 0 (cond (b && same w x) 0 w) ≡ cond ((b || e) && same w x) 0 w
more_place true e w x = go e (same w x) (same w x) refl refl
  where
    go : (e p q : Bool) → same w x ≡ p → p ≡ q → cond (e && same (cond q 0 w) x) 0 (cond q 0 w) ≡ cond q 0 w
    go e p true f g = cond_same (e && same 0 x) 0
    go true p false f g = cond_no 0 w (f ∙ g)
    go false p false f g = refl
more_place false e w x = refl

-- in link m, the pair (s, x) for one more s: p is "to x"
pub more_pairs : (a m p b e : Bool) → cond m ((a && not (m && (p && b))) && not (e && p)) (a && not (m && (p && b))) ≡ (a && not (m && (p && (b || e))))
more_pairs a false p b e = refl
more_pairs false true p b e = refl
more_pairs true true true true e = refl
more_pairs true true true false true = refl
more_pairs true true true false false = refl
more_pairs true true false b true = refl
more_pairs true true false b false = refl

-- in link m, all pairs with x: p is "to x", q is "from x"
pub all_pairs : (a m p q : Bool) → cond m ((a && not (m && (p && true))) && not q) (a && not (m && (p && true))) ≡ (a && not (m && (q || p)))
all_pairs a false p q = refl
all_pairs false true p q = refl
all_pairs true true true true = refl
all_pairs true true true false = refl
all_pairs true true false true = refl
all_pairs true true false false = refl
