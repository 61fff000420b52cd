-- Edits of a site: what each does, its operands, when it goes through, and what a valid site is: docs/SPEC.md, "The site" and "The sheet".
use Rattle.std.specs.Prelude.{◌≡◌, ◌≢◌, List, [], ◌∷◌, Bool, true, not, ◌&&◌, ◌||◌, cond, ℕ, zero, suc, ◌<◌}
use Rattle.finite.specs.Tests.{same, below}
use Rattle.limits.specs.Limits.{slots, labels, names, links, general_links}
use Rattle.semantics.specs.Holds.{Set, Model}

-- the nine operations, 0 to 8, with their operands in the order of the sheet; and RT, which is what AT on a functional link is in a sheet of
-- edition 2: an uplink is re-homed
pub data Edit : Type 0 where
  CN1 : (n1 n2 : ℕ) → Edit
  CN2 : (n1 n2 f : ℕ) → Edit
  AP : (n p : ℕ) → Edit
  DP : (n p : ℕ) → Edit
  AT : (m n1 n2 : ℕ) → Edit
  DT1 : (m n1 n2 : ℕ) → Edit
  DT2 : (f n : ℕ) → Edit
  AS : (n k : ℕ) → Edit
  DS : (n : ℕ) → Edit
  RT : (f n1 n2 : ℕ) → Edit

-- the links from 4 on are functional
unfoldable pub functional : ℕ → Bool
functional m = not (below m general_links) && below m links

-- the last slot below n that is in S, and slot 0 where none is
unfoldable pub find : ℕ → Set → ℕ
find zero S = 0
find (suc n) S = cond (S n) n (find n S)

-- the f-target of s: the slot that link f leads to, and nil where there is none
unfoldable pub target : Model → ℕ → ℕ → ℕ
target M f s = find slots (M.link f s)

-- a site with one of its parts changed: the present slots, the labels, the places of names, or the links
abbrev pub set_present : Model → Set → Model
set_present M P = record { present = P; marked = M.marked; place = M.place; link = M.link }

abbrev pub set_marked : Model → (ℕ → Set) → Model
set_marked M L = record { present = M.present; marked = L; place = M.place; link = M.link }

abbrev pub set_place : Model → (ℕ → ℕ) → Model
set_place M P = record { present = M.present; marked = M.marked; place = P; link = M.link }

abbrev pub set_link : Model → (ℕ → ℕ → Set) → Model
set_link M L = record { present = M.present; marked = M.marked; place = M.place; link = L }

-- the effect of an edit. It reads the site before the edit; `M.place n` is "@n". Nil gets no label
unfoldable pub edit : Edit → Model → Model
edit (CN1 n1 n2) M = set_place M (λ y. cond (same y n1) (M.place n2) (M.place y))
edit (CN2 n1 n2 f) M = set_place M (λ y. cond (same y n1) (target M f (M.place n2)) (M.place y))
edit (AP n p) M =
    set_marked M (λ q s. cond (same q p) (M.marked q s || (same s (M.place n) && not (same s 0))) (M.marked q s))
edit (DP n p) M = set_marked M (λ q s. cond (same q p) (M.marked q s && not (same s (M.place n))) (M.marked q s))
edit (AT m n1 n2) M =
    set_link M (λ l s t. cond (same l m) (M.link l s t || (same s (M.place n1) && same t (M.place n2))) (M.link l s t))
edit (RT f n1 n2) M = set_link M (λ l s t. cond (same l f && same s (M.place n1)) (same t (M.place n2)) (M.link l s t))
edit (DT1 m n1 n2) M =
    set_link M (λ l s t. cond (same l m) (M.link l s t && not (same s (M.place n1) && same t (M.place n2))) (M.link l s t))
edit (DT2 f n) M = set_link M (λ l s t. cond (same l f) (M.link l s t && not (same s (M.place n))) (M.link l s t))
edit (AS n k) M = set_place (set_present M (λ s. M.present s || same s k)) (λ y. cond (same y n) k (M.place y))
edit (DS n) M = record {
  present = λ s. M.present s && not (same s (M.place n));
  marked = λ q s. M.marked q s && not (same s (M.place n));
  place = λ y. cond (same (M.place y) (M.place n)) 0 (M.place y);
  link = λ l s t. M.link l s t && not (same s (M.place n) || same t (M.place n));
}

-- operands in range and not forbidden: f is 4 to 7, m is 0 to 7; n1 in CN1 and CN2, and n in AS, is not 0
unfoldable pub legal : Edit → Bool
legal (CN1 n1 n2) = (below n1 names && not (same n1 0)) && below n2 names
legal (CN2 n1 n2 f) = (below n1 names && not (same n1 0)) && (below n2 names && functional f)
legal (AP n p) = below n names && below p labels
legal (DP n p) = below n names && below p labels
legal (AT m n1 n2) = below m links && (below n1 names && below n2 names)
legal (RT f n1 n2) = functional f && (below n1 names && below n2 names)
legal (DT1 m n1 n2) = below m links && (below n1 names && below n2 names)
legal (DT2 f n) = functional f && below n names
legal (AS n k) = (below n names && not (same n 0)) && below k slots
legal (DS n) = below n names

-- the edit goes through on the site
unfoldable pub goes : Edit → Model → Bool
goes (CN1 n1 n2) M = true
goes (CN2 n1 n2 f) M = true
goes (AP n p) M = true
goes (DP n p) M = true
goes (AT m n1 n2) M =
    (not (same (M.place n1) 0) && not (same (M.place n2) 0))
    && (not (functional m) || (same (target M m (M.place n1)) 0 || same (target M m (M.place n1)) (M.place n2)))
goes (RT f n1 n2) M = not (same (M.place n1) 0) && not (same (M.place n2) 0)
goes (DT1 m n1 n2) M = true
goes (DT2 f n) M = true
goes (AS n k) M = not (M.present k)
goes (DS n) M = not (same (M.place n) 0)

-- a valid site: slot 0 is present and has name 0; names, labels and link ends are at present slots; slot 0 has no label, and no link touches it;
-- and, as its bytes have it, only slots are present and a functional link has one target
pub record Valid (M : Model) : Type 0 where
  pub small : (s : ℕ) → M.present s ≡ true → s < slots
  pub nil_present : M.present 0 ≡ true
  pub nil_named : M.place 0 ≡ 0
  pub named : (n : ℕ) → M.present (M.place n) ≡ true
  pub labelled : (p s : ℕ) → M.marked p s ≡ true → (M.present s ≡ true) × (s ≢ 0)
  pub from : (m s t : ℕ) → M.link m s t ≡ true → (M.present s ≡ true) × (s ≢ 0)
  pub to : (m s t : ℕ) → M.link m s t ≡ true → (M.present t ≡ true) × (t ≢ 0)
  pub one : (m s t u : ℕ) → functional m ≡ true → M.link m s t ≡ true → M.link m s u ≡ true → t ≡ u

-- the site that a sheet leaves, its first edit first
unfoldable pub sheet : List Edit → Model → Model
sheet [] M = M
sheet (e ∷ es) M = sheet es (edit e M)

unfoldable pub sheet_legal : List Edit → Bool
sheet_legal [] = true
sheet_legal (e ∷ es) = legal e && sheet_legal es

-- a sheet goes through if each edit does, on the site left by those before it
unfoldable pub sheet_goes : List Edit → Model → Bool
sheet_goes [] M = true
sheet_goes (e ∷ es) M = goes e M && sheet_goes es (edit e M)
