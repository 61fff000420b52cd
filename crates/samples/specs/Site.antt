-- Small sites, written out.
use Rattle.std.specs.Prelude.{List, [], ◌∷◌, Bool, true, false, ◌&&◌, ◌||◌, cond, ℕ, zero, suc}
use Rattle.finite.specs.Tests.{same}
use Rattle.semantics.specs.Holds.{Model}

-- some element of a list passes a test; each does
unfoldable pub some : {A : Type 0} → (A → Bool) → List A → Bool
some f [] = false
some f (x ∷ xs) = f x || some f xs

unfoldable pub each : {A : Type 0} → (A → Bool) → List A → Bool
each f [] = true
each f (x ∷ xs) = f x && each f xs

pub record Small : Type 0 where
  -- the present slots
  pub slots_here : List ℕ
  -- a label and a slot that it is on
  pub labels_on : List (ℕ × ℕ)
  -- a name and its slot; the rest are at 0
  pub names_at : List (ℕ × ℕ)
  -- a link, and the slots from and to which it leads
  pub links_of : List (ℕ × ℕ × ℕ)

unfoldable pub name_at : List (ℕ × ℕ) → ℕ → ℕ
name_at [] n = 0
name_at (x ∷ xs) n = cond (same n x.0) x.1 (name_at xs n)

unfoldable pub model : Small → Model
model a = record {
  present = λ s. some (same s) a.slots_here;
  marked = λ p s. some (λ x. same p x.0 && same s x.1) a.labels_on;
  place = name_at a.names_at;
  link = λ m s t. some (λ x. same m x.0 && (same s x.1 && same t x.2)) a.links_of;
}

-- site A: slots 0 to 3 present; label 0 on 1; link 4 is 2 to 1, 3 to 2; name 1 at 2, name 2 at 3, the rest at 0
unfoldable pub site_a : Small
site_a = record {
  slots_here = 0 ∷ 1 ∷ 2 ∷ 3 ∷ [];
  labels_on = (0, 1) ∷ [];
  names_at = (1, 2) ∷ (2, 3) ∷ [];
  links_of = (4, 2, 1) ∷ (4, 3, 2) ∷ [];
}

-- site A with link 4 also from 1 to 3
unfoldable pub ring : Small
ring = record {
  slots_here = site_a.slots_here;
  labels_on = site_a.labels_on;
  names_at = site_a.names_at;
  links_of = (4, 1, 3) ∷ site_a.links_of;
}

-- slots 0 to 3 present; label 0, the gateway's, on 1; name 1 at 1, and name 2 at the probe, slot 3, whose uplink 4 leads to slot 2 and no further
unfoldable pub stranded : Small
stranded = record {
  slots_here = site_a.slots_here;
  labels_on = site_a.labels_on;
  names_at = (1, 1) ∷ (2, 3) ∷ [];
  links_of = (4, 3, 2) ∷ [];
}

-- k names from n on, all at slot s, and then the rest
unfoldable pub names_together : (n k s : ℕ) → List (ℕ × ℕ) → List (ℕ × ℕ)
names_together n zero s rest = rest
names_together n (suc k) s rest = (n, s) ∷ names_together (suc n) k s rest

-- site A with names 8 to 47 at slot 2 too, where name 1 is
unfoldable pub crowded : Small
crowded = record {
  slots_here = site_a.slots_here;
  labels_on = site_a.labels_on;
  names_at = names_together 8 40 2 site_a.names_at;
  links_of = site_a.links_of;
}
