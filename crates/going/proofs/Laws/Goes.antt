-- When an edit goes through, test by test.
use Rattle.std.specs.Prelude.{◌≡◌, ◌≢◌, Bool, true, false, ◌||◌, ℕ, ◌≤◌, ◌<◌, not}
use Rattle.std.proofs.Common.{refl, ◌∙◌, sym}
use Rattle.finite.specs.Tests.{same}
use Rattle.finite.proofs.Laws.Bools.{and_r, not_out}
use Rattle.finite.proofs.Laws.Below.{eq_same, ne_same, below_in}
use Rattle.limits.specs.Limits.{links, general_links}
use Rattle.semantics.specs.Holds.{Model}
use Rattle.semantics.specs.Edit.{AT, AS, DS, RT, functional, target, goes}
use Rattle.site.proofs.Laws.Read.{functional_in}
use Rattle.going.specs.Joins.{ends_on_site, joins}

-- at the places of its names
module _ (M : Model) where
  pub goes-AT : (m n1 n2 : ℕ) → goes (AT m n1 n2) M ≡ joins M m (M.place n1) (M.place n2)
  unfolding goes joins
  goes-AT m n1 n2 = refl

  pub goes-RT : (f n1 n2 : ℕ) → goes (RT f n1 n2) M ≡ ends_on_site (M.place n1) (M.place n2)
  unfolding goes
  goes-RT f n1 n2 = refl

  pub goes-AS : (n k : ℕ) → goes (AS n k) M ≡ not (M.present k)
  unfolding goes
  goes-AS n k = refl

  pub goes-DS : (n : ℕ) → goes (DS n) M ≡ not (same (M.place n) 0)
  unfolding goes
  goes-DS n = refl

-- what these four test
pub ruleset tests = (goes-AT, goes-RT, goes-AS, goes-DS)

-- the end that a link leads to is not nil
pub end_there : (x y : ℕ) → ends_on_site x y ≡ true → y ≢ 0
end_there x y p e = not_out (same y 0) (and_r (not (same x 0)) _ p) (eq_same e)

-- when a link can be added, test by test
module _ (M : Model) (m x y : ℕ) {b : Bool} (h : b ≡ ends_on_site x y) where
  pub joins_nil : b ≡ false → false ≡ joins M m x y
  unfolding joins
  joins_nil e = rw (sym h ∙ e)

  pub joins_general : b ≡ true → m < general_links → true ≡ joins M m x y
  unfolding joins functional
  joins_general e g = rw (sym h ∙ e, below_in m general_links g)

  pub joins-functional : b ≡ true → general_links ≤ m → m < links → {u : ℕ} → u ≡ target M m x → (same u 0 || same u y) ≡ joins M m x y
  unfolding joins
  joins-functional e g k t = rw (t, sym h ∙ e, functional_in m g k)

  -- a functional link that leads nowhere
  pub joins_free : b ≡ true → general_links ≤ m → m < links → 0 ≡ target M m x → true ≡ joins M m x y
  unfolding same
  joins_free e g k t = joins-functional e g k t

  -- and one that leads to slot u
  pub joins_there : b ≡ true → general_links ≤ m → m < links → {u : ℕ} → u ≡ target M m x → u ≢ 0 → same u y ≡ joins M m x y
  joins_there e g k {u} t n =
      let here : (same u 0 || same u y) ≡ joins M m x y = joins-functional e g k t in
      rw (ne_same n) at here
