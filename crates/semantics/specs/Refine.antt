-- What rounds of refinement do not tell apart.
use Rattle.std.specs.Prelude.{Bool, ◌&&◌, ◌||◌, not, ℕ, zero, suc}
use Rattle.std.specs.Bool.{beq}
use Rattle.finite.specs.Tests.{same, any, all}
use Rattle.limits.specs.Limits.{slots, labels, names, every_way}
use Rattle.semantics.specs.Form.{Way}
use Rattle.semantics.specs.Holds.{Model, step}
use Rattle.semantics.specs.Table.{way_of}

abbrev pub Rel : Type 0
Rel = ℕ → ℕ → Bool

-- each neighbour of s by w in M is related to some neighbour of t in N
unfoldable pub covers : Model → Model → Way → Rel → Rel
covers M N w E s t = all slots (λ s'. not (step M w s s') || any slots (λ t'. step N w t t' && E s' t'))

unfoldable pub match : Model → Model → Way → Rel → Rel
match M N w E s t = covers M N w E s t && covers N M w (λ a b. E b a) t s

unfoldable pub agree : Model → Model → Rel
agree M N s t =
    beq (M.present s) (N.present t)
    && (all labels (λ p. beq (M.marked p s) (N.marked p t)) && all names (λ n. beq (same s (M.place n)) (same t (N.place n))))

-- what k rounds do not tell apart: a slot s of M and a slot t of N
unfoldable pub bisimilar_in : ℕ → Model → Model → Rel
bisimilar_in zero M N s t = agree M N s t
bisimilar_in (suc k) M N s t = bisimilar_in k M N s t && all every_way (λ p. match M N (way_of p) (bisimilar_in k M N) s t)
