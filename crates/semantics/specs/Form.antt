-- Conditions as trees: formulas of the modal mu-calculus, with converse and nominals. That is docs/SPEC.md, "The condition", without the
-- numbers of nodes.
use Rattle.std.specs.Prelude.{Bool, true, false, not, ◌&&◌, ◌||◌, ℕ}
use Rattle.finite.specs.Tests.{same, all}
use Rattle.limits.specs.Limits.{variables}

-- the ways to go from a slot, a modality each: along a link, against it (its converse), and everywhere (E, the universal modality)
pub data Way : Type 0 where
  along : ℕ → Way
  against : ℕ → Way
  every : Way

-- the thirteen kinds; `top` is true, `neg` is not, `dia` and `box` are the diamond and the box of a way. `here` and `label` are propositions,
-- `name` and `slot` are nominals, which hold at one slot, and `mu` and `nu` bind a variable by its least and its greatest fixed point
pub data Form : Type 0 where
  top : Form
  here : Form
  label : ℕ → Form
  name : ℕ → Form
  var : ℕ → Form
  neg : Form → Form
  or : Form → Form → Form
  and : Form → Form → Form
  dia : Way → Form → Form
  box : Way → Form → Form
  mu : ℕ → Form → Form
  nu : ℕ → Form → Form
  slot : ℕ → Form

-- some free occurrence of the variable v stands under an even number of nots (`occ true`: it is positive) or an odd one (`occ false`: negative)
unfoldable pub occ : Bool → ℕ → Form → Bool
occ even v top = false
occ even v here = false
occ even v (label p) = false
occ even v (name n) = false
occ even v (var u) = even && same u v
occ even v (neg φ) = occ (not even) v φ
occ even v (or φ ψ) = occ even v φ || occ even v ψ
occ even v (and φ ψ) = occ even v φ || occ even v ψ
occ even v (dia w φ) = occ even v φ
occ even v (box w φ) = occ even v φ
occ even v (mu u φ) = not (same u v) && occ even v φ
occ even v (nu u φ) = not (same u v) && occ even v φ
occ even v (slot k) = false

-- the variable v is free
unfoldable pub free : ℕ → Form → Bool
free v φ = occ true v φ || occ false v φ

-- no variable is free
unfoldable pub closed : Form → Bool
closed φ = all variables (λ v. not (free v φ))

-- the even rule at the node itself: in a mu or nu's body no free occurrence of its variable is negative
unfoldable pub even : Form → Bool
even top = true
even here = true
even (label p) = true
even (name n) = true
even (var u) = true
even (neg φ) = true
even (or φ ψ) = true
even (and φ ψ) = true
even (dia w φ) = true
even (box w φ) = true
even (mu u φ) = not (occ false u φ)
even (nu u φ) = not (occ false u φ)
even (slot k) = true
