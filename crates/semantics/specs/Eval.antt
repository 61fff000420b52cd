-- The set of a condition, computed.
use Rattle.std.specs.Prelude.{true, not, ◌&&◌, ◌||◌}
use Rattle.finite.specs.Tests.{same, any, all}
use Rattle.limits.specs.Limits.{slots}
use Rattle.semantics.specs.Form.{Form, top, here, label, name, var, neg, or, and, dia, box, mu, nu, slot}
use Rattle.semantics.specs.Holds.{Set, Env, put, Model, step}
use Rattle.semantics.specs.FixedPoint.{iter, none, full}

unfoldable pub eval : Model → Env → Form → Set
eval M ρ top s = true
eval M ρ here s = M.present s
eval M ρ (label p) s = M.marked p s
eval M ρ (name n) s = same s (M.place n)
eval M ρ (var v) s = ρ v s
eval M ρ (neg φ) s = not (eval M ρ φ s)
eval M ρ (or φ ψ) s = eval M ρ φ s || eval M ρ ψ s
eval M ρ (and φ ψ) s = eval M ρ φ s && eval M ρ ψ s
eval M ρ (dia w φ) s = any slots (λ t. step M w s t && eval M ρ φ t)
eval M ρ (box w φ) s = all slots (λ t. not (step M w s t) || eval M ρ φ t)
eval M ρ (mu v φ) s = iter slots (λ S. eval M (put ρ v S) φ) none s
eval M ρ (nu v φ) s = iter slots (λ S. eval M (put ρ v S) φ) full s
eval M ρ (slot k) s = same s k
