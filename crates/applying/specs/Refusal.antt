-- Item 13 of docs/SPEC.md, "Reasons", as the outcome of a check.
use Rattle.std.specs.Prelude.{not, cond, List, Err}
use Rattle.semantics.specs.Holds.{Model}
use Rattle.semantics.specs.Edit.{Edit, sheet_goes}
use Rattle.verdict.specs.Verdict.{Verdict, Accepted}
use Rattle.verdict.specs.declared.Refusal.TheVariants.{NotThrough}
use Rattle.applying.specs.Stuck.{stuck_at}

-- W is the lowest edit that does not go through
unfoldable pub goes_verdict : List Edit → Model → Verdict
goes_verdict es M = cond (not (sheet_goes es M)) (Err (NotThrough (stuck_at es M))) Accepted
