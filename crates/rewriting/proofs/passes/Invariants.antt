-- The edits that are done are the last ones.
use Rattle.condition.specs.Bytes.{nodes}
use Rattle.rewriting.proofs.Laws.Passes.{Passing}
use Rattle.rewriting.specs.State.{pass_of}
use Rattle.rewriting.proofs.passes.Given as goal

abbrev pub invariant-loop-k : goal.invariant-loop-k
invariant-loop-k l = Passing (pass_of l.purpose) l.edition l.sheet (nodes l.initial.table l.n) l.table l.count l.k
