-- The first pass, and the second where there is room for its blocks.
use Rattle.std.proofs.Common.{arith}
use Rattle.semantics.specs.Block.{rewrite_table}
use Rattle.condition.specs.Bytes.{nodes}
use Rattle.condition.proofs.Laws.Fits.{first_fits}
use Rattle.sheet.specs.Bytes.{edit_of}
use Rattle.emitting.proofs.Laws.Emitted.{counted, written}
use Rattle.emitting.proofs.rewrite.Goals as goal

pub returns-then-made-gt-TABLE_NODES : goal.returns-then-made-gt-TABLE_NODES
returns-then-made-gt-TABLE_NODES c = let r = counted c.number-made.ensures in (r, omega arith)

pub invariant_of-plan : goal.invariant_of-plan
invariant_of-plan c = record {
  legal = c.requires.legal;
  fits = first_fits c.args.table.now c.args.n c.requires.fits;
  numbered = c.number-made.ensures.numbered;
}

pub returns : goal.returns
returns c =
    let r = counted c.number-made.ensures in
    (r, omega arith, written c.emit_all.new.out (rewrite_table (edit_of c.args.e) (nodes c.args.table.now c.args.n)) c.emit_all.ensures r (omega arith))
