-- Two tables, images and stages to work on; the table is copied, the passes are made, and the answer is given.
use Rattle.rewriting.proofs.Laws.Buffers.{copied}
use Rattle.rewriting.proofs.Laws.Passes.{rewrote, rewrote_long}
use Rattle.rewriting.proofs.rewrite_from.Goals as goal

pub passes-requires-clause-fits : goal.passes-requires-clause-fits
passes-requires-clause-fits c = rw (c.copy_from_slice.ensures.after, copied) c.requires.table_value.0

pub returns-in-Ok : goal.returns-in-Ok
returns-in-Ok c =
    let P = rw (c.copy_from_slice.ensures.after, copied, c.in-Ok.is) at c.passes.ensures in rewrote P c.finish.ensures

pub returns-in-Err : goal.returns-in-Err
returns-in-Err c =
    let P = rw (c.copy_from_slice.ensures.after, copied, c.in-Err.is) at c.passes.ensures in rewrote_long P c.finish-in-Err.ensures
