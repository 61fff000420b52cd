-- What the run of the edits left, or zeros.
use Rattle.std.proofs.Common.{◌∙◌, arith}
use Rattle.verdict.proofs.Laws.{is_refused, is_accepted}
use Rattle.buffer.proofs.Laws.{copied_whole}
use Rattle.applying.proofs.Laws.Run.{ran_through, ran_stuck}
use Rattle.site.proofs.Laws.Valid.{accepted_out}
use Rattle.applying.proofs.apply.Goals as goal

pub copy-requires : goal.copy-requires
copy-requires c = let l = (accepted_out c.args.site.now c.requires.0).0 in omega arith

pub returns-then-is_err : goal.returns-then-is_err
returns-then-is_err c =
    let l = (accepted_out c.args.site.now c.requires.0).0 in
    let e = c.in-Some.ensures.cases.same ∙ c.copy.ensures ∙ copied_whole c.args.site.now c.args.res.now (omega arith) in
    ran_stuck e c.run-answer.ensures c.run-answer.array_long (is_refused _ c.if-is_err.ensures.value).1 (c.fill.ensures.after (λ y e. e))

pub returns-else-is_err : goal.returns-else-is_err
returns-else-is_err c =
    let l = (accepted_out c.args.site.now c.requires.0).0 in
    let e = c.in-Some.ensures.cases.same ∙ c.copy.ensures ∙ copied_whole c.args.site.now c.args.res.now (omega arith) in
    ran_through e c.run-answer.ensures c.run-answer.array_long (is_accepted _ c.if-is_err.ensures.value)
