-- The line of a refusal; the four lines of a job that is done.
use Rattle.std.proofs.Common.{refl, [], ◌∷◌, rules}
use Rattle.std.proofs.Output.{has_written_append, has_written_of_eq}
use Rattle.verdict.specs.Verdict.{number_of, fault_of}
use Rattle.job_text.specs.Text.{done_text}
use Rattle.job_text.proofs.Laws.Lines.{list_line_is, count_line_is, refused_is}
use Rattle.job_text.proofs.PrintedDisplay.fmt.Goals as goal

pub returns-in-Err-clause-writes : goal.returns-in-Err-clause-writes
returns-in-Err-clause-writes g c = λ p ok.
    let said = refused_is (number_of c.in-Err.refusal) (fault_of c.in-Err.refusal) (search rules) (search rules) in
    has_written_of_eq _ _ _ _ _ (rw c.in-Err.is said) (c.writeln.ensures.writes p ok)

pub returns-clause-writes : goal.returns-clause-writes
unfolding done_text
returns-clause-writes g c = λ p ok.
    let r = c.in-Ok.report in
    let one = c.in_ok-writeln.ensures.writes p refl in
    let two = c.in_ok-writeln-2.ensures.writes one.plain refl in
    let three = c.in_ok-writeln-3.ensures.writes two.plain refl in
    let four = c.writeln-5.ensures.writes three.plain ok in
    let after = list_line_is (97 ∷ 102 ∷ 116 ∷ 101 ∷ 114 ∷ 32 ∷ []) r.after.count c.args.self.now.after.now (search rules) in
    let today = list_line_is (116 ∷ 111 ∷ 100 ∷ 97 ∷ 121 ∷ 32 ∷ []) r.today.count c.args.self.now.today.now (search rules) in
    let nodes = count_line_is (110 ∷ 111 ∷ 100 ∷ 101 ∷ 115 ∷ 32 ∷ []) r.nodes (search rules) in
    let classes = count_line_is (99 ∷ 108 ∷ 97 ∷ 115 ∷ 115 ∷ 101 ∷ 115 ∷ 32 ∷ []) r.classes (search rules) in
    rw c.in-Ok.is
    (has_written_append _ _ _ _ _ _
    (has_written_append _ _ _ _ _ _
    (has_written_append _ _ _ _ _ _ (has_written_of_eq _ _ _ _ _ after one) (has_written_of_eq _ _ _ _ _ today two))
    (has_written_of_eq _ _ _ _ _ nodes three)) (has_written_of_eq _ _ _ _ _ classes four))
