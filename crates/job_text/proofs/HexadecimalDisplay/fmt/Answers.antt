-- Two digits more.
use Rattle.std.proofs.Common.{◌++◌, false, rules, ap, ◌∙◌, arith, take, get_or}
use Rattle.std.proofs.lemmas.Fmt.{hex_byte}
use Rattle.std.proofs.Output.{has_written_append, has_written_of_eq}
use Rattle.job_text.specs.Text.{hexadecimal}
use Rattle.job_text.proofs.Laws.Hex.{hex_more}
use Rattle.job_text.proofs.HexadecimalDisplay.fmt.Goals as goal

pub loop-b-init : goal.loop-b-init
unfolding hexadecimal
loop-b-init g c = search rules

pub loop-b-preserved : goal.loop-b-preserved
loop-b-preserved g c =
    let bytes = c.args.self.now.bytes.now in
    let i = c.loop-b.b-index in
    let equal = ap (λ x. hexadecimal (take i bytes) ++ x) (hex_byte false (get_or bytes i 0) (omega arith)) ∙ hex_more bytes i (omega arith) in
    λ p. has_written_of_eq _ _ _ _ _ equal (has_written_append _ _ _ _ _ _ (c.loop-b.invariant p) (search rules))
