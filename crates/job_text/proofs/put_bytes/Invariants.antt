-- The digits of the bytes so far are written.
use Rattle.std.proofs.Common.{◌≡◌, ◌+◌, take}
use Rattle.job_text.specs.Text.{hexadecimal}
use Rattle.job_text.specs.Put.{Puts}
use Rattle.job_text.proofs.put_bytes.Given as goal

abbrev pub invariant-loop-x : goal.invariant-loop-x
invariant-loop-x l =
    (l.end ≡ l.at + (l.x-index + l.x-index)) × Puts l.initial.text l.at (hexadecimal (take l.x-index l.bytes)) l.text l.end
