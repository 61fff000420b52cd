-- Which inputs numbering the classes refuses: the items of docs/SPEC.md, "Reasons", in their order.
use Rattle.std.specs.Prelude.{List, ℕ}
use Rattle.verdict.specs.Verdict.{Verdict, ◌then◌}
use Rattle.site.specs.Refusal.{site_verdict}
use Rattle.refusals.specs.Refusal.{buffer_verdict}

-- how many bytes the buffer for the class numbers has: one for each slot
abbrev pub classes_bytes : ℕ
classes_bytes = 256

-- class numbers: 1 of the one buffer, then 3 to 6
unfoldable pub classes_verdict : (classes_len : ℕ) (site : List ℕ) → Verdict
classes_verdict classes_len site = buffer_verdict classes_len classes_bytes then site_verdict site
