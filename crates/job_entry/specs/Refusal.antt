-- Which jobs are refused: the items of docs/SPEC.md, "Reasons", in their order.
use Rattle.std.specs.Prelude.{List, ℕ, length}
use Rattle.bitset.specs.Set.{set_bytes}
use Rattle.verdict.specs.Verdict.{Verdict, ◌then◌}
use Rattle.site.specs.Layout.{site_bytes}
use Rattle.limits.specs.Limits.{table_bytes}
use Rattle.trailer.specs.Refusal.{edition_in, trailer_verdict}
use Rattle.trailer.specs.Pieces.{site_in, condition_in, sheet_in}
use Rattle.listing.specs.Listed.{work_bytes}
use Rattle.refusals.specs.Refusal.{buffer_verdict, limit_verdict}
use Rattle.classes_entry.specs.Refusal.{classes_bytes}
use Rattle.job_run.specs.Buffers.{Buffers}
use Rattle.job_run.specs.Refusal.{pieces_verdict, lists_verdict}

-- item 1 of the six buffers
unfoldable pub buffers_verdict : Buffers → Verdict
buffers_verdict b =
    buffer_verdict (length b.changed) site_bytes
    then buffer_verdict (length b.table) table_bytes
    then buffer_verdict (length b.after) set_bytes
    then buffer_verdict (length b.today) set_bytes
    then buffer_verdict (length b.classes) classes_bytes
    then buffer_verdict (length b.work) work_bytes

-- the job, all items but 15: 1, then 16, then 2 and 18 of the file, then 3 to 14 of its pieces
unfoldable pub job_inputs : Buffers → (limit : ℕ) (file : List ℕ) → Verdict
job_inputs b limit file =
    buffers_verdict b
    then limit_verdict limit
    then trailer_verdict file
    then pieces_verdict (edition_in file) (site_in file) (condition_in file) (sheet_in file)

-- the job, where its lists make a rounds on the site after and t today: 15 of each, under the whole limit, comes last
unfoldable pub job_verdict : Buffers → (limit : ℕ) (file : List ℕ) (a t : ℕ) → Verdict
job_verdict b limit file a t = job_inputs b limit file then lists_verdict limit a t
