-- What a job knows of inputs that meet no item but 15.
use Rattle.std.specs.Prelude.{◌≡◌, refl, Bool, true, false, not, ◌&&◌, cond, List, ℕ, ◌≤◌, length, Err}
use Rattle.std.proofs.Common.{arith}
use Rattle.finite.specs.Tests.{same}
use Rattle.bitset.specs.Set.{set_bytes}
use Rattle.verdict.specs.Verdict.{Verdict, Accepted, ◌then◌}
use Rattle.verdict.specs.declared.Refusal.TheVariants.{BufferLength}
use Rattle.verdict.proofs.Laws.{then_assoc}
use Rattle.site.specs.Layout.{site_bytes}
use Rattle.limits.specs.Limits.{table_bytes, highest_limit}
use Rattle.trailer.specs.Refusal.{item2, edition_in, trailer_verdict}
use Rattle.trailer.specs.Pieces.{site_in, condition_in, sheet_in}
use Rattle.listing.specs.Listed.{work_bytes}
use Rattle.refusals.specs.Refusal.{buffer_verdict, limit_verdict}
use Rattle.classes_entry.specs.Refusal.{classes_bytes}
use Rattle.refusals.proofs.Laws.Items.{buffer_in, buffer_out, limit_out, then_out}
use Rattle.job_run.specs.Buffers.{Buffers, Sized}
use Rattle.job_run.specs.Refusal.{pieces_verdict}
use Rattle.job_run.proofs.Laws.Refusal.{PiecesAccepted, pieces_out}
use Rattle.job_entry.specs.Refusal.{buffers_verdict, job_inputs}

-- ---- item 1

pub sized_out : (b : Buffers) → buffers_verdict b ≡ Accepted → Sized b
unfolding buffers_verdict
sized_out b e =
    let s = then_out (buffer_verdict (length b.changed) site_bytes) _ e in
    let t = then_out (buffer_verdict (length b.table) table_bytes) _ s.1 in
    let a = then_out (buffer_verdict (length b.after) set_bytes) _ t.1 in
    let d = then_out (buffer_verdict (length b.today) set_bytes) _ a.1 in
    let c = then_out (buffer_verdict (length b.classes) classes_bytes) (buffer_verdict (length b.work) work_bytes) d.1 in
    record {
      changed_size = buffer_out (length b.changed) site_bytes s.0;
      table_size = buffer_out (length b.table) table_bytes t.0;
      after_size = buffer_out (length b.after) set_bytes a.0;
      today_size = buffer_out (length b.today) set_bytes d.0;
      classes_size = buffer_out (length b.classes) classes_bytes c.0;
      work_size = buffer_out (length b.work) work_bytes c.1;
    }

pub sized_in : (b : Buffers) → Sized b → buffers_verdict b ≡ Accepted
unfolding buffers_verdict
sized_in b s =
    rw (
      buffer_in s.changed_size,
      buffer_in s.table_size,
      buffer_in s.after_size,
      buffer_in s.today_size,
      buffer_in s.classes_size,
      buffer_in s.work_size,
    )

module _ (b : Buffers) (limit : ℕ) (file : List ℕ) where
  -- ---- the chain: items 1, 16, 2 and 18, then 3 to 14

  pub job_then : job_inputs b limit file
      ≡ (buffers_verdict b then limit_verdict limit then trailer_verdict file) then pieces_verdict (edition_in file) (site_in file) (condition_in file) (sheet_in file)
  unfolding job_inputs
  job_then =
      let l = limit_verdict limit in
      let t = trailer_verdict file in
      let p = pieces_verdict (edition_in file) (site_in file) (condition_in file) (sheet_in file) in
      rw (then_assoc (buffers_verdict b) (l then t) p, then_assoc l t p)

  -- ---- what is accepted

  pub record JobAccepted : Type 0 where
    pub sized : Sized b
    pub limit_fits : limit ≤ highest_limit
    pub trailer_accepted : trailer_verdict file ≡ Accepted
    pub pieces : PiecesAccepted (edition_in file) (site_in file) (condition_in file) (sheet_in file)

  pub job_accepts : job_inputs b limit file ≡ Accepted → JobAccepted
  unfolding job_inputs
  job_accepts e =
      let p = then_out (buffers_verdict b) _ e in
      let l = then_out (limit_verdict limit) _ p.1 in
      let q = then_out (trailer_verdict file) (pieces_verdict (edition_in file) (site_in file) (condition_in file) (sheet_in file)) l.1 in
      record { sized = sized_out b p.0; limit_fits = limit_out limit l.0; trailer_accepted = q.0; pieces = pieces_out _ _ _ _ q.1 }
