-- Item 18: the edition is tested before the other checks, and none of these refuses with 18.
use Rattle.std.specs.Prelude.{◌≡◌, ◌≢◌, List, ℕ, ◌≤◌, Err}
use Rattle.std.proofs.Common.{sym, ◌∙◌, ap, inl, inr, arith}
use Rattle.finite.proofs.Laws.Bools.{either, look}
use Rattle.verdict.specs.Verdict.{Verdict, reason_of, where_of, ◌then◌}
use Rattle.verdict.specs.declared.Refusal.TheVariants.{File}
use Rattle.verdict.proofs.Laws.{then_assoc, refused}
use Rattle.limits.specs.Limits.{highest_limit}
use Rattle.semantics.specs.Block.{rewrite_table}
use Rattle.through.specs.Through.{through_edit, one_true}
use Rattle.editions.specs.Edition.{known, edition_verdict}
use Rattle.editions.proofs.Laws.{edition_known, edition_refused, known_out, known_in}
use Rattle.site.specs.Site.{site_of}
use Rattle.site.specs.Refusal.{site_verdict}
use Rattle.condition.specs.Bytes.{table_of}
use Rattle.condition.specs.Refusal.{condition_verdict}
use Rattle.sheet.specs.Bytes.{edits_of}
use Rattle.sheet.specs.Refusal.{sheet_verdict}
use Rattle.trailer.specs.File.{number}
use Rattle.trailer.specs.Refusal.{edition_in, trailer_verdict}
use Rattle.trailer.specs.Pieces.{site_in, condition_in, sheet_in}
use Rattle.trailer.proofs.Laws.Verdict.{trailer_refused, trailer_edition, edition_fourth}
use Rattle.refusals.specs.Refusal.{rounds_verdict}
use Rattle.refusals.proofs.Laws.Items.{buffer_in, limit_in}
use Rattle.apply_entry.specs.Refusal.{apply_verdict}
use Rattle.rewrite_entry.specs.Refusal.{rewrite_verdict, through_verdict}
use Rattle.job_run.specs.Buffers.{Buffers, Sized}
use Rattle.job_run.specs.Refusal.{pieces_verdict, lists_verdict}
use Rattle.job_entry.specs.Refusal.{job_inputs, job_verdict}
use Rattle.job_entry.proofs.Laws.Refusal.{sized_in}
use Rattle.demands.specs.Editions.{EditionTested, DemandEditionApply, DemandEditionRewrite, DemandEditionThrough, DemandEditionJob, DemandEditions}
use Rattle.demands.proofs.Laws.Both.{both_editions}
use Rattle.demands.proofs.Laws.Early.{Never, never_then, rounds_item, site_items, condition_items, sheet_items, goes_items, length_items, pieces_items}

-- the edition is tested before the checks v, which never refuse with 18
edition_tested : (edition : ℕ) {v : Verdict} → Never 18 v → {reason fault : ℕ} → reason ≡ reason_of (edition_verdict edition then v)
    → fault ≡ where_of (edition_verdict edition then v) → EditionTested edition reason fault
edition_tested edition {v} u {reason} {fault} e f =
    either
    (look (known edition))
    (λ k.
    let a = edition_known edition k in
    let d : reason ≡ reason_of v = rw a at e in
    let not_18 : reason ≢ 18 = λ q. u.never (sym d ∙ q) in
    record {
      unknown = (λ q. absurd (not_18 q), λ p. absurd (either (known_out edition a) (λ q. p.0 q) (λ q. p.1 q)));
      no_fault = λ q. absurd (not_18 q);
    })
    (λ k.
    let a = edition_refused edition k in
    let d : reason ≡ 18 = rw a at e in
    let w : fault ≡ 0 = rw a at f in
    record {
      unknown = (λ _. (λ q. refused (sym a ∙ known_in edition (inl q)), λ q. refused (sym a ∙ known_in edition (inr q))), λ _. d);
      no_fault = λ _. w;
    })

-- ---- beside a sheet

edition_apply : DemandEditionApply
unfolding DemandEditionApply apply_verdict
edition_apply edition site sheet result result' reason fault p r =
    let u =
    never_then {k = 18} (site_verdict site) _ (site_items (omega arith) site)
    (never_then (sheet_verdict sheet) _ (sheet_items (omega arith) sheet) (goes_items (omega arith) (edits_of edition sheet) (site_of site))) in
    edition_tested edition u (r.reason_is ∙ rw (buffer_in p)) (r.fault_is ∙ rw (buffer_in p))

edition_rewrite : DemandEditionRewrite
unfolding DemandEditionRewrite rewrite_verdict
edition_rewrite edition table sheet result result' reason fault n p r =
    let u =
    never_then {k = 18} (condition_verdict table) _ (condition_items (omega arith) table)
    (never_then (sheet_verdict sheet) _ (sheet_items (omega arith) sheet) (length_items (omega arith) rewrite_table (edits_of edition sheet) (table_of table))) in
    edition_tested edition u (r.reason_is ∙ rw (buffer_in p)) (r.fault_is ∙ rw (buffer_in p))

edition_through : DemandEditionThrough
unfolding DemandEditionThrough through_verdict
edition_through edition sheet result result' reason fault n p r =
    let u = never_then {k = 18} (sheet_verdict sheet) _ (sheet_items (omega arith) sheet) (length_items (omega arith) through_edit (edits_of edition sheet) one_true) in
    edition_tested edition u (r.reason_is ∙ rw (buffer_in p)) (r.fault_is ∙ rw (buffer_in p))

-- ---- in a trailer

abbrev rest : (limit : ℕ) (file : List ℕ) (a t : ℕ) → Verdict
rest limit file a t = pieces_verdict (edition_in file) (site_in file) (condition_in file) (sheet_in file) then lists_verdict limit a t

job_trailer_first : (b : Buffers) (limit : ℕ) (file : List ℕ) (a t : ℕ) → Sized b → limit ≤ highest_limit
    → job_verdict b limit file a t ≡ trailer_verdict file then rest limit file a t
unfolding job_verdict job_inputs
job_trailer_first b limit file a t s h =
    rw (sized_in b s, limit_in h)
    (then_assoc (trailer_verdict file) (pieces_verdict (edition_in file) (site_in file) (condition_in file) (sheet_in file)) (lists_verdict limit a t))

rest_never : (limit : ℕ) (file : List ℕ) (a t : ℕ) → Never 18 (rest limit file a t)
rest_never limit file a t =
    never_then (pieces_verdict (edition_in file) (site_in file) (condition_in file) (sheet_in file)) _
    (pieces_items (omega arith) (edition_in file) (site_in file) (condition_in file) (sheet_in file))
    (never_then (rounds_verdict limit a) (rounds_verdict limit t) (rounds_item limit a (omega arith)) (rounds_item limit t (omega arith)))

edition_job : DemandEditionJob
unfolding DemandEditionJob
edition_job limit file b b' reason fault after today nodes classes s h r =
    let a = r.after_made in
    let t = r.today_made in
    let d = job_trailer_first b limit file a t s h in (
      λ p.
          let e : trailer_verdict file then rest limit file a t ≡ Err File = rw (trailer_refused file p) in
          r.returned.reason_is ∙ ap reason_of (d ∙ e),
      λ p.
          let e = d ∙ ap (λ (v : Verdict). v then rest limit file a t) (trailer_edition file p ∙ ap edition_verdict (edition_fourth file p)) in
          edition_tested (number 3 file) (rest_never limit file a t) (r.returned.reason_is ∙ ap reason_of e) (r.returned.fault_is ∙ ap where_of e),
    )

pub demand_editions : DemandEditions
demand_editions = record { applying = edition_apply; rewriting = edition_rewrite; going_through = edition_through; job = edition_job; both = both_editions }
