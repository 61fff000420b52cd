-- What is known of pieces that are not refused.
use Rattle.std.specs.Prelude.{◌≡◌, true, false, List, ℕ}
use Rattle.verdict.specs.Verdict.{Verdict, Accepted, ◌then◌}
use Rattle.verdict.proofs.Laws.{then_assoc}
use Rattle.semantics.specs.Edit.{sheet_goes}
use Rattle.semantics.specs.Block.{rewrite_table}
use Rattle.site.specs.Site.{site_of}
use Rattle.site.specs.Refusal.{site_verdict}
use Rattle.condition.specs.Bytes.{table_of}
use Rattle.condition.specs.Refusal.{condition_verdict}
use Rattle.sheet.specs.Bytes.{edits_of}
use Rattle.sheet.specs.Refusal.{sheet_verdict}
use Rattle.applying.specs.Refusal.{goes_verdict}
use Rattle.applying.proofs.Laws.Goes.{goes_out}
use Rattle.rewriting.specs.Refusal.{is_too_long, length_verdict}
use Rattle.refusals.proofs.Laws.Items.{then_out, length_out}
use Rattle.job_steps.specs.Steps.{change_verdict}
use Rattle.job_run.specs.Refusal.{pieces_verdict}

-- items 3 to 12, then 13 and 14
pub pieces_then : (edition : ℕ) (site cond sheet : List ℕ) → pieces_verdict edition site cond sheet
    ≡ (site_verdict site then condition_verdict cond then sheet_verdict sheet) then change_verdict edition site cond sheet
unfolding pieces_verdict change_verdict
pieces_then edition site cond sheet =
    let s = site_verdict site in
    let c = condition_verdict cond in
    let e = sheet_verdict sheet in
    let z = change_verdict edition site cond sheet in
    rw (then_assoc s (c then e) z, then_assoc c e z)

module _ (edition : ℕ) (site cond sheet : List ℕ) where
  -- what is accepted
  pub record PiecesAccepted : Type 0 where
    pub site_accepted : site_verdict site ≡ Accepted
    pub cond_accepted : condition_verdict cond ≡ Accepted
    pub sheet_accepted : sheet_verdict sheet ≡ Accepted
    pub goes : sheet_goes (edits_of edition sheet) (site_of site) ≡ true
    pub short : is_too_long rewrite_table (edits_of edition sheet) (table_of cond) ≡ false

  pub pieces_out : pieces_verdict edition site cond sheet ≡ Accepted → PiecesAccepted
  unfolding pieces_verdict
  pieces_out e =
      let s = then_out (site_verdict site) _ e in
      let c = then_out (condition_verdict cond) _ s.1 in
      let h = then_out (sheet_verdict sheet) _ c.1 in
      let g = then_out (goes_verdict (edits_of edition sheet) (site_of site)) (length_verdict rewrite_table (edits_of edition sheet) (table_of cond)) h.1 in
      record {
        site_accepted = s.0;
        cond_accepted = c.0;
        sheet_accepted = h.0;
        goes = goes_out (edits_of edition sheet) (site_of site) g.0;
        short = length_out rewrite_table (edits_of edition sheet) (table_of cond) g.1;
      }

  pub pieces_in : PiecesAccepted → pieces_verdict edition site cond sheet ≡ Accepted
  unfolding pieces_verdict goes_verdict length_verdict
  pieces_in a = rw (a.site_accepted, a.cond_accepted, a.sheet_accepted, a.goes, a.short)
