-- The demand on the condition for going through is met.
use Rattle.std.specs.Prelude.{◌≡◌, ◌≢◌, Bool, not, List, ◌++◌, ℕ, ◌*◌, ◌-◌, ◌≤◌, length, replicate, refl, true, false, cond, Err}
use Rattle.std.proofs.Common.{◌∙◌, ap, inl, inr, arith}
use Rattle.finite.proofs.Laws.Below.{below-not}
use Rattle.bitset.specs.Set.{set_bytes}
use Rattle.verdict.specs.Verdict.{Accepted, reason_of}
use Rattle.verdict.specs.declared.Refusal.TheVariants.{NotThrough}
use Rattle.limits.specs.Limits.{slots, table_nodes, table_bytes}
use Rattle.semantics.specs.Edit as edits
use Rattle.semantics.specs.Block.{emit}
use Rattle.through.specs.Through.{through_edit, one_true, through}
use Rattle.through.proofs.Laws.Through.{through_says}
use Rattle.through.proofs.Laws.Loopless.{through-makes}
use Rattle.site.specs.Site.{site_of}
use Rattle.site.proofs.Laws.Valid.{site_valid}
use Rattle.condition.specs.Bytes.{table_of, bytes_of}
use Rattle.condition.specs.Refusal.{condition_verdict}
use Rattle.sheet.specs.Bytes.{edits_of}
use Rattle.sheet.proofs.Laws.Accepted.{accepted_sheet}
use Rattle.applying.specs.Refusal.{goes_verdict}
use Rattle.rewriting.proofs.Laws.Grow.{through_grows, too_long_end}
use Rattle.rewriting.proofs.Laws.Accepted.{taken, taken_table, through_bytes_accepted}
use Rattle.listing.proofs.Laws.Same.{like_listed}
use Rattle.list_entry.specs.Listing.{SiteMakes, SetAfter}
use Rattle.apply_entry.specs.Refusal.{apply_verdict}
use Rattle.refusals.proofs.Laws.Items.{buffer_in, rounds_in}
use Rattle.rewrite_entry.specs.Refusal.{through_verdict}
use Rattle.demands.specs.Demands.{ApplyCall, ListCall}
use Rattle.demands.specs.Through.{ThroughCall, through_table, Foreseeable, Foretold, DemandThrough}
use Rattle.demands.proofs.Laws.Accepted.{through_accepted, reason_none, same-makes, table_left}
use Rattle.demands.proofs.Laws.Demands.{list_due_lem, list_reason, list_set, listed}

module _ {edition : ℕ} {site sheet : List ℕ} (j : Foreseeable edition site sheet) where
  abbrev es : List edits.Edit
  es = edits_of edition sheet

  legal : edits.sheet_legal es ≡ true
  legal = (accepted_sheet edition sheet j.sheet_accepted).are_legal

  valid : edits.Valid (site_of site)
  valid = ((site_valid site).0 j.site_accepted).1

  -- ---- the table is made

  few_true : length one_true ≤ table_nodes
  unfolding emit
  few_true = omega arith

  module _ (c : ThroughCall edition sheet) where
    made_goes : through_verdict edition (length c.result) sheet ≡ Accepted
    made_goes =
        through_accepted edition (length c.result) sheet
        (record {
          result_size = c.result_size;
          edition_accepted = j.edition_accepted;
          sheet_accepted = j.sheet_accepted;
          short = too_long_end through_edit through_grows es one_true few_true ∙ below-not table_nodes (length (through es)) (omega (arith, j.table_fits));
        })

    written : (c.nodes ≡ length (through es)) × (c.result' ≡ bytes_of (through es) ++ replicate (table_bytes - 6 * c.nodes) 0)
    written = table_left (through es) c.result c.result' made_goes c.returned

    table_accepted : condition_verdict (through_table c) ≡ Accepted
    table_accepted =
        rw (taken (through es) _ c.result' c.nodes written.0 written.1) (through_bytes_accepted es legal (omega (arith, j.table_fits)))

    is_through : table_of (through_table c) ≡ through es
    is_through = taken_table (through es) _ c.result' c.nodes written.0 written.1

    -- ---- and listed

    module _ (t : ListCall site (through_table c)) where
      makes_none : SiteMakes site (through_table c) 0
      makes_none ρ = rw is_through (through-makes es (site_of site) ρ)

      -- no round is made, so that the limit does not matter
      not_over : t.reason ≢ 15
      not_over e =
          let v = list_due_lem j.site_accepted table_accepted t 0 makes_none ∙ rounds_in (omega arith) in
          absurd (omega (arith, e, t.returned.returned.reason_is ∙ ap reason_of v))

      no_round : t.rounds ≡ 0
      unfolding SetAfter
      no_round = same-makes (site_of site) _ t.rounds 0 (list_set j.site_accepted table_accepted t not_over).1 makes_none

      -- whether the sheet goes through
      abbrev goes : Bool
      goes = edits.sheet_goes es (site_of site)

      through_listed : (t.set' ≡ replicate set_bytes (cond goes 255 0)) × (t.count ≡ cond goes slots 0)
      through_listed =
          like_listed goes (rw is_through at (listed j.site_accepted table_accepted t not_over)) (λ ρ s k. through_says es legal (site_of site) valid ρ s k)

      -- ---- beside applying

      module _ (a : ApplyCall edition site sheet) where
        apply_reason : a.reason ≡ cond goes 0 13
        unfolding apply_verdict goes_verdict
        apply_reason = a.returned.reason_is ∙ rw (buffer_in a.result_size, j.edition_accepted, j.site_accepted, j.sheet_accepted) (told goes _)
          where
            told : (b : Bool) (w : ℕ) → reason_of (cond (not b) (Err (NotThrough w)) Accepted) ≡ cond b 0 13
            told true w = refl
            told false w = refl

        foretold : (b : Bool) → goes ≡ b → Foretold c t a
        unfolding slots
        foretold true g =
            let l = rw g at through_listed in let r = rw g at apply_reason in
            record {
              makes = reason_none made_goes c.returned;
              lists = list_reason j.site_accepted table_accepted t not_over;
              no_round = no_round;
              goes_or_not = inl r;
              all_listed = (λ _. l, λ _. r);
              none_listed = (λ e. absurd (omega (arith, r, e)), λ p. absurd (omega (arith, l.1, p.1)));
            }
        foretold false g =
            let l = rw g at through_listed in let r = rw g at apply_reason in
            record {
              makes = reason_none made_goes c.returned;
              lists = list_reason j.site_accepted table_accepted t not_over;
              no_round = no_round;
              goes_or_not = inr r;
              all_listed = (λ e. absurd (omega (arith, r, e)), λ p. absurd (omega (arith, l.1, p.1)));
              none_listed = (λ _. l, λ _. r);
            }

pub demand_through : DemandThrough
unfolding DemandThrough
demand_through edition site sheet j c t a = foretold j c t a _ refl
