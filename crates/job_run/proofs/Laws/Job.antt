-- The answers of a job's parts, case by case.
use Rattle.std.specs.Prelude.{◌≡◌, refl, List, ℕ, ◌*◌, ◌-◌, ◌≤◌, take, length, replicate, Result, Ok, Err}
use Rattle.std.proofs.Common.{◌∙◌, arith, sym, ap, length-append}
use Rattle.verdict.specs.Verdict.{Verdict, Accepted, outcome, ◌then◌}
use Rattle.verdict.proofs.Laws.{refused}
use Rattle.verdict.specs.declared.Refusal.{Refusal}
use Rattle.semantics.specs.Holds.{Env}
use Rattle.semantics.specs.Table.{form_of}
use Rattle.rounds.specs.Makes.{Makes}
use Rattle.site.specs.Site.{site_of}
use Rattle.site.specs.Refusal.{site_verdict}
use Rattle.site.proofs.Laws.Valid.{accepted_out}
use Rattle.condition.specs.Bytes.{table_of, bytes_of}
use Rattle.condition.specs.Refusal.{condition_verdict}
use Rattle.condition.proofs.Laws.Bytes.{length-bytes}
use Rattle.sheet.specs.Refusal.{sheet_verdict}
use Rattle.limits.specs.Limits.{table_nodes, table_bytes}
use Rattle.rewriting.specs.Rewriting.{rewritten, TableAfter}
use Rattle.rewriting.proofs.Laws.Accepted.{taken_table, rewritten_accepted}
use Rattle.refusals.specs.Refusal.{rounds_verdict}
use Rattle.refusals.proofs.Laws.Items.{rounds_out}
use Rattle.listing.specs.declared.Found.{Found}
use Rattle.listing.specs.Listed.{work_bytes, found_of}
use Rattle.listing.specs.Limited.{Limited}
use Rattle.listing.proofs.Laws.Answer.{accepted_makes}
use Rattle.list_entry.specs.Listing.{SetAfter}
use Rattle.list_entry.proofs.Laws.Listing.{rounds_as_made, makes_found}
use Rattle.classes.specs.Classes.{Classes, different}
use Rattle.apply_entry.specs.Applying.{SiteAfter}
use Rattle.classes_entry.specs.Classing.{ClassesAfter}
use Rattle.even_rule.specs.Judged as even_rule
use Rattle.job_steps.specs.Steps.{change_verdict, Changed}
use Rattle.job_run.specs.declared.Report.{Report}
use Rattle.job_run.specs.Buffers.{Buffers}
use Rattle.job_run.specs.Refusal.{pieces_verdict}
use Rattle.job_run.specs.Answer.{after_of, today_of, nodes_of, classes_of}
use Rattle.job_run.specs.Job.{JobMakes, JobAfter}
use Rattle.job_run.specs.Steps.{Zeros, Made, Tried, Ran}
use Rattle.job_run.proofs.Laws.Refusal.{pieces_then, pieces_out}

-- ---- an item before 15 is met

pub tried_refused : {edition limit : ℕ} {first : Verdict} {site cond sheet : List ℕ} {b b' : Buffers} {r : Refusal}
    → first then pieces_verdict edition site cond sheet ≡ Err r → Tried edition first limit site cond sheet b b' (Err r)
tried_refused d = record {
  judged = record { after_made = 0; today_made = 0; makes = λ a. refused (sym d ∙ a); verdict = rw d };
  left = tt;
}

-- it is met before the pieces are looked at
pub first_refused : {edition limit : ℕ} {first : Verdict} {site cond sheet : List ℕ} {b b' : Buffers} {r : Refusal} → first ≡ Err r
    → Tried edition first limit site cond sheet b b' (Err r)
first_refused e = tried_refused (rw e)

-- it is not
pub first_passed : {edition limit : ℕ} {first : Verdict} {site cond sheet : List ℕ} {b b' : Buffers} {r : Result Report Refusal} → first ≡ Accepted
    → Tried edition Accepted limit site cond sheet b b' r → Tried edition first limit site cond sheet b b' r
first_passed e t = rw e t

pub judge_refused : (edition : ℕ) (site cond sheet : List ℕ) {free' : List ℕ} {r : Refusal}
    → even_rule.Judged (site_verdict site then condition_verdict cond then sheet_verdict sheet) cond free' (Err r) → pieces_verdict edition site cond sheet ≡ Err r
judge_refused edition site cond sheet j = rw (pieces_then edition site cond sheet, sym j.verdict)

-- items 3 to 12 are not met
module _ {edition : ℕ} {site cond sheet free' changed changed' table table' : List ℕ}
    (j : even_rule.Judged (site_verdict site then condition_verdict cond then sheet_verdict sheet) cond free' Accepted) where
  pub change_refused : {r : Refusal} → Changed edition site cond sheet changed changed' table table' (Err r) → pieces_verdict edition site cond sheet ≡ Err r
  change_refused c = rw (pieces_then edition site cond sheet, sym j.verdict) (sym c.verdict)

  pub made : length free' ≡ table_nodes → {n : ℕ} → Changed edition site cond sheet changed changed' table table' (Ok n)
      → Made edition site cond sheet free' changed changed' table table' n
  unfolding SiteAfter TableAfter
  made size {n} c =
      let v : pieces_verdict edition site cond sheet ≡ Accepted = rw (pieces_then edition site cond sheet, sym j.verdict) (sym c.verdict) in
      let k = pieces_out edition site cond sheet v in
      let s = c.site_after in
      let t = c.table_after in
      let ys = rewritten edition cond sheet in
      record {
        accepted = v;
        site_after = s;
        table_after = t;
        site_size = (accepted_out site k.site_accepted).0;
        cond_accepted = k.cond_accepted;
        free_size = size;
        free_rows = j.rows refl;
        changed_size = s.size;
        room = omega (arith, t.0, ap length t.1, length-append (bytes_of ys) (replicate (table_bytes - 6 * n) 0), length-bytes ys);
        part_accepted = rewritten_accepted edition cond sheet k.cond_accepted k.sheet_accepted k.short _ table' n t.0 t.1;
      }

-- ---- the lists: the condition on the changed site, then the rewritten table on the site

module _ {edition limit n : ℕ} {site cond sheet free' changed changed' table table' after' : List ℕ} {f : Found}
    (m : Made edition site cond sheet free' changed changed' table table' n) (a : Limited limit (site_of changed') (form_of (table_of cond)) after' f) where
  -- the rounds of both lists, from those of the two tables
  job_makes : {t : ℕ} → ((ρ : Env) → Makes (site_of site) ρ (form_of (table_of (take (6 * n) table'))) t) → JobMakes edition site cond sheet a.made t
  unfolding SiteAfter TableAfter
  job_makes t =
      let table_is = taken_table (rewritten edition cond sheet) _ table' n m.table_after.0 m.table_after.1 in
      record { after = rw m.site_after.effects at a.makes; today = rw table_is at t }

  -- the first is over. The second makes some number of rounds, which does not matter
  pub over_after : {r : Refusal} → Err r ≡ rounds_verdict limit f.rounds → {b b' : Buffers} → Tried edition Accepted limit site cond sheet b b' (Err r)
  over_after e =
      let t = accepted_makes (site_of site) (take (6 * n) table') m.part_accepted in
      record {
        judged = record { after_made = a.made; today_made = t.0; makes = λ _. job_makes t.1; verdict = rw (m.accepted, ← (e ∙ rounds_as_made a)) };
        left = tt;
      }

  module _ {today' : List ℕ} {g : Found} (h : Accepted ≡ rounds_verdict limit f.rounds)
      (t : Limited limit (site_of site) (form_of (table_of (take (6 * n) table'))) today' g) where
    pub over_today : {r : Refusal} → Err r ≡ rounds_verdict limit g.rounds → {b b' : Buffers} → Tried edition Accepted limit site cond sheet b b' (Err r)
    over_today e = record {
      judged =
          record {
            after_made = a.made;
            today_made = t.made;
            makes = λ _. job_makes t.makes;
            verdict = rw (m.accepted, ← (h ∙ rounds_as_made a), ← (e ∙ rounds_as_made t));
          };
      left = tt;
    }

    -- the job is done
    pub done : Accepted ≡ rounds_verdict limit g.rounds → {after today classes classes' work work' : List ℕ} → work' ≡ replicate work_bytes 0
        → length work ≡ work_bytes → Classes (site_of changed') classes' → {c : ℕ} → c ≡ different classes'
        → Tried edition Accepted limit site cond sheet (record { changed = changed; table = table; after = after; today = today; classes = classes; work = work })
        (record { changed = changed'; table = table'; after = after'; today = today'; classes = classes'; work = work' })
        (Ok (record { after = f; today = g; nodes = n; classes = c }))
    unfolding SetAfter ClassesAfter
    done k z size cs count =
        let within = rounds_out limit f.rounds (sym h) in
        let as_well = rounds_out limit g.rounds (sym k) in
        record {
          judged =
              record {
                after_made = a.made;
                today_made = t.made;
                makes = λ _. job_makes t.makes;
                verdict = rw (m.accepted, ← (h ∙ rounds_as_made a), ← (k ∙ rounds_as_made t));
              };
          left =
              record {
                site_after = m.site_after;
                table_after = m.table_after;
                list_after = (a.listed within, makes_found a within);
                list_today = (t.listed as_well, makes_found t as_well);
                classes_after = (cs, count);
                work_zero = z ∙ ap (λ (k : ℕ). replicate k 0) (sym size);
              };
        }

-- ---- a refusal leaves zeros

abbrev pub SameLengths : (b b' : Buffers) → Type 0
SameLengths b b' =
    (length b'.changed ≡ length b.changed) × (length b'.table ≡ length b.table) × (length b'.after ≡ length b.after)
    × (length b'.today ≡ length b.today) × (length b'.classes ≡ length b.classes) × (length b'.work ≡ length b.work)

pub zeros_left : {edition : ℕ} {site cond sheet : List ℕ} {b b' : Buffers} {r : Refusal} → Zeros b b'
    → JobAfter edition (Err r) site cond sheet b b' (found_of 0 0) (found_of 0 0) 0 0
unfolding SiteAfter TableAfter SetAfter ClassesAfter
zeros_left z = record {
  site_after = z.changed_zero;
  table_after = (refl, z.table_zero);
  list_after = (z.after_zero, (refl, refl));
  list_today = (z.today_zero, (refl, refl));
  classes_after = (z.classes_zero, refl);
  work_zero = z.work_zero;
}

-- the buffers may have been written before, at the lengths that they have
pub zeros_of : {b b' b'' : Buffers} → SameLengths b b' → Zeros b' b'' → Zeros b b''
zeros_of l z = record {
  changed_zero = z.changed_zero ∙ ap (λ (k : ℕ). replicate k 0) l.0;
  table_zero = z.table_zero ∙ ap (λ (k : ℕ). replicate k 0) l.1;
  after_zero = z.after_zero ∙ ap (λ (k : ℕ). replicate k 0) l.2;
  today_zero = z.today_zero ∙ ap (λ (k : ℕ). replicate k 0) l.3;
  classes_zero = z.classes_zero ∙ ap (λ (k : ℕ). replicate k 0) l.4;
  work_zero = z.work_zero ∙ ap (λ (k : ℕ). replicate k 0) l.5;
}

-- ---- the job answers

module _ {edition limit : ℕ} {first : Verdict} {site cond sheet : List ℕ} {b b' : Buffers} {r : Result Report Refusal}
    (t : Tried edition first limit site cond sheet b b' r) where
  pub ran_done : {j : Report} → r ≡ Ok j → Ran edition first limit site cond sheet b b' r
  ran_done e = record { judged = t.judged; left = rw e (rw e at t.left) }

  pub ran_refused : {q : Refusal} → r ≡ Err q → {b'' : Buffers} → Zeros b b'' → Ran edition first limit site cond sheet b b'' r
  ran_refused e z = record { judged = t.judged; left = rw e (zeros_left z) }
