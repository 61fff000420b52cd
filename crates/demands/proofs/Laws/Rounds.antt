-- The demands on the limit are met.
use Rattle.std.specs.Prelude.{◌≡◌, refl, ◌⊎◌, ◌↔◌, ◌≢◌, List, ℕ, ◌≤◌, ◌<◌, length, Err, Ok}
use Rattle.std.proofs.Common.{sym, ◌∙◌, ap, subst, inl, inr, arith}
use Rattle.finite.specs.Tests.{below}
use Rattle.finite.proofs.Laws.Bools.{either, look}
use Rattle.finite.proofs.Laws.Below.{below_out, not-below}
use Rattle.verdict.specs.Verdict.{Verdict, Accepted, reason_of, where_of, ◌then◌}
use Rattle.verdict.proofs.Laws.{then_assoc}
use Rattle.bitset.specs.Set.{set_bytes}
use Rattle.limits.specs.Limits.{highest_limit}
use Rattle.semantics.specs.Edit as edits
use Rattle.semantics.specs.Table.{form_of}
use Rattle.site.specs.Site.{site_of}
use Rattle.site.specs.Refusal.{site_verdict}
use Rattle.condition.specs.Bytes.{table_of, bytes_of}
use Rattle.condition.specs.Refusal.{condition_verdict}
use Rattle.condition.proofs.Laws.Bytes.{table_back_lem}
use Rattle.sheet.specs.Bytes.{edits_of}
use Rattle.sheet.proofs.Laws.Accepted.{accepted_sheet}
use Rattle.trailer.specs.Refusal.{edition_in}
use Rattle.trailer.specs.Pieces.{site_in, condition_in, sheet_in}
use Rattle.rewriting.specs.Rewriting.{rewritten}
use Rattle.rewriting.proofs.Laws.Accepted.{image_accepted}
use Rattle.refusals.specs.Refusal.{limit_verdict, rounds_verdict}
use Rattle.refusals.proofs.Laws.Items.{buffer_in, limit_in, limit_not, rounds_in, rounds-not, rounds_out, rounds_else, then_out}
use Rattle.listing.specs.Listed.{work_bytes, found_of}
use Rattle.listing.proofs.Laws.Answer.{accepted_makes}
use Rattle.list_entry.specs.Refusal.{pair_verdict, list_inputs, list_verdict}
use Rattle.list_entry.specs.Listing.{SiteMakes, SetAfter, ListAfter}
use Rattle.job_run.specs.Refusal.{lists_verdict}
use Rattle.job_run.specs.Buffers.{Buffers, Sized, buffers_of}
use Rattle.job_run.specs.Job.{JobAfter}
use Rattle.job_entry.specs.Refusal.{job_inputs, job_verdict}
use Rattle.job_entry.proofs.Laws.Refusal.{sized_in}
use Rattle.demands.specs.Demands.{ListCall}
use Rattle.demands.specs.Job.{JobCall, job_table, RunnableFile}
use Rattle.demands.specs.Rounds.{ListOver, FileMakes, JobOver, Highest, SameList, SameJob, DemandLimitList, DemandLimitJob, DemandHighestList, DemandHighestJob, DemandLargerList, DemandLargerJob, DemandRounds}
use Rattle.demands.proofs.Laws.Accepted.{fits_short, same-makes}
use Rattle.demands.proofs.Laws.Demands.{list_due_lem, list_reason, list_set}
use Rattle.demands.proofs.Laws.Early.{Never, never_then, not_early, rounds_item, list_early, job_items, job_early}
use Rattle.demands.proofs.Laws.Job.{due_of, runnable_inputs, job_due, job_makes}
use Rattle.demands.proofs.Laws.Same.{same_zeros, site_same, table_same, set_same, classes_same}

-- ---- the items in order: buffers of the stated lengths meet no item 1, and a limit up to the highest no item 16

module _ {site table : List ℕ} (c : ListCall site table) where
  list_first : list_inputs (length c.set) (length c.work) c.limit site table ≡ pair_verdict site table
  unfolding list_inputs
  list_first = rw (buffer_in c.set_size, buffer_in c.work_size, limit_in c.limit_fits)

  abbrev list_due : Verdict
  list_due = list_verdict (length c.set) (length c.work) c.limit site table c.returned.made

  list_then : list_due ≡ pair_verdict site table then rounds_verdict c.limit c.returned.made
  unfolding list_verdict
  list_then = rw list_first

module _ {file : List ℕ} (c : JobCall file) where
  job_first : job_inputs c.lent c.limit file ≡ job_items file
  unfolding job_inputs
  job_first = rw (sized_in c.lent c.sized, limit_in c.limit_fits)

  abbrev both_rounds : Verdict
  both_rounds = lists_verdict c.limit c.returned.after_made c.returned.today_made

  job_then : due_of c ≡ job_items file then both_rounds
  unfolding job_verdict
  job_then = rw job_first

-- ---- item 15: the limit refuses exactly

-- the number m is over the limit, or not
over? : (limit m : ℕ) → (m ≤ limit) ⊎ (limit < m)
over? limit m = either (look (below limit m)) (λ e. inr (below_out limit m e)) (λ e. inl (not-below limit m e))

-- a call that has nothing but item 15 left to test, of one number of rounds or of two
over_one : {limit n reason : ℕ} → reason ≡ reason_of (rounds_verdict limit n) → (reason ≡ 15) ↔ (limit < n)
over_one {limit} {n} e = (
  λ f. either (over? limit n) (λ h. absurd (omega (arith, f, e ∙ ap reason_of (rounds_in h)))) (λ h. h),
  λ h. e ∙ ap reason_of (rounds-not h),
)

over_two : {limit a t reason : ℕ} → reason ≡ reason_of (lists_verdict limit a t) → (reason ≡ 15) ↔ ((limit < a) ⊎ (limit < t))
over_two {limit} {a} {t} {reason} e =
    either
    (over? limit a)
    (λ h.
    let one = over_one {limit = limit} {n = t} (let d : reason ≡ reason_of (rounds_verdict limit t) = rw (rounds_in h) at e in d) in
    (λ f. inr (one.0 f), λ g. either g (λ k. absurd (omega arith)) (λ k. one.1 k)))
    (λ h. (λ f. inl h, λ g. let d : reason ≡ 15 = rw (rounds-not h) at e in d))

-- listing

module _ {site table : List ℕ} (c : ListCall site table) where
  list_over_in : ListOver c.limit site table → c.reason ≡ 15
  list_over_in o =
      let due = list_due_lem o.listable.site_accepted o.listable.table_accepted c o.rounds o.makes in
      c.returned.returned.reason_is ∙ ap reason_of (due ∙ rounds-not (omega (arith, o.over)))

  list_over_out : c.reason ≡ 15 → ListOver c.limit site table
  list_over_out e =
      let n = c.returned.made in
      let v = not_early (pair_verdict site table) (rounds_verdict c.limit n) (list_early (omega arith) site table)
      (sym (ap reason_of (list_then c)) ∙ sym c.returned.returned.reason_is ∙ e) in
      let p = then_out (site_verdict site) (condition_verdict table) v in
      let m = c.returned.makes (list_first c ∙ v) in
      let due = list_due_lem p.0 p.1 c n m in
      record {
        listable = record { site_accepted = p.0; table_accepted = p.1 };
        rounds = n;
        makes = m;
        over = omega (arith, (over_one (c.returned.returned.reason_is ∙ ap reason_of due)).0 e);
      }

limit_list : DemandLimitList
unfolding DemandLimitList SetAfter
limit_list site table = record {
  over = λ c. (list_over_out c, list_over_in c);
  number = λ a. accepted_makes (site_of site) table a.table_accepted;
  one = λ m n p q. same-makes (site_of site) (form_of (table_of table)) m n p q;
  within = λ a n m c h. (
    list_reason a.site_accepted a.table_accepted c h,
    same-makes (site_of site) (form_of (table_of table)) c.rounds n (list_set a.site_accepted a.table_accepted c h).1 m,
  );
}

-- a list of n rounds is not over a limit of n
pub not_over : {site table : List ℕ} {n : ℕ} → SiteMakes site table n → (c : ListCall site table) → n ≤ c.limit → c.reason ≢ 15
not_over m c h e = let o = list_over_out c e in absurd (omega (arith, h, o.over, same-makes _ _ _ _ o.makes m))

-- the job

-- two lists, each under the whole limit: there is no item but 15 to meet
else_two : (limit a t : ℕ) → reason_of (lists_verdict limit a t) ≢ 15 → lists_verdict limit a t ≡ Accepted
else_two limit a t h =
    either
    (over? limit a)
    (λ k. rw (rounds_in k) (rounds_else limit t (λ e. h (rw (rounds_in k) e))))
    (λ k. absurd (h (rw (rounds-not k))))

-- both lists of a file that meets no item make some number of rounds
file_makes : {file : List ℕ} → RunnableFile file → (a t : ℕ) × FileMakes file a t
file_makes {file} r =
    let edition = edition_in file in
    let table = condition_in file in
    let sheet = sheet_in file in
    let ok = r.pieces.table_accepted in
    let short = fits_short edition table sheet ok (omega (arith, r.pieces.table_fits)) in
    let legal = (accepted_sheet edition sheet r.pieces.going.sheet_accepted).are_legal in
    let image = image_accepted (edits_of edition sheet) legal table ok short in
    let a = accepted_makes (edits.sheet (edits_of edition sheet) (site_of (site_in file))) table ok in
    let t = accepted_makes (site_of (site_in file)) (bytes_of (rewritten edition table sheet)) image in
    (a.0, t.0, record { after = a.1; today = λ ρ. rw (table_back_lem (rewritten edition table sheet)) at (t.1 ρ) })

module _ {file : List ℕ} (c : JobCall file) where
  -- what is returned, where the lists make a and t rounds
  job_reason : RunnableFile file → (a t : ℕ) → FileMakes file a t → c.reason ≡ reason_of (lists_verdict c.limit a t)
  job_reason r a t m = c.returned.returned.reason_is ∙ ap reason_of (job_due c r a t m)

  job_over_in : JobOver c.limit file → c.reason ≡ 15
  job_over_in o = (over_two (job_reason o.runnable o.after o.today o.makes)).1 o.over

  job_over_out : c.reason ≡ 15 → JobOver c.limit file
  job_over_out e =
      let v = not_early (job_items file) (both_rounds c) (job_early (omega arith) (omega arith) file) (sym (ap reason_of (job_then c)) ∙ sym c.returned.returned.reason_is ∙ e) in
      let r = runnable_inputs c (job_first c ∙ v) in
      let m = c.returned.makes (job_first c ∙ v) in
      record { runnable = r; after = _; today = _; makes = m; over = (over_two (job_reason r _ _ m)).0 e }

limit_job : DemandLimitJob
unfolding DemandLimitJob
limit_job file = record {
  over = λ c. (job_over_out c, job_over_in c);
  number = file_makes;
  one = λ a t a' t' p q. (same-makes _ _ _ _ p.after q.after, same-makes _ _ _ _ p.today q.today);
  within = λ r a t m c h.
      let due = job_reason c r a t m in
      let e = due ∙ ap reason_of (else_two c.limit a t (λ e. h (due ∙ e))) in
      let k = job_makes c e in
      (e, same-makes _ _ _ _ k.after m.after, same-makes _ _ _ _ k.today m.today);
}

-- ---- item 16

-- the limit is tested before the checks v, which never refuse with 16
highest : (limit : ℕ) {v : Verdict} → Never 16 v → {reason fault : ℕ} → reason ≡ reason_of (limit_verdict limit then v)
    → fault ≡ where_of (limit_verdict limit then v) → Highest limit reason fault
highest limit {v} u {reason} {fault} e f =
    either
    (over? highest_limit limit)
    (λ h.
    let d : reason ≡ reason_of v = rw (limit_in h) at e in
    let not_16 : reason ≢ 16 = λ k. u.never (sym d ∙ k) in
    record { over = (λ k. absurd (not_16 k), λ k. absurd (omega (arith, h, k))); no_fault = λ k. absurd (not_16 k) })
    (λ h.
    let d : reason ≡ 16 = rw (limit_not h) at e in
    let w : fault ≡ 0 = rw (limit_not h) at f in
    record { over = (λ k. omega (arith, h), λ k. d); no_fault = λ k. w })

list_limit_first : (set_len work_len limit : ℕ) (site table : List ℕ) (n : ℕ) → set_len ≡ set_bytes → work_len ≡ work_bytes
    → list_verdict set_len work_len limit site table n ≡ limit_verdict limit then (pair_verdict site table then rounds_verdict limit n)
unfolding list_verdict list_inputs
list_limit_first set_len work_len limit site table n p q =
    rw (buffer_in p, buffer_in q) (then_assoc (limit_verdict limit) (pair_verdict site table) (rounds_verdict limit n))

highest_list : DemandHighestList
unfolding DemandHighestList
highest_list limit site table set set' work work' reason fault f p q r =
    let n = r.made in
    let d = list_limit_first (length set) (length work) limit site table n p q in
    let u = never_then {k = 16} (pair_verdict site table) (rounds_verdict limit n) (list_early (omega arith) site table) (rounds_item limit n (omega arith)) in
    highest limit u (r.returned.reason_is ∙ ap reason_of d) (r.returned.fault_is ∙ ap where_of d)

job_limit_first : (b : Buffers) (limit : ℕ) (file : List ℕ) (a t : ℕ) → Sized b
    → job_verdict b limit file a t ≡ limit_verdict limit then (job_items file then (lists_verdict limit a t))
unfolding job_verdict job_inputs
job_limit_first b limit file a t s = rw (sized_in b s) (then_assoc (limit_verdict limit) (job_items file) (lists_verdict limit a t))

highest_job : DemandHighestJob
unfolding DemandHighestJob
highest_job limit file b b' reason fault after today nodes classes s r =
    let a = r.after_made in
    let t = r.today_made in
    let d = job_limit_first b limit file a t s in
    let both = never_then {k = 16} (rounds_verdict limit a) (rounds_verdict limit t) (rounds_item limit a (omega arith)) (rounds_item limit t (omega arith)) in
    let u = never_then (job_items file) (lists_verdict limit a t) (job_early (omega arith) (omega arith) file) both in
    highest limit u (r.returned.reason_is ∙ ap reason_of d) (r.returned.fault_is ∙ ap where_of d)

-- ---- a larger limit

-- two chains with the same checks first
then_same : (first u v : Verdict) → (first ≡ Accepted → u ≡ v) → first then u ≡ first then v
then_same (Ok _) u v f = f refl
then_same (Err r) u v f = refl

module _ {site table : List ℕ} (c d : ListCall site table) (larger : c.limit ≤ d.limit) (h : c.reason ≢ 15) where
  list_rest : pair_verdict site table ≡ Accepted → rounds_verdict c.limit c.returned.made ≡ rounds_verdict d.limit d.returned.made
  list_rest v =
      let m = same-makes _ _ _ _ (c.returned.makes (list_first c ∙ v)) (d.returned.makes (list_first d ∙ v)) in
      let due = list_then c ∙ ap (λ (u : Verdict). u then rounds_verdict c.limit c.returned.made) v in
      let k = rounds_else c.limit c.returned.made (λ e. h (c.returned.returned.reason_is ∙ ap reason_of due ∙ e)) in
      let fits : d.returned.made ≤ d.limit = omega (arith, rounds_out _ _ k, m, larger) in
      k ∙ sym (rounds_in fits)

  same_list : SameList c d
  same_list =
      let e = list_then c ∙ then_same (pair_verdict site table) _ _ list_rest ∙ sym (list_then d) in
      let p = c.returned.returned in
      let q = d.returned.returned in
      let l = subst (λ (v : Verdict). ListAfter v site table c.set c.set' c.work c.work' (found_of c.count c.rounds)) e p.left in
      let s = set_same c.set c.set' d.set d.set' (c.set_size ∙ sym d.set_size) (list_due d) site table _ _ l.set_after q.left.set_after in
      record {
        same_reason = p.reason_is ∙ ap reason_of e ∙ sym q.reason_is;
        same_fault = p.fault_is ∙ ap where_of e ∙ sym q.fault_is;
        same_count = s.1;
        same_rounds = s.2;
        same_set = s.0;
        same_work = same_zeros l.work_zero q.left.work_zero (c.work_size ∙ sym d.work_size);
      }

-- what a verdict leaves of a job
abbrev Left : {file : List ℕ} → Verdict → JobCall file → Type 0
Left {file} v c =
    JobAfter (edition_in file) v (site_in file) (condition_in file) (sheet_in file) c.lent c.lent' (found_of c.after c.after_rounds)
    (found_of c.today c.today_rounds) c.nodes c.classes

all_same : {s s' t t' a a' d d' c c' w w' : List ℕ} → s ≡ s' → t ≡ t' → a ≡ a' → d ≡ d' → c ≡ c' → w ≡ w'
    → buffers_of s t a d c w ≡ buffers_of s' t' a' d' c' w'
all_same e f g h i j = rw (e, f, g, h, i, j)

module _ {file : List ℕ} (c d : JobCall file) (larger : c.limit ≤ d.limit) (h : c.reason ≢ 15) where
  job_rest : job_items file ≡ Accepted → both_rounds c ≡ both_rounds d
  job_rest v =
      let p = c.returned.makes (job_first c ∙ v) in
      let q = d.returned.makes (job_first d ∙ v) in
      let due = job_then c ∙ ap (λ (u : Verdict). u then both_rounds c) v in
      let k = else_two c.limit c.returned.after_made c.returned.today_made (λ e. h (c.returned.returned.reason_is ∙ ap reason_of due ∙ e)) in
      let w = then_out (rounds_verdict c.limit c.returned.after_made) _ k in
      let a : d.returned.after_made ≤ d.limit = omega (arith, rounds_out _ _ w.0, same-makes _ _ _ _ p.after q.after, larger) in
      let t : d.returned.today_made ≤ d.limit = omega (arith, rounds_out _ _ w.1, same-makes _ _ _ _ p.today q.today, larger) in
      k ∙ sym (let both : both_rounds d ≡ Accepted = rw (rounds_in a, rounds_in t) in both)

  same-due : due_of c ≡ due_of d
  same-due = job_then c ∙ then_same (job_items file) _ _ job_rest ∙ sym (job_then d)

  -- what the one verdict leaves
  left_of : Left (due_of d) c
  left_of = subst (λ (v : Verdict). Left v c) same-due c.returned.returned.left

  changed_same : c.lent'.changed ≡ d.lent'.changed
  changed_same =
      site_same c.lent.changed _ d.lent.changed _ (c.sized.changed_size ∙ sym d.sized.changed_size) (edition_in file) (due_of d) (site_in file) (sheet_in file)
      left_of.site_after d.returned.returned.left.site_after

  made_same : (c.lent'.table ≡ d.lent'.table) × (c.nodes ≡ d.nodes)
  made_same =
      table_same c.lent.table _ d.lent.table _ (c.sized.table_size ∙ sym d.sized.table_size) (due_of d) (rewritten (edition_in file) (condition_in file) (sheet_in file)) _ _
      left_of.table_after d.returned.returned.left.table_after

  after_same : (c.lent'.after ≡ d.lent'.after) × (c.after ≡ d.after) × (c.after_rounds ≡ d.after_rounds)
  after_same =
      set_same c.lent.after _ d.lent.after _ (c.sized.after_size ∙ sym d.sized.after_size) (due_of d) d.lent'.changed (condition_in file) _ _
      (rw changed_same at left_of.list_after) d.returned.returned.left.list_after

  today_same : (c.lent'.today ≡ d.lent'.today) × (c.today ≡ d.today) × (c.today_rounds ≡ d.today_rounds)
  today_same =
      set_same c.lent.today _ d.lent.today _ (c.sized.today_size ∙ sym d.sized.today_size) (due_of d) (site_in file) (job_table d) _ _
      (rw (made_same.0, made_same.1) at left_of.list_today) d.returned.returned.left.list_today

  numbers_same : (c.lent'.classes ≡ d.lent'.classes) × (c.classes ≡ d.classes)
  numbers_same =
      classes_same c.lent.classes _ d.lent.classes _ (c.sized.classes_size ∙ sym d.sized.classes_size) (due_of d) d.lent'.changed _ _
      (rw changed_same at left_of.classes_after) d.returned.returned.left.classes_after

  same_job : SameJob c d
  same_job =
      let p = c.returned.returned in
      let q = d.returned.returned in
      let work = same_zeros left_of.work_zero q.left.work_zero (c.sized.work_size ∙ sym d.sized.work_size) in
      record {
        same_reason = p.reason_is ∙ ap reason_of same-due ∙ sym q.reason_is;
        same_fault = p.fault_is ∙ ap where_of same-due ∙ sym q.fault_is;
        same_after = after_same.1;
        same_today = today_same.1;
        same_nodes = made_same.1;
        same_classes = numbers_same.1;
        same_after_rounds = after_same.2;
        same_today_rounds = today_same.2;
        same_buffers = all_same changed_same made_same.0 after_same.0 today_same.0 numbers_same.0 work;
      }

pub demand_rounds : DemandRounds
unfolding DemandLargerList DemandLargerJob
demand_rounds =
    record {
      limit_list = limit_list;
      limit_job = limit_job;
      highest_list = highest_list;
      highest_job = highest_job;
      larger_list = λ site table c d l h. same_list c d (omega (arith, l)) h;
      larger_job = λ file c d l h. same_job c d (omega (arith, l)) h;
    }
