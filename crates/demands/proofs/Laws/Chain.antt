-- The demand on the chain is met.
use Rattle.std.specs.Prelude.{◌≡◌, ◌⊎◌, ◌↔◌, ◌≢◌, true, List, ℕ, ◌≤◌, ◌<◌, length, false, get_or, Err, Ok}
use Rattle.std.proofs.Common.{◌∙◌, ap, arith, sym, inl, inr}
use Rattle.finite.proofs.Laws.Bools.{either, look, and_in}
use Rattle.finite.proofs.Laws.Below.{below_in}
use Rattle.bitset.specs.Set.{set_bytes, has}
use Rattle.bitset.proofs.Laws.Bytes.{same-slots}
use Rattle.limits.specs.Limits.{slots, table_nodes}
use Rattle.verdict.specs.Verdict.{Verdict, Accepted, reason_of, where_of, ◌then◌}
use Rattle.verdict.specs.declared.Refusal.TheVariants.{Start}
use Rattle.semantics.specs.Holds.{Env, Holds}
use Rattle.semantics.specs.Table.{way_of, form_of}
use Rattle.site.specs.Site.{site_of}
use Rattle.condition.specs.Bytes.{table_of}
use Rattle.condition.specs.Refusal.{condition_verdict}
use Rattle.condition.proofs.Laws.Bytes.{length_table, table_back_lem}
use Rattle.condition.proofs.Laws.Verdict.{Sound, accepted_sound, bytes_accepted}
use Rattle.refusals.specs.Refusal.{start_is_fit, start_verdict}
use Rattle.refusals.proofs.Laws.Items.{buffer_in, start_in_lem, start_not, start_out, then_out, numbered}
use Rattle.list_entry.specs.Refusal.{pair_verdict}
use Rattle.chains.specs.Chain.{SomeChain}
use Rattle.chains.specs.Given.{leads_table}
use Rattle.chains.proofs.Laws.Loops.{given_one}
use Rattle.chains.proofs.Laws.Longer.{leads-length, leads_fits, leads-even, leads-closed, table_chain}
use Rattle.chains.proofs.Laws.Shortest.{shortest_short, shortest_apart}
use Rattle.chains.proofs.Laws.Reached.{Closed, reached_one, reached_closure, no_chain}
use Rattle.chain_entry.specs.Refusal.{chain_verdict}
use Rattle.chain_entry.specs.Chaining.{Goal, GivesChain, GivesSet, Gives}
use Rattle.demands.specs.Demands.{ListCall}
use Rattle.demands.specs.Rounds.{Listable}
use Rattle.demands.specs.Chain.{ChainCall, Startable, ChainRefused, leads_bytes, Apart, ChainExact, SameChain, DemandChain}
use Rattle.demands.proofs.Laws.Demands.{list_reason, listed}
use Rattle.demands.proofs.Laws.Early.{not_early, list_early}
use Rattle.demands.proofs.Laws.Same.{same_zeros}

-- ---- which calls are refused: buffers of the stated lengths meet no item 1

startable_in : (site : List ℕ) (way start : ℕ) → Startable site way start → start_verdict (site_of site) way start ≡ Accepted
unfolding start_is_fit
startable_in site way start s =
    start_in_lem (site_of site) way start (and_in (below_in way _ s.way_fits) (and_in (below_in start slots s.start_fits) s.start_present))

startable_out : (site : List ℕ) (way start : ℕ) → start_verdict (site_of site) way start ≡ Accepted → Startable site way start
startable_out site way start e =
    let k = start_out (site_of site) way start e in
    record { way_fits = k.way_fits; start_fits = k.start_fits; start_present = k.start_present }

startable_not : (site : List ℕ) (way start : ℕ) → ¬ Startable site way start → start_verdict (site_of site) way start ≡ Err Start
startable_not site way start n =
    either (look (start_is_fit (site_of site) way start))
    (λ e. absurd (n (startable_out site way start (start_in_lem (site_of site) way start e))))
    (start_not (site_of site) way start)

module _ {site table : List ℕ} {way start : ℕ} (c : ChainCall site table way start) where
  abbrev due : Verdict
  due = chain_verdict (length c.chain) (length c.set) (length c.work) site table way start

  due_is : due ≡ pair_verdict site table then start_verdict (site_of site) way start
  unfolding chain_verdict
  due_is = rw (buffer_in c.chain_size, buffer_in c.set_size, buffer_in c.work_size)

  listable_in : Listable site table → due ≡ start_verdict (site_of site) way start
  listable_in a = due_is ∙ rw (a.site_accepted, a.table_accepted)

  listable_out : pair_verdict site table ≡ Accepted → Listable site table
  listable_out e = let p = then_out _ (condition_verdict table) e in record { site_accepted = p.0; table_accepted = p.1 }

  accepted_out : c.reason ≡ 0 → due ≡ Accepted
  accepted_out e = (numbered _).accepts (sym c.returned.reason_is ∙ e)

  inputs_out : c.reason ≡ 0 → Listable site table × Startable site way start
  inputs_out e =
      let p = then_out (pair_verdict site table) (start_verdict (site_of site) way start) (sym due_is ∙ accepted_out e) in
      (listable_out p.0, startable_out site way start p.1)

  late_out : c.reason ≡ 17 → Listable site table × ¬ Startable site way start
  late_out e =
      let r = sym (ap reason_of due_is) ∙ sym c.returned.reason_is ∙ e in
      let v = not_early (pair_verdict site table) (start_verdict (site_of site) way start) (list_early (omega arith) site table) r in
      let a = listable_out v in
      (a, λ s. absurd (omega (arith, e, c.returned.reason_is ∙ ap reason_of (listable_in a ∙ startable_in site way start s))))

  chain_refused : ChainRefused site table way start c
  chain_refused = record {
    accepted = (inputs_out, λ p. c.returned.reason_is ∙ ap reason_of (listable_in p.0 ∙ startable_in site way start p.1));
    item_17 = (late_out, λ p. c.returned.reason_is ∙ ap reason_of (listable_in p.0 ∙ startable_not site way start p.1));
  }

  -- ---- what the others are given

  module _ (e : c.reason ≡ 0) where
    inputs : Listable site table × Startable site way start
    inputs = inputs_out e

    sound : Sound table
    sound = accepted_sound table inputs.0.table_accepted

    nonempty : 0 < length (table_of table)
    nonempty = omega (arith, length_table table, sound.some)

    way_small : way ≤ 16
    way_small = omega (arith, inputs.1.way_fits)

    gives : GivesChain site table way start c.chain' c.set' c.found c.steps
        ⊎ GivesSet site table way start c.chain' c.set' c.found c.steps
    unfolding Gives
    gives = (rw (accepted_out e) at c.returned.left).gives

    some_chain : (ρ : Env) → (c.found ≡ 1) ↔ SomeChain (site_of site) (way_of way) (Goal site table ρ) start
    unfolding SomeChain
    some_chain ρ =
        either gives
        (λ g. (λ _. (c.steps, (λ i. get_or c.chain' i 0), (g.chain ρ).shortest.chain), λ _. g.is_found))
        (λ g. (λ f. absurd (omega (arith, f, g.not_found.0)), λ C. absurd (g.none ρ C)))

    exactly : (ρ : Env) → (c.found ≡ 1) ↔ Holds (site_of site) ρ (form_of (leads_table way (table_of table))) start
    exactly ρ =
        let t = table_chain way way_small (table_of table) nonempty sound.fits sound.even_rule sound.is_closed (site_of site) ρ start inputs.1.start_fits in
        let s = some_chain ρ in
        (λ f. t.1 (s.0 f), λ p. s.1 (t.0 p))

    leads_accepted : length (leads_table way (table_of table)) ≤ table_nodes → condition_verdict (leads_bytes way table) ≡ Accepted
    leads_accepted short =
        bytes_accepted (leads_table way (table_of table)) (omega (arith, leads-length way way_small (table_of table) nonempty)) short
        (leads_fits way way_small (table_of table) nonempty sound.fits)
        (leads-even way way_small (table_of table) nonempty sound.even_rule sound.is_closed)
        (leads-closed way way_small (table_of table) nonempty sound.is_closed)

    leads_listed : length (leads_table way (table_of table)) ≤ table_nodes → (l : ListCall site (leads_bytes way table)) → l.reason ≢ 15
        → (l.reason ≡ 0) × ((c.found ≡ 1) ↔ (has l.set' start ≡ true))
    leads_listed short l h =
        let none : Env = λ v x. false in
        let a = leads_accepted short in
        let x = exactly none in
        let s = (listed inputs.0.site_accepted a l h).listed none start inputs.1.start_fits in
        let same_form = ap form_of (table_back_lem (leads_table way (table_of table))) in (
          list_reason inputs.0.site_accepted a l h,
          (λ f. s.1 (rw same_form (x.0 f)), λ p. x.1 (rw same_form at (s.0 p))),
        )

    set_apart : GivesSet site table way start c.chain' c.set' c.found c.steps → Apart site table way start c.set'
    unfolding Closed
    set_apart g =
        let h = inputs.1.start_fits in
        let k = (reached_closure (site_of site) (way_of way) start h (has c.set')).0 g.set.reached in
        record {
          start_in = k.start;
          is_closed = k.closed;
          no_goal = λ ρ. (no_chain (site_of site) (way_of way) start h (Goal site table ρ) (has c.set') g.set.reached).0 (g.none ρ);
        }

    chain_exact : ChainExact c
    unfolding slots
    chain_exact =
        let none : Env = λ v x. false in
        record {
          one_or_none = either gives (λ g. inl g.is_found) (λ g. inr g.not_found.0);
          exactly = exactly;
          listed = leads_listed;
          few_steps = either gives (λ g. shortest_short (g.chain none).shortest) (λ g. omega (arith, g.not_found.1));
          no_slot_twice = λ f. either gives (λ g. shortest_apart (g.chain none).shortest) (λ g. absurd (omega (arith, f, g.not_found.0)));
          apart = λ f. either gives (λ g. absurd (omega (arith, f, g.is_found))) set_apart;
        }

-- ---- one verdict on one input leaves the same

module _ {site table : List ℕ} {way start : ℕ} {chain' set' chain'' set'' : List ℕ} {found steps found' steps' : ℕ} where
  same_given : GivesChain site table way start chain' set' found steps → GivesChain site table way start chain'' set'' found' steps'
      → (found ≡ found') × (steps ≡ steps') × (chain' ≡ chain'') × (set' ≡ set'')
  same_given g h =
      let none : Env = λ v x. false in
      let o = given_one _ _ _ _ _ _ _ _ (g.chain none) (h.chain none) in
      (g.is_found ∙ sym h.is_found, o.0, o.1, g.no_set ∙ sym h.no_set)

  same_reached : GivesSet site table way start chain' set' found steps → GivesSet site table way start chain'' set'' found' steps'
      → (found ≡ found') × (steps ≡ steps') × (chain' ≡ chain'') × (set' ≡ set'')
  unfolding slots
  same_reached g h = (
    g.not_found.0 ∙ sym h.not_found.0,
    g.not_found.1 ∙ sym h.not_found.1,
    g.no_chain ∙ sym h.no_chain,
    same-slots set_bytes set' set'' g.set.size h.set.size g.set.bytes h.set.bytes
        (reached_one (site_of site) (way_of way) start (has set') (has set'') g.set.reached h.set.reached),
  )

  both_answers : GivesChain site table way start chain' set' found steps → GivesSet site table way start chain'' set'' found' steps' → ⊥
  unfolding SomeChain
  both_answers g h =
      let none : Env = λ v x. false in
      h.none none (steps, (λ i. get_or chain' i 0), (g.chain none).shortest.chain)

module _ {site table : List ℕ} {way start : ℕ} (c d : ChainCall site table way start) where
  same-due : due c ≡ due d
  same-due = due_is c ∙ sym (due_is d)

  same_left : (v : Verdict) → Gives v site table way start c.chain c.chain' c.set c.set' c.found c.steps
      → Gives v site table way start d.chain d.chain' d.set d.set' d.found d.steps
      → (c.found ≡ d.found) × (c.steps ≡ d.steps) × (c.chain' ≡ d.chain') × (c.set' ≡ d.set')
  unfolding Gives
  same_left (Ok _) p q =
      either p
      (λ g. either q (same_given g) (λ h. absurd (both_answers g h)))
      (λ g. either q (λ h. absurd (both_answers h g)) (same_reached g))
  same_left (Err r) p q = (
    p.2 ∙ sym q.2,
    p.3 ∙ sym q.3,
    same_zeros p.0 q.0 (c.chain_size ∙ sym d.chain_size),
    same_zeros p.1 q.1 (c.set_size ∙ sym d.set_size),
  )

  chain_same : SameChain c d
  chain_same =
      let l = same_left (due c) c.returned.left.gives (rw same-due d.returned.left.gives) in
      record {
        same_reason = c.returned.reason_is ∙ ap reason_of same-due ∙ sym d.returned.reason_is;
        same_fault = c.returned.fault_is ∙ ap where_of same-due ∙ sym d.returned.fault_is;
        same_found = l.0;
        same_steps = l.1;
        same_chain = l.2;
        same_set = l.3;
        same_work = same_zeros c.returned.left.work_zero d.returned.left.work_zero (c.work_size ∙ sym d.work_size);
      }

pub demand_chain : DemandChain
demand_chain = record {
  refused = λ site table way start c. chain_refused c;
  exact = λ site table way start c e. chain_exact c e;
  same = λ site table way start c d. chain_same c d;
}
