-- The list of a condition without a loop after a sheet is that of the rewritten one today, and has the slots where the condition holds after the
-- sheet. Neither makes a round, so that no limit refuses them.
use Rattle.std.specs.Prelude.{◌≡◌, ◌↔◌, true, List, ℕ, ◌<◌}
use Rattle.std.proofs.Common.{arith}
use Rattle.bitset.specs.Set.{has}
use Rattle.limits.specs.Limits.{slots}
use Rattle.semantics.specs.Holds.{Env, Holds}
use Rattle.semantics.specs.Table.{Node, form_of}
use Rattle.rounds.proofs.Laws.Loopless.{loopless, loopless-makes, sheet-loopless}
use Rattle.site.specs.Site.{site_of}
use Rattle.condition.specs.Bytes as condition
use Rattle.condition.proofs.Laws.Bytes.{table_back_lem}
use Rattle.sheet.specs.Bytes.{edits_of}
use Rattle.list_entry.specs.Listing.{SiteMakes}
use Rattle.demands.specs.Demands.{ApplyCall, RewriteCall, ListCall, rewritten_table, Runnable, SameLists, Demand2}
use Rattle.demands.proofs.Laws.Demands.{demand_2, is_rewritten}
use Rattle.demands.proofs.Laws.Rounds.{not_over}

module _ (edition : ℕ) (site sheet : List ℕ) (xs : List Node) (still : loopless xs ≡ true) (j : Runnable edition site (condition.bytes_of xs) sheet)
    (applied : ApplyCall edition site sheet) (rewrote : RewriteCall edition (condition.bytes_of xs) sheet)
    (today : ListCall site (rewritten_table rewrote)) (after : ListCall applied.result' (condition.bytes_of xs)) where
  same_lists : SameLists applied rewrote today after
  unfolding Demand2
  same_lists =
      let makes_after : SiteMakes applied.result' (condition.bytes_of xs) 0 = λ ρ. rw (table_back_lem xs) (loopless-makes xs still (site_of applied.result') ρ) in
      let makes_today : SiteMakes site (rewritten_table rewrote) 0 =
      λ ρ. rw (is_rewritten j rewrote, table_back_lem xs) (loopless-makes _ (sheet-loopless (edits_of edition sheet) xs still) (site_of site) ρ) in
      demand_2 edition site (condition.bytes_of xs) sheet j applied rewrote today after
      (not_over makes_today today (omega arith))
      (not_over makes_after after (omega arith))

  pub lists_same : today.set' ≡ after.set'
  lists_same = same_lists.agree.same_set

  pub today_holds : (ρ : Env) (s : ℕ) → s < slots → (has today.set' s ≡ true) ↔ Holds (site_of applied.result') ρ (form_of xs) s
  today_holds ρ s h = rw (lists_same) ((rw (table_back_lem xs) at same_lists.agree.after_listed).listed ρ s h)
