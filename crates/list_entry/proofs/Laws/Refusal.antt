-- What listing knows of inputs that meet no item but 15.
use Rattle.std.specs.Prelude.{◌≡◌, List, ℕ, ◌≤◌}
use Rattle.bitset.specs.Set.{set_bytes}
use Rattle.limits.specs.Limits.{highest_limit}
use Rattle.verdict.specs.Verdict.{Accepted}
use Rattle.site.specs.Refusal.{site_verdict}
use Rattle.condition.specs.Refusal.{condition_verdict}
use Rattle.listing.specs.Listed.{work_bytes}
use Rattle.refusals.specs.Refusal.{buffer_verdict, limit_verdict}
use Rattle.refusals.proofs.Laws.Items.{buffer_out, limit_out, then_out}
use Rattle.list_entry.specs.Refusal.{list_inputs}

pub record Accepts (set_len work_len limit : ℕ) (site table : List ℕ) : Type 0 where
  pub set_size : set_len ≡ set_bytes
  pub work_size : work_len ≡ work_bytes
  pub limit_fits : limit ≤ highest_limit
  pub site_accepted : site_verdict site ≡ Accepted
  pub table_accepted : condition_verdict table ≡ Accepted

pub list_accepts : (set_len work_len limit : ℕ) (site table : List ℕ) → list_inputs set_len work_len limit site table ≡ Accepted
    → Accepts set_len work_len limit site table
unfolding list_inputs
list_accepts set_len work_len limit site table e =
    let p = then_out (buffer_verdict set_len set_bytes) _ e in
    let q = then_out (buffer_verdict work_len work_bytes) _ p.1 in
    let l = then_out (limit_verdict limit) _ q.1 in
    let r = then_out (site_verdict site) (condition_verdict table) l.1 in
    record {
      set_size = buffer_out set_len set_bytes p.0;
      work_size = buffer_out work_len work_bytes q.0;
      limit_fits = limit_out limit l.0;
      site_accepted = r.0;
      table_accepted = r.1;
    }
