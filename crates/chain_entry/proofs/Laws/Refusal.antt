-- What the chain knows of inputs that meet no item.
use Rattle.std.specs.Prelude.{◌≡◌, List, ℕ}
use Rattle.bitset.specs.Set.{set_bytes}
use Rattle.verdict.specs.Verdict.{Accepted}
use Rattle.site.specs.Site.{site_of}
use Rattle.site.specs.Refusal.{site_verdict}
use Rattle.condition.specs.Refusal.{condition_verdict}
use Rattle.listing.specs.Listed.{work_bytes}
use Rattle.refusals.specs.Refusal.{buffer_verdict, start_verdict}
use Rattle.refusals.proofs.Laws.Items.{buffer_out, StartFits, start_out, then_out}
use Rattle.list_entry.specs.Refusal.{pair_verdict}
use Rattle.chains.specs.Given.{chain_bytes}
use Rattle.chain_entry.specs.Refusal.{chain_verdict}

pub record Accepts (chain_len set_len work_len : ℕ) (site table : List ℕ) (way start : ℕ) : Type 0 where
  pub chain_size : chain_len ≡ chain_bytes
  pub set_size : set_len ≡ set_bytes
  pub work_size : work_len ≡ work_bytes
  pub site_accepted : site_verdict site ≡ Accepted
  pub table_accepted : condition_verdict table ≡ Accepted
  pub fits : StartFits (site_of site) way start

pub chain_accepts : (chain_len set_len work_len : ℕ) (site table : List ℕ) (way start : ℕ)
    → chain_verdict chain_len set_len work_len site table way start ≡ Accepted → Accepts chain_len set_len work_len site table way start
unfolding chain_verdict
chain_accepts chain_len set_len work_len site table way start e =
    let p = then_out (buffer_verdict chain_len chain_bytes) _ e in
    let q = then_out (buffer_verdict set_len set_bytes) _ p.1 in
    let r = then_out (buffer_verdict work_len work_bytes) _ q.1 in
    let t = then_out (pair_verdict site table) (start_verdict (site_of site) way start) r.1 in
    let u = then_out (site_verdict site) (condition_verdict table) t.0 in
    record {
      chain_size = buffer_out chain_len chain_bytes p.0;
      set_size = buffer_out set_len set_bytes q.0;
      work_size = buffer_out work_len work_bytes r.0;
      site_accepted = u.0;
      table_accepted = u.1;
      fits = start_out (site_of site) way start t.1;
    }
