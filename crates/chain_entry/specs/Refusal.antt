-- Which inputs the chain refuses: the items of docs/SPEC.md, "Reasons", in their order, with 17 after 10.
use Rattle.std.specs.Prelude.{List, ℕ}
use Rattle.bitset.specs.Set.{set_bytes}
use Rattle.verdict.specs.Verdict.{Verdict, ◌then◌}
use Rattle.site.specs.Site.{site_of}
use Rattle.listing.specs.Listed.{work_bytes}
use Rattle.refusals.specs.Refusal.{buffer_verdict, start_verdict}
use Rattle.list_entry.specs.Refusal.{pair_verdict}
use Rattle.chains.specs.Given.{chain_bytes}

-- the chain: 1 of its three buffers, then 3 to 10, then 17
unfoldable pub chain_verdict : (chain_len set_len work_len : ℕ) (site table : List ℕ) (way start : ℕ) → Verdict
chain_verdict chain_len set_len work_len site table way start =
    buffer_verdict chain_len chain_bytes
    then buffer_verdict set_len set_bytes
    then buffer_verdict work_len work_bytes
    then pair_verdict site table
    then start_verdict (site_of site) way start
