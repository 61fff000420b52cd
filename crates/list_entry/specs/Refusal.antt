-- Which inputs listing refuses: the items of docs/SPEC.md, "Reasons", in their order.
use Rattle.std.specs.Prelude.{List, ℕ}
use Rattle.bitset.specs.Set.{set_bytes}
use Rattle.verdict.specs.Verdict.{Verdict, ◌then◌}
use Rattle.site.specs.Refusal.{site_verdict}
use Rattle.condition.specs.Refusal.{condition_verdict}
use Rattle.listing.specs.Listed.{work_bytes}
use Rattle.refusals.specs.Refusal.{buffer_verdict, limit_verdict, rounds_verdict}

-- a site and a condition: 3 to 6, then 7 to 10
abbrev pub pair_verdict : (site table : List ℕ) → Verdict
pair_verdict site table = site_verdict site then condition_verdict table

-- listing, all items but 15: 1 of its two buffers, then 16, then 3 to 10
unfoldable pub list_inputs : (set_len work_len limit : ℕ) (site table : List ℕ) → Verdict
list_inputs set_len work_len limit site table =
    buffer_verdict set_len set_bytes
    then buffer_verdict work_len work_bytes
    then limit_verdict limit
    then pair_verdict site table

-- listing, where it makes n rounds: 15 comes last
unfoldable pub list_verdict : (set_len work_len limit : ℕ) (site table : List ℕ) (n : ℕ) → Verdict
list_verdict set_len work_len limit site table n = list_inputs set_len work_len limit site table then rounds_verdict limit n
