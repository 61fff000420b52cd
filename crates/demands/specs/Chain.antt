-- The demand on the chain behind a place, over bytes. A chain is given exactly if mu 15 (goal or diamond variable 15), of whatever length, lists the
-- start; where its table fits, listing it says the same. Where there is no chain, the set holds the start, is closed under the way, and holds no
-- slot of the goal. Item 17 is met exactly if no other item is and the way or the start does not fit.
use Rattle.std.specs.Prelude.{◌≡◌, ◌⊎◌, ◌↔◌, ◌≢◌, true, List, ℕ, ◌≤◌, ◌<◌, length, get_or}
use Rattle.bitset.specs.Set.{set_bytes, has}
use Rattle.limits.specs.Limits.{slots, every_way, table_nodes}
use Rattle.semantics.specs.Holds.{Env, Holds, step}
use Rattle.semantics.specs.Table.{way_of, form_of}
use Rattle.site.specs.Site.{site_of}
use Rattle.condition.specs.Bytes.{table_of, bytes_of}
use Rattle.listing.specs.Listed.{work_bytes}
use Rattle.chains.specs.Given.{chain_bytes, leads_table}
use Rattle.chain_entry.specs.Chaining.{Goal}
use Rattle.desk.specs.Returned.{ReturnedChain}
use Rattle.demands.specs.Demands.{ListCall}
use Rattle.demands.specs.Rounds.{Listable}

-- a call: buffers of the stated lengths, and whatever it returns and leaves in them (')
pub record ChainCall (site table : List ℕ) (way start : ℕ) : Type 0 where
  pub chain : List ℕ
  pub chain' : List ℕ
  pub set : List ℕ
  pub set' : List ℕ
  pub work : List ℕ
  pub work' : List ℕ
  pub reason : ℕ
  pub fault : ℕ
  pub found : ℕ
  pub steps : ℕ
  pub chain_size : length chain ≡ chain_bytes
  pub set_size : length set ≡ set_bytes
  pub work_size : length work ≡ work_bytes
  pub returned : ReturnedChain site table way start chain chain' set set' work work' reason fault found steps

-- ---- which calls are refused

-- the way is 0 to 15, and the start is a present slot
pub record Startable (site : List ℕ) (way start : ℕ) : Type 0 where
  pub way_fits : way < every_way
  pub start_fits : start < slots
  pub start_present : (site_of site).present start ≡ true

pub record ChainRefused (site table : List ℕ) (way start : ℕ) (c : ChainCall site table way start) : Type 0 where
  pub accepted : (c.reason ≡ 0) ↔ (Listable site table × Startable site way start)
  pub item_17 : (c.reason ≡ 17) ↔ (Listable site table × ¬ Startable site way start)

-- ---- what the others are given

-- the bytes of the table of mu 15 (goal or diamond variable 15): the goal's nodes and four more
abbrev pub leads_bytes : (way : ℕ) (table : List ℕ) → List ℕ
leads_bytes way table = bytes_of (leads_table way (table_of table))

-- the set s of slots holds the start, is closed under the way, and holds no slot of the goal
pub record Apart (site table : List ℕ) (way start : ℕ) (s : List ℕ) : Type 0 where
  pub start_in : has s start ≡ true
  pub is_closed : (t u : ℕ) → t < slots → u < slots → step (site_of site) (way_of way) t u ≡ true → has s t ≡ true → has s u ≡ true
  pub no_goal : (ρ : Env) (t : ℕ) → t < slots → has s t ≡ true → ¬ Goal site table ρ t

pub record ChainExact {site table : List ℕ} {way start : ℕ} (c : ChainCall site table way start) : Type 0 where
  pub one_or_none : (c.found ≡ 1) ⊎ (c.found ≡ 0)
  pub exactly : (ρ : Env) → (c.found ≡ 1) ↔ Holds (site_of site) ρ (form_of (leads_table way (table_of table))) start
  -- where that table fits, listing accepts it under any limit; it is refused with 15 at most, and else lists the start exactly if a chain is given
  pub listed : length (leads_table way (table_of table)) ≤ table_nodes → (l : ListCall site (leads_bytes way table)) → l.reason ≢ 15
      → (l.reason ≡ 0) × ((c.found ≡ 1) ↔ (has l.set' start ≡ true))
  -- a chain has at most 255 steps, and no slot twice
  pub few_steps : c.steps < slots
  pub no_slot_twice : c.found ≡ 1 → (i j : ℕ) → i < j → j ≤ c.steps → get_or c.chain' i 0 ≢ get_or c.chain' j 0
  pub apart : c.found ≡ 0 → Apart site table way start c.set'

-- ---- two calls on the same inputs return and leave the same

pub record SameChain {site table : List ℕ} {way start : ℕ} (c d : ChainCall site table way start) : Type 0 where
  pub same_reason : c.reason ≡ d.reason
  pub same_fault : c.fault ≡ d.fault
  pub same_found : c.found ≡ d.found
  pub same_steps : c.steps ≡ d.steps
  pub same_chain : c.chain' ≡ d.chain'
  pub same_set : c.set' ≡ d.set'
  pub same_work : c.work' ≡ d.work'

pub record DemandChain : Type 0 where
  pub refused : (site table : List ℕ) (way start : ℕ) (c : ChainCall site table way start) → ChainRefused site table way start c
  pub exact : (site table : List ℕ) (way start : ℕ) (c : ChainCall site table way start) → c.reason ≡ 0 → ChainExact c
  pub same : (site table : List ℕ) (way start : ℕ) (c d : ChainCall site table way start) → SameChain c d
