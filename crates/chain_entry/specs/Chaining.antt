-- What the chain leaves in its buffers after a verdict, and its two numbers. A buffer is named twice: as it was, and as it is at return (').
use Rattle.std.specs.Prelude.{◌≡◌, ◌⊎◌, List, ℕ, length, replicate, Ok, Err}
use Rattle.bitset.specs.Set.{set_bytes}
use Rattle.verdict.specs.Verdict.{Verdict}
use Rattle.semantics.specs.Holds.{Env, Holds}
use Rattle.semantics.specs.Table.{way_of, form_of}
use Rattle.site.specs.Site.{site_of}
use Rattle.condition.specs.Bytes.{table_of}
use Rattle.chains.specs.Chain.{SomeChain}
use Rattle.chains.specs.Given.{chain_bytes, ChainGiven}
use Rattle.chaining.specs.Answer.{SetGiven}

-- the slots of the goal: those that the condition lists on the site. A condition without a free variable holds at the same slots under every
-- valuation ρ
abbrev pub Goal : (site table : List ℕ) → Env → ℕ → Type 0
Goal site table ρ = Holds (site_of site) ρ (form_of (table_of table))

-- a chain is given, with its steps, and a set of zeros
pub record GivesChain (site table : List ℕ) (way start : ℕ) (chain' set' : List ℕ) (found steps : ℕ) : Type 0 where
  pub is_found : found ≡ 1
  pub chain : (ρ : Env) → ChainGiven (site_of site) (way_of way) (Goal site table ρ) start steps chain'
  pub no_set : set' ≡ replicate set_bytes 0

-- there is none; the set of the slots that can be reached is given, and a chain of zeros
pub record GivesSet (site table : List ℕ) (way start : ℕ) (chain' set' : List ℕ) (found steps : ℕ) : Type 0 where
  pub not_found : (found ≡ 0) × (steps ≡ 0)
  pub none : (ρ : Env) → ¬ SomeChain (site_of site) (way_of way) (Goal site table ρ) start
  pub set : SetGiven (site_of site) (way_of way) start set'
  pub no_chain : chain' ≡ replicate chain_bytes 0

-- after the verdict Accepted one of the two; zeros after a refusal
unfoldable pub Gives : Verdict → (site table : List ℕ) (way start : ℕ) (chain chain' set set' : List ℕ) (found steps : ℕ) → Type 0
Gives (Ok _) site table way start chain chain' set set' found steps =
    GivesChain site table way start chain' set' found steps ⊎ GivesSet site table way start chain' set' found steps
Gives (Err r) site table way start chain chain' set set' found steps =
    (chain' ≡ replicate (length chain) 0) × (set' ≡ replicate (length set) 0) × (found ≡ 0) × (steps ≡ 0)

-- and a work buffer of zeros
pub record ChainAfter (v : Verdict) (site table : List ℕ) (way start : ℕ) (chain chain' set set' work work' : List ℕ) (found steps : ℕ) : Type 0 where
  pub gives : Gives v site table way start chain chain' set set' found steps
  pub work_zero : work' ≡ replicate (length work) 0
