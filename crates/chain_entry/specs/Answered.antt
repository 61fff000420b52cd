-- What the chain and its inner functions promise. A buffer is named twice: as it was, and as it is at return (').
use Rattle.std.specs.Prelude.{◌≡◌, ◌⊎◌, List, ℕ, length, replicate, IfOk, Option, Result, Ok}
use Rattle.verdict.specs.Verdict.{Verdict, outcome}
use Rattle.verdict.specs.declared.Refusal.{Refusal}
use Rattle.chain_entry.specs.Refusal.{chain_verdict}
use Rattle.chain_entry.specs.Answer.{found_of, steps_of}
use Rattle.chain_entry.specs.Chaining.{GivesChain, GivesSet, ChainAfter}

-- the search, on inputs that meet no item, answers a
abbrev pub Searched : (site table : List ℕ) (way start : ℕ) (chain' set' : List ℕ) (a : Option ℕ) → Type 0
Searched site table way start chain' set' a =
    GivesChain site table way start chain' set' (found_of (Ok a)) (steps_of (Ok a)) ⊎ GivesSet site table way start chain' set' (found_of (Ok a)) (steps_of (Ok a))

-- the chain answers the verdict v and its two numbers
pub record ChainAnswered (site table : List ℕ) (way start : ℕ) (chain chain' set set' work work' : List ℕ) (v : Verdict) (found steps : ℕ) : Type 0 where
  pub verdict : v ≡ chain_verdict (length chain) (length set) (length work) site table way start
  pub left : ChainAfter v site table way start chain chain' set set' work work' found steps
