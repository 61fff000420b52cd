-- The table of the condition mu 15 (goal or diamond variable 15): four nodes more than the goal's, of whatever length. It meets none of
-- items 8, 9 and 10, and lists the start exactly if there is a chain.
use Rattle.std.specs.Prelude.{◌≡◌, ◌↔◌, Bool, false, not, ◌&&◌, ◌||◌, ℕ, suc, ◌+◌, ◌-◌, ◌≤◌, ◌<◌, length, refl, List, [], true}
use Rattle.std.proofs.Common.{arith}
use Rattle.finite.specs.Tests.{same, below}
use Rattle.finite.proofs.Laws.Bools.{and_in, or_none}
use Rattle.finite.proofs.Laws.Below.{all_in, below_in}
use Rattle.limits.specs.Limits.{slots, variables, every_way}
use Rattle.semantics.specs.Form.{Form, occ, free, closed, even}
use Rattle.semantics.specs.Holds.{Env, Model, Holds}
use Rattle.semantics.specs.Table.{Node, way_of, atom, one, two, trees, tree_at, form_of, nodes_fit, unary_fits, leaf_fits, even_table}
use Rattle.semantics.specs.Block.{Block, size, root}
use Rattle.semantics.proofs.Laws.Emit.{block_fits, fill, even_block}
use Rattle.semantics.proofs.Laws.Append.{append_length, append_fits, append_even, append_form}
use Rattle.semantics.proofs.Laws.Eval.{table_even}
use Rattle.chains.specs.Chain.{SomeChain, leads}
use Rattle.chains.specs.Given.{leads_block, leads_table}
use Rattle.chains.proofs.Laws.Listed.{closed-free, leads_chain}

-- no variable is free in the loop: its own is bound, and the goal has none
bound : (e : Bool) → not ((not e && (false || (true && e))) || (not e && (false || (false && e)))) ≡ true
bound true = refl
bound false = refl

unbound : (φ : Form) → closed φ ≡ true → (v : ℕ) → v < variables → (occ true v φ ≡ false) × (occ false v φ ≡ false)
unfolding free
unbound φ c v l = or_none _ _ (closed-free φ c v l)

module _ (p : ℕ) (h : p ≤ every_way) (xs : List Node) (some : 0 < length xs) where
  abbrev B : Block
  B = leads_block p (length xs - 1)

  block_fits_lem : block_fits (length xs) B ≡ true
  unfolding leads_block block_fits unary_fits leaf_fits
  block_fits_lem =
      let variable : below 15 variables ≡ true = below_in 15 16 (omega arith) in
      and_in variable (and_in (below_in _ _ (omega arith)) (and_in (below_in p _ (omega arith)) variable))

  block_size : size B ≡ 4
  unfolding leads_block size
  block_size = refl

  block-root : suc (root B (length xs)) ≡ length xs + size B
  unfolding leads_block root size
  block-root = omega arith

  pub leads-length : length (leads_table p xs) ≡ length xs + 4
  unfolding leads_table
  leads-length = omega (arith, append_length xs B block_fits_lem, block_size)

  pub leads_form : form_of (leads_table p xs) ≡ leads (way_of p) (form_of xs)
  unfolding leads_table leads_block leads form_of tree_at fill atom one two
  leads_form = append_form xs B block_fits_lem block-root

  pub leads_fits : nodes_fit 0 xs ≡ true → nodes_fit 0 (leads_table p xs) ≡ true
  unfolding leads_table
  leads_fits = append_fits xs B block_fits_lem

  pub leads-even : even_table xs ≡ true → closed (form_of xs) ≡ true → even_table (leads_table p xs) ≡ true
  unfolding leads_table leads_block even_block fill one two atom even occ free form_of tree_at
  leads-even e c =
      let goal : even_block (trees [] xs) B ≡ true = rw (unbound (form_of xs) c 15 (omega arith)).1 in append_even xs B block_fits_lem e goal

  pub leads-closed : closed (form_of xs) ≡ true → closed (form_of (leads_table p xs)) ≡ true
  unfolding closed free occ leads
  leads-closed c =
      rw leads_form (all_in variables _ (λ v l. let o = unbound (form_of xs) c v l in rw (o.0, o.1) (bound (same 15 v))))

  -- the whole of it
  pub table_chain : nodes_fit 0 xs ≡ true → even_table xs ≡ true → closed (form_of xs) ≡ true → (M : Model) (ρ : Env) (s : ℕ) → s < slots
      → Holds M ρ (form_of (leads_table p xs)) s ↔ SomeChain M (way_of p) (Holds M ρ (form_of xs)) s
  unfolding form_of
  table_chain f e c M ρ s l =
      rw leads_form (leads_chain M ρ (way_of p) (form_of xs) (table_even xs f e (length xs - 1) (omega arith)) c s l)
