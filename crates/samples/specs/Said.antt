-- What a row says of its site, sheet and condition, in the words of the semantics.
use Rattle.std.specs.Prelude.{◌≡◌, ◌↔◌, List, [], ◌∷◌, true, false, not, ℕ, ◌<◌, length, get_or, take}
use Rattle.finite.specs.Tests.{count, first}
use Rattle.limits.specs.Limits.{slots}
use Rattle.semantics.specs.Form.{even, closed}
use Rattle.semantics.specs.Holds.{Env, Model, Holds}
use Rattle.semantics.specs.Table.{Node, tree_at, form_of, nodes_fit, even_table}
use Rattle.semantics.specs.Edit.{DS, goes, Valid, sheet, sheet_legal, sheet_goes}
use Rattle.semantics.specs.Block.{rewrite_sheet}
use Rattle.rounds.specs.Makes.{Makes}
use Rattle.samples.specs.Site.{model}
use Rattle.samples.specs.Rows.{Slots, has, Expected, lists, stuck_at, odd_at, Row}

-- the site before and after the row's sheet, and the table rewritten through it
abbrev pub before : Row → Model
before r = model r.site

abbrev pub after : Row → Model
after r = sheet r.edits (before r)

abbrev pub rewritten : Row → List Node
rewritten r = rewrite_sheet r.edits r.table

-- the site is valid, the sheet's edits are legal, and the table is not empty and meets neither item 8 nor item 10
pub record Sound (r : Row) : Type 0 where
  pub valid : Valid (before r)
  pub legal_sheet : sheet_legal r.edits ≡ true
  pub some_node : 0 < length r.table
  pub fits : nodes_fit 0 r.table ≡ true
  pub is_closed : closed (form_of r.table) ≡ true

-- the sheet goes through and the loops keep the even rule; for every valuation, the condition holds after the sheet at the slots of the set
-- alone, and so does the rewritten condition today; and listing them makes just so many rounds
pub record Lists (r : Row) (S : Slots) (c k a t : ℕ) : Type 0 where
  pub goes_through : sheet_goes r.edits (before r) ≡ true
  pub even_rule : even_table r.table ≡ true
  pub holds_after : (ρ : Env) (s : ℕ) → s < slots → Holds (after r) ρ (form_of r.table) s ↔ (has S s ≡ true)
  pub holds_today : (ρ : Env) (s : ℕ) → s < slots → Holds (before r) ρ (form_of (rewritten r)) s ↔ (has S s ≡ true)
  pub makes_after : (ρ : Env) → Makes (after r) ρ (form_of r.table) a
  pub makes_today : (ρ : Env) → Makes (before r) ρ (form_of (rewritten r)) t
  pub slot_count : count slots (has S) ≡ c
  pub node_count : length (rewritten r) ≡ k

-- the edits before edit w go through, and w does not
pub record Stuck (r : Row) (w : ℕ) : Type 0 where
  pub inside : w < length r.edits
  pub others_go : sheet_goes (take w r.edits) (before r) ≡ true
  pub stuck : goes (get_or r.edits w (DS 0)) (sheet (take w r.edits) (before r)) ≡ false

-- node w is the lowest that breaks the even rule
pub record Odd (r : Row) (w : ℕ) : Type 0 where
  pub inside : w < length r.table
  pub lowest : first (length r.table) (λ i. not (even (tree_at r.table i))) ≡ w

abbrev pub Says : Row → Expected → Type 0
Says r (lists S c k a t) = Lists r S c k a t
Says r (stuck_at w) = Stuck r w
Says r (odd_at w) = Odd r w

-- each row of a list is sound and says what is expected of it
abbrev pub AllSaid : List Row → Type 0
AllSaid [] = Unit {0}
AllSaid (r ∷ rs) = (Sound r × Says r r.expected) × AllSaid rs
