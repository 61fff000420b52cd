-- The state of the pass: for each node that is done, the variables that occur free under an even and under an odd number of nots.
use Rattle.std.specs.Prelude.{◌≡◌, List, Bool, true, cond, ℕ, ◌+◌, ◌*◌, ◌/◌, ◌%◌, ◌≤◌, ◌<◌, length, get_or}
use Rattle.std.specs.Int.Bits.{bit_or}
use Rattle.finite.specs.Tests.{bit}
use Rattle.limits.specs.Limits.{variables, table_nodes, table_bytes, not_no, or_no, and_no, nu_no}
use Rattle.semantics.specs.Form.{Form, occ}
use Rattle.semantics.specs.Table.{tree_at, nodes_fit}
use Rattle.condition.specs.Bytes.{node_at, table_of}

-- A mask has 16 bits (u16), of which the variable v has bit v: enough, since there are at most 16 variables. A word (u64) has two masks, for
-- occurrences under an even number of nots and above it for those under an odd one
abbrev pub mask_bits : ℕ
mask_bits = 16

abbrev pub mask_limit : ℕ
mask_limit = 65536

abbrev pub word_bits : ℕ
word_bits = 64

-- the word of all its bits
abbrev pub full_word : ℕ
full_word = 18446744073709551615

-- set in the word of a node that is done, above both masks
abbrev pub done_word : ℕ
done_word = 4294967296

-- the bit of the variable v in a word: under an even number of nots, or an odd one
abbrev pub bit_of : Bool → ℕ → ℕ
bit_of even v = cond even v (mask_bits + v)

-- the two masks of a word exchanged
abbrev pub swap : ℕ → ℕ
swap w = w / mask_limit % mask_limit + mask_limit * (w % mask_limit)

-- the two masks of a word united
abbrev pub free_bits : ℕ → ℕ
free_bits w = bit_or (w % mask_limit) (w / mask_limit % mask_limit)

-- the word w has the bits of the free occurrences in φ
pub record Shows (φ : Form) (w : ℕ) : Type 0 where
  pub bits : (even : Bool) (v : ℕ) → v < variables → bit w (bit_of even v) ≡ occ even v φ

-- the word of node j is right
abbrev pub Row : List ℕ → List ℕ → ℕ → Type 0
Row S words j = Shows (tree_at (table_of S) j) (get_or words j 0)

-- the words of node i's children are right
pub record Children (S words : List ℕ) (i : ℕ) : Type 0 where
  pub left : not_no ≤ (node_at S i).kind → (node_at S i).kind ≤ nu_no → Row S words (node_at S i).left
  pub right : or_no ≤ (node_at S i).kind → (node_at S i).kind ≤ and_no → Row S words (node_at S i).right

-- node j is done
abbrev pub Done : List ℕ → ℕ → Type 0
Done words j = 0 < get_or words j 0

-- the words of all nodes that are done are right
abbrev pub MasksRight : List ℕ → List ℕ → Type 0
MasksRight S words = (j : ℕ) → 6 * j + 6 ≤ length S → Done words j → Row S words j

-- the words of all nodes are right
pub record Rows (S words : List ℕ) : Type 0 where
  pub node : (j : ℕ) → 6 * j + 6 ≤ length S → Row S words j

-- a node that was done stays done
abbrev pub Kept : List ℕ → List ℕ → Type 0
Kept words words' = (j : ℕ) → Done words j → Done words' j

-- the nodes from i on are done
pub record DoneFrom (S words : List ℕ) (i : ℕ) : Type 0 where
  pub node : (j : ℕ) → i ≤ j → 6 * j + 6 ≤ length S → Done words j

-- a table whose nodes fit
pub record Fit (S : List ℕ) : Type 0 where
  pub few : length S ≤ table_bytes
  pub fits : nodes_fit 0 (table_of S) ≡ true

-- what a visit of a node below i asks
pub record Visitable (S words : List ℕ) (i : ℕ) : Type 0 where
  pub fit : Fit S
  pub size : length words ≡ table_nodes
  pub inside : 6 * i ≤ length S
  pub right : MasksRight S words

-- what a visit of node c leaves: c is done where it is below i
pub record Visited (S words words' : List ℕ) (i c : ℕ) : Type 0 where
  pub size : length words' ≡ table_nodes
  pub right : MasksRight S words'
  pub kept : Kept words words'
  pub here : c < i → Done words' c

-- the first n entries are the free variables of the words; the others are as they were
pub record United (words rows rows' : List ℕ) (n : ℕ) : Type 0 where
  pub node : (j : ℕ) → j < n → get_or rows' j 0 ≡ free_bits (get_or words j 0)
  pub rest : (j : ℕ) → n ≤ j → get_or rows' j 0 ≡ get_or rows j 0
