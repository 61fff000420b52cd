-- Tables of nodes as bytes: six to a node, numbers low byte first. docs/SPEC.md, "The condition".
use Rattle.std.specs.Prelude.{List, [], ◌∷◌, ◌++◌, ℕ, zero, suc, ◌+◌, ◌*◌, ◌/◌, ◌%◌, length, get_or, drop}
use Rattle.semantics.specs.Table.{Node}

-- the number in the two bytes from a on
abbrev pub word_at : List ℕ → ℕ → ℕ
word_at S a = get_or S a 0 + 256 * get_or S (a + 1) 0

-- node i: kind, parameter, left, right
unfoldable pub node_at : List ℕ → ℕ → Node
node_at S i = record {
  kind = get_or S (6 * i) 0;
  param = get_or S (6 * i + 1) 0;
  left = word_at S (6 * i + 2);
  right = word_at S (6 * i + 4);
}

-- the first n nodes, and all whole nodes
unfoldable pub nodes : List ℕ → ℕ → List Node
nodes S zero = []
nodes S (suc n) = node_at S 0 ∷ nodes (drop 6 S) n

unfoldable pub table_of : List ℕ → List Node
table_of S = nodes S (length S / 6)

-- the bytes of a node, and of a table
unfoldable pub node_bytes : Node → List ℕ
node_bytes x = x.kind ∷ x.param ∷ (x.left % 256) ∷ (x.left / 256) ∷ (x.right % 256) ∷ (x.right / 256) ∷ []

unfoldable pub bytes_of : List Node → List ℕ
bytes_of [] = []
bytes_of (x ∷ xs) = node_bytes x ++ bytes_of xs
