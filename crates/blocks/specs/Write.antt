-- Nodes written into a buffer.
use Rattle.std.specs.Prelude.{◌≡◌, Result, Ok, Err, ◌<◌, List, [], ◌∷◌, ℕ, suc, ◌+◌, ◌*◌, ◌≤◌, length, take}
use Rattle.std.proofs.lemmas.List.Edits.{sets}
use Rattle.limits.specs.Limits.{node_size, table_nodes}
use Rattle.semantics.specs.Table.{Node}
use Rattle.blocks.specs.declared.TooLong.{TooLong}
use Rattle.condition.specs.Bytes.{node_bytes, bytes_of}

-- the node x written at number i
unfoldable pub put : List ℕ → ℕ → Node → List ℕ
put o i x = sets o (node_size * i) (node_bytes x)

-- nodes written from number at + j on
unfoldable pub puts : List ℕ → ℕ → ℕ → List Node → List ℕ
puts o at j [] = o
puts o at j (x ∷ xs) = puts (put o (at + j) x) at (suc j) xs

-- the buffer starts with these nodes, where there is room for them
unfoldable pub TableWritten : List ℕ → List Node → Type 0
TableWritten o xs = node_size * length xs ≤ length o → take (node_size * length xs) o ≡ bytes_of xs

-- a buffer starts with the table xs, which has so many nodes; or they are too many for a table
abbrev pub Made : List Node → List ℕ → Result ℕ TooLong → Type 0
Made xs o (Ok n) = (n ≡ length xs) × (n ≤ table_nodes) × (take (node_size * n) o ≡ bytes_of xs)
Made xs o (Err l) = (l.0 ≡ length xs) × (table_nodes < length xs)
