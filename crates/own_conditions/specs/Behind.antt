-- What is left when nodes are put behind a table of n nodes.
use Rattle.std.specs.Prelude.{◌≡◌, Result, Ok, Err, List, ℕ, ◌+◌, ◌≤◌, ◌<◌, length}
use Rattle.limits.specs.Limits.{table_nodes}
use Rattle.semantics.specs.Table.{Node}
use Rattle.blocks.specs.declared.TooLong.{TooLong}
use Rattle.blocks.specs.Write.{puts}

-- the nodes xs are written into the buffer o from number n on, and r counts the nodes of the whole; or these are too many, and so are those that the error counts
abbrev pub PutBehind : List Node → (n : ℕ) (o o' : List ℕ) → Result ℕ TooLong → Type 0
PutBehind xs n o o' (Ok r) = (r ≡ n + length xs) × (r ≤ table_nodes) × (o' ≡ puts o n 0 xs)
PutBehind xs n o o' (Err l) = (table_nodes < n + length xs) × (table_nodes < l.0)
