-- Laws of a table that a buffer starts with.
use Rattle.std.specs.Prelude.{◌≡◌, refl, List, [], ◌∷◌, ◌++◌, ℕ, zero, suc, ◌+◌, ◌*◌, ◌/◌, ◌≤◌, ◌<◌, length, get_or, take, drop}
use Rattle.std.proofs.Common.{sym, ◌∙◌, ap, ap₂, arith, take-append-drop, take_at}
use Rattle.std.proofs.Math.ListN.{get_or-append}
use Rattle.semantics.specs.Table.{Node}
use Rattle.condition.specs.Bytes.{node_at, nodes, table_of, bytes_of}
use Rattle.condition.proofs.Laws.Bytes.{length-nodes, length-bytes, nodes_more, read_back, write_back}

node-agree : (s t : List ℕ) (n : ℕ) → ((i : ℕ) → i < 6 * suc n → get_or s i 0 ≡ get_or t i 0) → node_at s n ≡ node_at t n
unfolding node_at
node-agree s t n h =
    rw (h (6 * n) (omega arith), h (6 * n + 1) (omega arith), h (6 * n + 2) (omega arith), h (6 * n + 2 + 1) (omega arith), h (6 * n + 4) (omega arith), h (6 * n + 4 + 1) (omega arith))
    refl

pub nodes-agree : (s t : List ℕ) (n : ℕ) → ((i : ℕ) → i < 6 * n → get_or s i 0 ≡ get_or t i 0) → nodes s n ≡ nodes t n
unfolding nodes
nodes-agree s t zero h = refl
nodes-agree s t (suc n) h =
    nodes_more s n
    ∙ ap₂ (λ (l : List Node) (x : Node). l ++ (x ∷ [])) (nodes-agree s t n (λ i g. h i (omega arith))) (node-agree s t n h)
    ∙ sym (nodes_more t n)

pub read_table : (o : List ℕ) (ys : List Node) → take (6 * length ys) o ≡ bytes_of ys → nodes o (length ys) ≡ ys
read_table o ys e =
    ap (λ (s : List ℕ). nodes s (length ys)) (sym (take-append-drop (6 * length ys) o) ∙ ap (λ (l : List ℕ). l ++ drop (6 * length ys) o) e)
    ∙ read_back ys (drop (6 * length ys) o)

pub take_table : (s : List ℕ) (n : ℕ) → ((i : ℕ) → get_or s i 0 < 256) → 6 * n ≤ length s → take (6 * n) s ≡ bytes_of (nodes s n)
take_table s n h g =
    let l : length (bytes_of (nodes s n)) ≡ 6 * n = length-bytes (nodes s n) ∙ ap (λ (m : ℕ). 6 * m) (length-nodes s n) in
    ap (take (6 * n)) (sym (write_back s n h g)) ∙ take_at (bytes_of (nodes s n)) (drop (6 * n) s) (6 * n) l

-- a table that is copied to the front of a buffer
pub copied : (t z : List ℕ) → nodes (t ++ z) (length t / 6) ≡ table_of t
unfolding table_of
copied t z = nodes-agree (t ++ z) t (length t / 6) (λ i h. get_or-append t z 0 i (omega arith))
