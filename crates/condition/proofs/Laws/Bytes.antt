-- Laws of tables as bytes: reading and writing are inverse.
use Rattle.std.specs.Prelude.{◌≡◌, refl, List, [], ◌∷◌, ◌++◌, ℕ, zero, suc, ◌+◌, ◌*◌, ◌/◌, ◌%◌, ◌≤◌, ◌<◌, length, get_or, drop}
use Rattle.std.proofs.Common.{sym, ◌∙◌, ap, ap₂, append_assoc, append-nil, not-suc-le-zero, arith, length-drop, get_or-drop, drop-drop}
use Rattle.semantics.specs.Table.{Node}
use Rattle.condition.specs.Bytes.{node_at, nodes, table_of, node_bytes, bytes_of}

-- ---- lengths

pub length-nodes : (S : List ℕ) (n : ℕ) → length (nodes S n) ≡ n
unfolding nodes
length-nodes S zero = refl
length-nodes S (suc n) = ap suc (length-nodes (drop 6 S) n)

pub length_table : (S : List ℕ) → length (table_of S) ≡ length S / 6
unfolding table_of
length_table S = length-nodes S (length S / 6)

pub length-bytes : (xs : List Node) → length (bytes_of xs) ≡ 6 * length xs
unfolding bytes_of node_bytes
length-bytes [] = refl
length-bytes (x ∷ xs) = let e = length-bytes xs in omega arith

-- ---- a node read behind others

at_drop : (S : List ℕ) (i j : ℕ) → 6 + i ≡ j → get_or (drop 6 S) i 0 ≡ get_or S j 0
at_drop S i j e = get_or-drop 6 S i 0 ∙ ap (λ (k : ℕ). get_or S k 0) e

pub node-drop : (S : List ℕ) (n : ℕ) → node_at (drop 6 S) n ≡ node_at S (suc n)
unfolding node_at
node-drop S n =
    rw (
      at_drop S (6 * n) (6 * suc n) (omega arith),
      at_drop S (6 * n + 1) (6 * suc n + 1) (omega arith),
      at_drop S (6 * n + 2) (6 * suc n + 2) (omega arith),
      at_drop S (6 * n + 2 + 1) (6 * suc n + 2 + 1) (omega arith),
      at_drop S (6 * n + 4) (6 * suc n + 4) (omega arith),
      at_drop S (6 * n + 4 + 1) (6 * suc n + 4 + 1) (omega arith),
    ) refl

-- one node more
pub nodes_more : (S : List ℕ) (n : ℕ) → nodes S (suc n) ≡ nodes S n ++ (node_at S n ∷ [])
unfolding nodes
nodes_more S zero = refl
nodes_more S (suc n) =
    ap (λ (l : List Node). node_at S 0 ∷ l) (nodes_more (drop 6 S) n ∙ ap (λ (y : Node). nodes (drop 6 S) n ++ (y ∷ [])) (node-drop S n))

pub nodes-at : (S : List ℕ) (n : ℕ) (d : Node) (i : ℕ) → i < n → get_or (nodes S n) i d ≡ node_at S i
unfolding nodes
nodes-at S zero d i h = absurd (not-suc-le-zero h)
nodes-at S (suc n) d zero h = refl
nodes-at S (suc n) d (suc i) h = nodes-at (drop 6 S) n d i (omega arith) ∙ node-drop S i

pub table_at : (S : List ℕ) (d : Node) (i : ℕ) → 6 * i + 6 ≤ length S → get_or (table_of S) i d ≡ node_at S i
unfolding table_of
table_at S d i h = nodes-at S (length S / 6) d i (omega arith)

-- ---- what was written is read back

digits : (n : ℕ) → n % 256 + 256 * (n / 256) ≡ n
digits n = omega arith

pub read_back : (xs : List Node) (zs : List ℕ) → nodes (bytes_of xs ++ zs) (length xs) ≡ xs
unfolding nodes bytes_of node_bytes node_at
read_back [] zs = refl
read_back (x ∷ xs) zs = ap₂ ◌∷◌ (ap₂ (λ (l r : ℕ). record { kind = x.kind; param = x.param; left = l; right = r }) (digits x.left) (digits x.right)) (read_back xs zs)

pub table_back_lem : (xs : List Node) → table_of (bytes_of xs) ≡ xs
unfolding table_of
table_back_lem xs =
    let n : length (bytes_of xs) / 6 ≡ length xs = omega (arith, length-bytes xs) in
    ap (nodes (bytes_of xs)) n ∙ ap (λ (S : List ℕ). nodes S (length xs)) (sym (append-nil (bytes_of xs))) ∙ read_back xs []

-- ---- what was read is written back

six_bytes : (S : List ℕ) → 6 ≤ length S
    → S ≡ get_or S 0 0 ∷ get_or S 1 0 ∷ get_or S 2 0 ∷ get_or S 3 0 ∷ get_or S 4 0 ∷ get_or S 5 0 ∷ drop 6 S
six_bytes [] h = absurd (omega arith)
six_bytes (a ∷ []) h = absurd (omega arith)
six_bytes (a ∷ b ∷ []) h = absurd (omega arith)
six_bytes (a ∷ b ∷ c ∷ []) h = absurd (omega arith)
six_bytes (a ∷ b ∷ c ∷ d ∷ []) h = absurd (omega arith)
six_bytes (a ∷ b ∷ c ∷ d ∷ e ∷ []) h = absurd (omega arith)
six_bytes (a ∷ b ∷ c ∷ d ∷ e ∷ f ∷ S) h = refl

low : (a b : ℕ) → a < 256 → (a + 256 * b) % 256 ≡ a
low a b h = omega arith

high : (a b : ℕ) → a < 256 → (a + 256 * b) / 256 ≡ b
high a b h = omega arith

-- the first node's bytes
pub first-node : (S : List ℕ) → ((i : ℕ) → get_or S i 0 < 256) → 6 ≤ length S → node_bytes (node_at S 0) ++ drop 6 S ≡ S
unfolding node_at node_bytes
first-node S h g =
    rw (low (get_or S 2 0) (get_or S 3 0) (h 2), high (get_or S 2 0) (get_or S 3 0) (h 2), low (get_or S 4 0) (get_or S 5 0) (h 4), high (get_or S 4 0) (get_or S 5 0) (h 4))
    (sym (six_bytes S g))

pub write_back : (S : List ℕ) (n : ℕ) → ((i : ℕ) → get_or S i 0 < 256) → 6 * n ≤ length S → bytes_of (nodes S n) ++ drop (6 * n) S ≡ S
unfolding bytes_of nodes
write_back S zero h g = refl
write_back S (suc n) h g =
    let bytes : (i : ℕ) → get_or (drop 6 S) i 0 < 256 = λ i. rw (get_or-drop 6 S i 0) (h (6 + i)) in
    let six_more : 6 * suc n ≡ 6 + 6 * n = omega arith in
    let e : drop (6 * suc n) S ≡ drop (6 * n) (drop 6 S) = ap (λ (k : ℕ). drop k S) six_more ∙ sym (drop-drop (6 * n) 6 S) in
    append_assoc (node_bytes (node_at S 0)) (bytes_of (nodes (drop 6 S) n)) (drop (6 * suc n) S)
    ∙ ap (λ (l : List ℕ). node_bytes (node_at S 0) ++ (bytes_of (nodes (drop 6 S) n) ++ l)) e
    ∙ ap (λ (l : List ℕ). node_bytes (node_at S 0) ++ l) (write_back (drop 6 S) n bytes (omega (arith, length-drop 6 S)))
    ∙ first-node S h (omega arith)
