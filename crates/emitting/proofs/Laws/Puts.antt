-- The bytes of a buffer after nodes are written into it: theirs where they stand, and as before elsewhere.
use Rattle.std.specs.Prelude.{◌≡◌, refl, List, [], ◌∷◌, ◌++◌, ℕ, suc, ◌+◌, ◌*◌, ◌-◌, ◌≤◌, ◌<◌, length, get_or, set}
use Rattle.std.proofs.Common.{sym, ◌∙◌, ap, append_assoc, arith, length-set, get_or-set_same, get_or-set_other, get_or-append-add}
use Rattle.std.proofs.Math.ListN.{get_or-append}
use Rattle.std.proofs.lemmas.List.Edits.{sets}
use Rattle.finite.specs.Tests.{below}
use Rattle.finite.proofs.Laws.Bools.{either, look}
use Rattle.finite.proofs.Laws.Below.{below_out, not-below, equal?}
use Rattle.semantics.specs.Table.{Node}
use Rattle.condition.specs.Bytes.{node_bytes, bytes_of}
use Rattle.limits.specs.Limits.{node_size}
use Rattle.blocks.specs.Write.{put, puts}
use Rattle.blocks.proofs.Laws.Write.{length-put}

sets_low : (vs l : List ℕ) (i p : ℕ) → p < i → get_or (sets l i vs) p 0 ≡ get_or l p 0
sets_low [] l i p h = refl
sets_low (a ∷ vs) l i p h = sets_low vs (set l i a) (suc i) p (omega arith) ∙ get_or-set_other l i p a 0 (λ q. omega arith)

sets_high : (vs l : List ℕ) (i p : ℕ) → i + length vs ≤ p → get_or (sets l i vs) p 0 ≡ get_or l p 0
sets_high [] l i p h = refl
sets_high (a ∷ vs) l i p h = sets_high vs (set l i a) (suc i) p (omega arith) ∙ get_or-set_other l i p a 0 (λ q. omega arith)

sets_in : (vs l : List ℕ) (i p : ℕ) → i ≤ p → p < i + length vs → p < length l → get_or (sets l i vs) p 0 ≡ get_or vs (p - i) 0
sets_in [] l i p h k b = absurd (omega arith)
sets_in (a ∷ vs) l i p h k b =
    either
    (equal? p i)
    (λ q. let z : p - i ≡ 0 = omega arith in
    sets_low vs (set l i a) (suc i) p (omega arith) ∙ rw (z, q) (get_or-set_same l i a 0 (omega arith)))
    (λ q. let z : p - i ≡ suc (p - suc i) = omega arith in
    sets_in vs (set l i a) (suc i) p (omega arith) (omega arith) (omega (arith, length-set l i a)) ∙ rw z refl)

put_low : (o : List ℕ) (i : ℕ) (x : Node) (p : ℕ) → p < 6 * i → get_or (put o i x) p 0 ≡ get_or o p 0
unfolding put
put_low o i x p h = sets_low (node_bytes x) o (node_size * i) p h

put_high : (o : List ℕ) (i : ℕ) (x : Node) (p : ℕ) → 6 * i + 6 ≤ p → get_or (put o i x) p 0 ≡ get_or o p 0
unfolding put node_bytes
put_high o i x p h = sets_high (node_bytes x) o (node_size * i) p h

put_in : (o : List ℕ) (i : ℕ) (x : Node) (p : ℕ) → 6 * i ≤ p → p < 6 * i + 6 → p < length o → get_or (put o i x) p 0 ≡ get_or (node_bytes x) (p - 6 * i) 0
unfolding put node_bytes
put_in o i x p h k b = sets_in (node_bytes x) o (node_size * i) p h k b

pub puts_low : (o : List ℕ) (at j : ℕ) (xs : List Node) (p : ℕ) → p < 6 * (at + j) → get_or (puts o at j xs) p 0 ≡ get_or o p 0
unfolding puts
puts_low o at j [] p h = refl
puts_low o at j (x ∷ xs) p h = puts_low (put o (at + j) x) at (suc j) xs p (omega arith) ∙ put_low o (at + j) x p h

pub puts_high : (o : List ℕ) (at j : ℕ) (xs : List Node) (p : ℕ) → 6 * (at + j + length xs) ≤ p → get_or (puts o at j xs) p 0 ≡ get_or o p 0
unfolding puts
puts_high o at j [] p h = refl
puts_high o at j (x ∷ xs) p h =
    puts_high (put o (at + j) x) at (suc j) xs p (omega arith) ∙ put_high o (at + j) x p (omega arith)

pub puts_in : (o : List ℕ) (at j : ℕ) (xs : List Node) (p : ℕ) → 6 * (at + j) ≤ p → p < 6 * (at + j + length xs) → p < length o
    → get_or (puts o at j xs) p 0 ≡ get_or (bytes_of xs) (p - 6 * (at + j)) 0
unfolding puts bytes_of node_bytes
puts_in o at j [] p h k b = absurd (omega arith)
puts_in o at j (x ∷ xs) p h k b =
    either
    (look (below p (6 * (at + j) + 6)))
    (λ e. let q : p < 6 * (at + j) + 6 = below_out p _ e in puts_low (put o (at + j) x) at (suc j) xs p (omega arith)
    ∙ put_in o (at + j) x p h q b
    ∙ sym (get_or-append (node_bytes x) (bytes_of xs) 0 (p - 6 * (at + j)) (omega arith)))
    (λ e. let q : 6 * (at + j) + 6 ≤ p = not-below p _ e in let z : p - 6 * (at + j) ≡ 6 + (p - 6 * (at + suc j)) = omega arith in
    puts_in (put o (at + j) x) at (suc j) xs p (omega arith) (omega arith) (omega (arith, length-put o (at + j) x))
    ∙ sym (get_or-append-add (node_bytes x) (bytes_of xs) (p - 6 * (at + suc j)) 0)
    ∙ ap (λ (m : ℕ). get_or (node_bytes x ++ bytes_of xs) m 0) (sym z))

pub bytes_append : (xs ys : List Node) → bytes_of (xs ++ ys) ≡ bytes_of xs ++ bytes_of ys
unfolding bytes_of
bytes_append [] ys = refl
bytes_append (x ∷ xs) ys =
    ap (λ (l : List ℕ). node_bytes x ++ l) (bytes_append xs ys) ∙ sym (append_assoc (node_bytes x) (bytes_of xs) (bytes_of ys))
