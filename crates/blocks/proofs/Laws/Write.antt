-- Laws of writing nodes into a buffer.
use Rattle.std.specs.Prelude.{◌≡◌, refl, List, [], ◌∷◌, ◌++◌, map, ℕ, suc, ◌+◌, ◌*◌, ◌≤◌, ◌<◌, length, take, get_or}
use Rattle.std.proofs.Common.{sym, ◌∙◌, ap, arith, length-take-le}
use Rattle.std.proofs.lemmas.List.{length-map, take_more, take_all}
use Rattle.std.proofs.Math.ListN.{get_or-map}
use Rattle.std.proofs.lemmas.List.Edits.{sets-eq}
use lib.Seq.{paste}
use Rattle.std.proofs.Math.Seq.{length-sets}
use Rattle.limits.specs.Limits.{node_size}
use Rattle.semantics.specs.Table.{Node}
use Rattle.condition.specs.Bytes.{node_bytes}
use Rattle.blocks.specs.Write.{put, puts}

-- ---- the buffer's length stays

pub length-put : (o : List ℕ) (i : ℕ) (x : Node) → length (put o i x) ≡ length o
unfolding put
length-put o i x = length-sets o (node_size * i) (node_bytes x)

pub length-puts : (o : List ℕ) (at j : ℕ) (xs : List Node) → length (puts o at j xs) ≡ length o
unfolding puts
length-puts o at j [] = refl
length-puts o at j (x ∷ xs) = length-puts (put o (at + j) x) at (suc j) xs ∙ length-put o (at + j) x

-- ---- the bytes of a node, in their place

pub paste-node : (o : List ℕ) (i : ℕ) (x : Node) → 6 * i + 6 ≤ length o → paste o (6 * i) (node_bytes x) 6 ≡ put o i x
unfolding put node_bytes
paste-node o i x h = sym (sets-eq (node_bytes x) o (6 * i) h)

-- ---- some nodes more

puts_append : (o : List ℕ) (at j : ℕ) (xs ys : List Node) → puts o at j (xs ++ ys) ≡ puts (puts o at j xs) at (j + length xs) ys
unfolding puts
puts_append o at j [] ys = let e : j + 0 ≡ j = omega arith in rw e refl
puts_append o at j (x ∷ xs) ys =
    let e : suc j + length xs ≡ j + suc (length xs) = omega arith in
    puts_append (put o (at + j) x) at (suc j) xs ys ∙ rw e refl

-- numbered from where they begin
puts_from : (o : List ℕ) (at i j : ℕ) (xs : List Node) → puts o at (i + j) xs ≡ puts o (at + i) j xs
unfolding puts
puts_from o at i j [] = refl
puts_from o at i j (x ∷ xs) =
    let e : at + (i + j) ≡ at + i + j = omega arith in
    let f : suc (i + j) ≡ i + suc j = omega arith in
    rw (e, f) (puts_from (put o (at + i + j) x) at i (suc j) xs)

pub puts_then : (o : List ℕ) (at : ℕ) (xs ys : List Node) → puts o at 0 (xs ++ ys) ≡ puts (puts o at 0 xs) (at + length xs) 0 ys
puts_then o at xs ys =
    let z : 0 + length xs ≡ length xs + 0 = omega arith in
    puts_append o at 0 xs ys ∙ ap (λ (j : ℕ). puts (puts o at 0 xs) at j ys) z ∙ puts_from (puts o at 0 xs) at (length xs) 0 ys

-- one node more
pub puts_one : (o : List ℕ) (at : ℕ) (xs : List Node) (x : Node) → puts o at 0 (xs ++ (x ∷ [])) ≡ put (puts o at 0 xs) (at + length xs) x
unfolding puts
puts_one o at xs x =
    let z : 0 + length xs ≡ length xs = omega arith in
    puts_append o at 0 xs (x ∷ []) ∙ ap (λ (j : ℕ). put (puts o at 0 xs) (at + j) x) z

-- a list of one node
pub puts_single : (o : List ℕ) (at : ℕ) (x : Node) {xs : List Node} → xs ≡ x ∷ [] → put o at x ≡ puts o at 0 xs
unfolding puts
puts_single o at x e = let z : at ≡ at + 0 = omega arith in rw e (ap (λ (i : ℕ). put o i x) z)

-- ---- nodes written one by one, which f makes of a list

module _ {A : Type 0} (f : A → Node) (o : List ℕ) (at : ℕ) (xs : List A) where
  pub made_none : o ≡ puts o at 0 (take 0 (map f xs))
  unfolding puts
  made_none = refl

  pub made_more : (j : ℕ) (d : A) {out out' : List ℕ} → j < length xs → out ≡ puts o at 0 (take j (map f xs)) → out' ≡ put out (at + j) (f (get_or xs j d))
      → out' ≡ puts o at 0 (take (j + 1) (map f xs))
  made_more j d {out} {out'} h e e' =
      let n : j < length (map f xs) = omega (arith, length-map xs f) in
      let k : length (take j (map f xs)) ≡ j = length-take-le j (map f xs) (omega arith) in
      let x : get_or (map f xs) j (f d) ≡ f (get_or xs j d) = get_or-map f xs j d in
      rw (e', e, take_more (map f xs) j (f d) n, x, puts_one, k) refl

  pub made_all : {out : List ℕ} → out ≡ puts o at 0 (take (length xs) (map f xs)) → out ≡ puts o at 0 (map f xs)
  made_all e = e ∙ ap (puts o at 0) (take_all (length xs) (map f xs) (omega (arith, length-map xs f)))
