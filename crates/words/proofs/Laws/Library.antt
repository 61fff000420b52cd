-- The library's reading and writing of eight bytes are `word` and `bytes`.
use Rattle.std.specs.Prelude.{◌≡◌, refl, List, [], ◌∷◌, ◌++◌, ℕ, zero, suc, ◌+◌, ◌-◌, ◌/◌, ◌%◌, ◌^◌, ◌≤◌, ◌<◌, length, take, drop}
use Rattle.std.proofs.Common.{sym, ap, ◌∙◌, subst, div-one, pow-suc, drop-drop, arith, length-drop, length-take-le, get_or-take}
use Rattle.std.proofs.lemmas.List.{append_assoc, take_rest}
use Rattle.std.proofs.Math.Nat.{div-div-eq-div-mul}
use Rattle.std.proofs.Math.ListN.{get_or-eq_default}
use Rattle.std.proofs.lemmas.Nat.{le_bytes_8}
use Rattle.std.proofs.lemmas.List.Edits.{sets-eq}
use Rattle.std.specs.Int.{from_le_bytes, to_le_bytes, byte_at, bytes_low_first, w64}
use Rattle.finite.specs.Tests.{below}
use Rattle.finite.specs.Bytes.{Bytes}
use Rattle.finite.proofs.Laws.Bools.{either, look}
use Rattle.finite.proofs.Laws.Below.{below_out, not-below}
use Rattle.words.specs.Word.{word, bytes, put_at}
use Rattle.words.proofs.Laws.Bytes.{word_of_bytes, drop-bytes}

byte : (i w : ℕ) → byte_at i w ≡ w / 256 ^ i % 256
byte zero w = ap (λ x. x % 256) (sym (div-one w))
byte (suc i) w = refl

next : (i w : ℕ) → w / 256 ^ suc i ≡ w / 256 ^ i / 256
next i w = rw (pow-suc 256 i) (sym (div-div-eq-div-mul w (256 ^ i) 256))

low_first : (k i w : ℕ) → bytes_low_first i k w ≡ bytes k (w / 256 ^ i)
unfolding bytes
low_first zero i w = refl
low_first (suc k) i w = rw (byte i w, low_first k (suc i) w, next i w) refl

pub to_le : (w : ℕ) → to_le_bytes w64 w ≡ bytes 8 w
to_le w = low_first 8 0 w ∙ ap (bytes 8) (div-one w)

pub length_bytes : (n w : ℕ) → length (bytes n w) ≡ n
unfolding bytes
length_bytes zero w = refl
length_bytes (suc n) w = ap suc (length_bytes n (w / 256))

pub word_take : (n : ℕ) (S : List ℕ) → word n (take n S) ≡ word n S
unfolding word
word_take zero S = refl
word_take (suc n) [] = refl
word_take (suc n) (x ∷ S) = rw (word_take n S) refl

pub take_small : (n : ℕ) (S : List ℕ) → n ≤ length S → Bytes S → Bytes (take n S)
take_small n S l b i =
    either
    (look (below i n))
    (λ q. rw (get_or-take n S i 0 (below_out i n q)) (b i))
    (λ q. let e = get_or-eq_default (take n S) 0 {n = i} (omega (arith, not-below i n q, length-take-le n S l)) in omega arith)

-- the word that starts at byte i of S, of eight bytes that are lent
pub from_le : (S part : List ℕ) (i w : ℕ) → Bytes S → i + 8 ≤ length S → part ≡ take 8 (take (length S - i) (drop i S)) → w < 2 ^ 64 → w ≡ from_le_bytes w64 part → w ≡ word 8 (drop i S)
from_le S part i w b l p h e =
    let D = drop i S in
    let long : 8 ≤ length D = simp length-drop (omega arith) in
    let q : part ≡ take 8 D = p ∙ ap (take 8) (take_rest S i) in
    sym (word_of_bytes 8 w h)
    ∙ ap (word 8) (sym (to_le w) ∙ le_bytes_8 (take 8 D) w (length-take-le 8 D long) (take_small 8 D long (drop-bytes i S b)) (e ∙ ap (from_le_bytes w64) q))
    ∙ word_take 8 D

-- the eight bytes of w, copied to byte i
pub put_copied : (d ys : List ℕ) (i k w : ℕ) → i + 8 ≤ length d → k ≡ 8 → ys ≡ to_le_bytes w64 w → take i d ++ (ys ++ drop k (drop i d)) ≡ put_at d i (bytes 8 w)
put_copied d ys i k w h e q =
    let l : length (bytes 8 w) ≡ 8 = length_bytes 8 w in
    rw (e, drop-drop 8 i d, q ∙ to_le w)
    (subst (λ n. take i d ++ (bytes 8 w ++ drop (i + n) d) ≡ put_at d i (bytes 8 w)) l
    (sym (append_assoc (take i d) (bytes 8 w) (drop (i + length (bytes 8 w)) d)) ∙ sym (sets-eq (bytes 8 w) d i (omega (arith, l)))))
