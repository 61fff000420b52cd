-- The bits of a number are those of its bytes.
use Rattle.std.specs.Prelude.{◌≡◌, List, [], ◌∷◌, ℕ, zero, suc, ◌+◌, ◌-◌, ◌*◌, ◌/◌, ◌%◌, ◌^◌, ◌<◌, get_or, drop}
use Rattle.std.proofs.Common.{sym, ap, ◌∙◌, zero-add, suc-add, le_of_suc-le-suc, div-one, arith, get_or-drop}
use Rattle.std.specs.Int.Bits.{block_half, block_odd}
use Rattle.finite.specs.Tests.{bit, below}
use Rattle.finite.specs.Bytes.{Bytes}
use Rattle.finite.proofs.Laws.Bits.{bit-suc}
use Rattle.finite.proofs.Laws.Bools.{either, look}
use Rattle.finite.proofs.Laws.Weights.{bit-zero}
use Rattle.finite.proofs.Laws.Below.{below_out, not-below}
use Rattle.words.specs.Word.{word}
use Rattle.words.proofs.Laws.Bytes.{drop-bytes}

first_bit : (n a x : ℕ) → bit (a * 2 ^ suc n + x) 0 ≡ bit x 0
unfolding bit
first_bit n a x = rw (div-one (a * 2 ^ suc n + x), div-one x, block_odd a n x)

-- the n low bits of a number, and those above
low_bits : (n a x k : ℕ) → k < n → bit (a * 2 ^ n + x) k ≡ bit x k
low_bits zero a x k h = absurd (omega arith)
low_bits (suc n) a x zero h = first_bit n a x
low_bits (suc n) a x (suc k) h =
    bit-suc (a * 2 ^ suc n + x) k ∙ ap (λ z. bit z k) (block_half a n x) ∙ low_bits n a (x / 2) k (le_of_suc-le-suc h) ∙ sym (bit-suc x k)

high_bits : (n a x k : ℕ) → x < 2 ^ n → bit (a * 2 ^ n + x) (n + k) ≡ bit a k
high_bits zero a x k h = rw (zero-add k) (ap (λ z. bit z k) (let e : a * 2 ^ 0 + x ≡ a = omega arith in e))
high_bits (suc n) a x k h =
    rw (suc-add n k) (bit-suc (a * 2 ^ suc n + x) (n + k) ∙ ap (λ z. bit z (n + k)) (block_half a n x) ∙ high_bits n a (x / 2) k (omega arith))

pub byte_bits : (n : ℕ) (S : List ℕ) (k : ℕ) → Bytes S → k < n * 8 → bit (word n S) k ≡ bit (get_or S (k / 8) 0) (k % 8)
unfolding word
byte_bits zero S k b h = absurd (omega arith)
byte_bits (suc n) [] k b h = bit-zero k ∙ sym (bit-zero (k % 8))
byte_bits (suc n) (x ∷ S) k b h =
    either
    (look (below k 8))
    (λ q. let l = below_out k 8 q in rw (low_bits 8 (word n S) x k l, (let e : k / 8 ≡ 0 = omega arith in e), (let e : k % 8 ≡ k = omega arith in e)))
    (λ q.
    let l = not-below k 8 q in
    rw ((let e : k / 8 ≡ suc ((k - 8) / 8) = omega arith in e), (let e : k % 8 ≡ (k - 8) % 8 = omega arith in e))
    (ap (bit (word n S * 256 + x)) (let e : k ≡ 8 + (k - 8) = omega arith in e) ∙ high_bits 8 (word n S) x (k - 8) (b 0) ∙ byte_bits n S (k - 8) (λ j. b (suc j)) (omega arith)))

-- bit k of the number that starts at byte i
pub word_bits_lem : (n : ℕ) (S : List ℕ) (i k : ℕ) → Bytes S → k < n * 8 → bit (word n (drop i S)) k ≡ bit (get_or S (i + k / 8) 0) (k % 8)
word_bits_lem n S i k b h = byte_bits n (drop i S) k (drop-bytes i S b) h ∙ ap (λ x. bit x (k % 8)) (get_or-drop i S (k / 8) 0)
