-- Numbers and their bytes, one from the other.
use Rattle.std.specs.Prelude.{◌≡◌, refl, List, [], ◌∷◌, ℕ, zero, suc, ◌+◌, ◌/◌, ◌^◌, ◌≤◌, ◌<◌, length, take, drop}
use Rattle.std.proofs.Common.{ap, div-add-mod', le_of_suc-le-suc, arith, get_or-drop}
use Rattle.std.proofs.Math.Arith.{digits_div, digits_mod}
use Rattle.finite.specs.Bytes.{Bytes}
use Rattle.words.specs.Word.{word, bytes}

pub drop-bytes : (i : ℕ) (S : List ℕ) → Bytes S → Bytes (drop i S)
drop-bytes i S b k = rw (get_or-drop i S k 0) (b (i + k))

pow_pos : (n : ℕ) → 0 < 256 ^ n
pow_pos zero = omega arith
pow_pos (suc n) = omega (arith, pow_pos n)

pub word_lt : (n : ℕ) (S : List ℕ) → Bytes S → word n S < 256 ^ n
unfolding word
word_lt zero S b = omega arith
word_lt (suc n) [] b = omega (arith, pow_pos n)
word_lt (suc n) (x ∷ S) b = omega (arith, word_lt n S (λ k. b (suc k)), b 0)

pub word_of_bytes : (n w : ℕ) → w < 256 ^ n → word n (bytes n w) ≡ w
unfolding word bytes
word_of_bytes zero w h = omega arith
word_of_bytes (suc n) w h = rw (word_of_bytes n (w / 256) (omega arith)) (div-add-mod' w 256)

pub bytes_of-word : (n : ℕ) (S : List ℕ) → n ≤ length S → Bytes S → bytes n (word n S) ≡ take n S
unfolding word bytes
bytes_of-word zero S h b = refl
bytes_of-word (suc n) [] h b = absurd (omega arith)
bytes_of-word (suc n) (x ∷ S) h b =
    rw (digits_mod (word n S) (b 0), digits_div (word n S) (b 0)) (ap (λ (r : List ℕ). x ∷ r) (bytes_of-word n S (le_of_suc-le-suc h) (λ k. b (suc k))))
