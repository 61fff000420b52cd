-- The lines of a print in a buffer, from their parts.
use Rattle.std.specs.Prelude.{◌≡◌, refl, List, [], ◌∷◌, ℕ, ◌+◌, ◌≤◌, length, take}
use Rattle.std.proofs.Common.{sym, ◌∙◌, ap, arith, length-take-le}
use Rattle.bitset.specs.Set.{set_bytes}
use Rattle.io.specs.Counts.{IsPrefixLen}
use Rattle.io.specs.Digits.{last_digits, IsDigitCount}
use Rattle.job_text.specs.Text.{decimal, hexadecimal, count_line, list_line, done_text, refused_text}
use Rattle.job_text.specs.Put.{text_bytes, Puts}
use Rattle.job_text.proofs.Laws.Decimal.{digit_count_is, decimal_short}
use Rattle.job_text.proofs.Laws.Put.{puts_as, puts_then}
use Rattle.job_text.proofs.Laws.PutHex.{length-hexadecimal}

-- a number
pub number_put : {text text' : List ℕ} {a b : ℕ} (n k : ℕ) (ds : List ℕ) → IsDigitCount 10 1 n k → k ≤ 20 → take k ds ≡ last_digits 10 k n
    → Puts text a (take k ds) text' b → Puts text a (decimal n) text' b × (b ≤ a + 20)
unfolding decimal
number_put {text} {text'} {a} {b} n k ds f h e p =
    let q : Puts text a (decimal n) text' b = puts_as (e ∙ ap (λ (j : ℕ). last_digits 10 j n) (digit_count_is n k f h)) refl p in
    (q, omega (arith, q.ends, decimal_short n))

-- a word, a number and the end of the line
pub count-put : {text t u text' word : List ℕ} {a b c d : ℕ} (n : ℕ) → Puts text a word t b → Puts t b (decimal n) u c × (c ≤ b + 20)
    → Puts u c (10 ∷ []) text' d → Puts text a (count_line word n) text' d × (d ≤ a + (length word + 21))
unfolding count_line
count-put n p q r = (puts_then (puts_then p q.0) r, omega (arith, p.ends, q.1, r.ends))

-- a word, a number, a space, a set and the end of the line
pub list_put : {text t u v w text' word : List ℕ} {a b c d e f : ℕ} (n : ℕ) (set : List ℕ) → length set ≡ set_bytes
    → Puts text a word t b → Puts t b (decimal n) u c × (c ≤ b + 20) → Puts u c (32 ∷ []) v d → Puts v d (hexadecimal set) w e
    → Puts w e (10 ∷ []) text' f → Puts text a (list_line word n set) text' f × (f ≤ a + (length word + 86))
unfolding list_line
list_put n set l p q r x y = (
  puts_then (puts_then (puts_then (puts_then p q.0) r) x) y,
  omega (arith, l, p.ends, q.1, r.ends, x.ends, y.ends, length-hexadecimal set),
)

-- what stands at the start of the buffer
pub text_is : {text text' word : List ℕ} {b : ℕ} → Puts text 0 word text' b → take b text' ≡ word
text_is p = p.says

-- the four lines of a job that is done
pub done_put : {text t u v text' : List ℕ} {b c d e : ℕ} (a y n k : ℕ) (after today : List ℕ)
    → Puts text 0 (list_line (97 ∷ 102 ∷ 116 ∷ 101 ∷ 114 ∷ 32 ∷ []) a after) t b → Puts t b (list_line (116 ∷ 111 ∷ 100 ∷ 97 ∷ 121 ∷ 32 ∷ []) y today) u c
    → Puts u c (count_line (110 ∷ 111 ∷ 100 ∷ 101 ∷ 115 ∷ 32 ∷ []) n) v d
    → Puts v d (count_line (99 ∷ 108 ∷ 97 ∷ 115 ∷ 115 ∷ 101 ∷ 115 ∷ 32 ∷ []) k) text' e
    → take e text' ≡ done_text a y n k after today
unfolding done_text
done_put a y n k after today p q r s = text_is (puts_then (puts_then (puts_then p q) r) s)

-- the line of a job that is refused
pub refused_put : {text t u text' : List ℕ} {b c d : ℕ} (item w : ℕ) → Puts text 0 (114 ∷ 101 ∷ 102 ∷ 117 ∷ 115 ∷ 101 ∷ 100 ∷ 32 ∷ []) t b
    → Puts t b (decimal item) u c → Puts u c (count_line (32 ∷ []) w) text' d → take d text' ≡ refused_text item w
unfolding refused_text
refused_put item w p q r = text_is (puts_then (puts_then p q) r)

-- so many bytes of a buffer of text
pub counts : (text : List ℕ) (n : ℕ) → length text ≡ text_bytes → n ≤ text_bytes → IsPrefixLen n text
counts text n e h =
    let g : n ≤ length text = omega arith in
    (g, sym (length-take-le n text g))
