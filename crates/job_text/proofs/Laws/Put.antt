-- Text written into a buffer: nothing yet, one byte more, one word behind another.
use Rattle.std.specs.Prelude.{◌≡◌, refl, List, [], ◌∷◌, ◌++◌, ℕ, ◌+◌, ◌≤◌, ◌<◌, length, get_or, take, set}
use Rattle.std.proofs.Common.{sym, ◌∙◌, ap, append-nil, append_assoc, add-one, arith, length-append, length-set, take-suc, take-suc-set, take_all}
use Rattle.job_text.specs.Put.{Puts}

pub puts_none : (text : List ℕ) (a : ℕ) → Puts text a [] text a
puts_none text a = record { size = refl; ends = omega arith; says = sym (append-nil (take a text)) }

-- the same word, ending at the same byte
pub puts_as : {text text' x y : List ℕ} {a b c : ℕ} → x ≡ y → b ≡ c → Puts text a x text' b → Puts text a y text' c
puts_as {text} {text'} {x} {y} {a} {b} {c} e f p = record {
  size = p.size;
  ends = sym f ∙ p.ends ∙ ap (λ (l : List ℕ). a + length l) e;
  says = ap (λ (n : ℕ). take n text') (sym f) ∙ p.says ∙ ap (λ (l : List ℕ). take a text ++ l) e;
}

-- one byte more
pub puts_byte : {text text' word : List ℕ} {a b : ℕ} → Puts text a word text' b → (x : ℕ) → b < length text
    → Puts text a (word ++ (x ∷ [])) (set text' b x) (b + 1)
puts_byte {text} {text'} {word} {a} {b} p x h = record {
  size = length-set text' b x ∙ p.size;
  ends = omega (arith, p.ends, length-append word (x ∷ []));
  says =
      rw (add-one)
      (take-suc-set text' b x (omega (arith, p.size)) ∙ ap (λ l. l ++ (x ∷ [])) p.says ∙ append_assoc (take a text) word (x ∷ []));
}

-- one byte more of a word, and all of it
pub word_more : {text text' : List ℕ} {a : ℕ} (word : List ℕ) (k : ℕ) → Puts text a (take k word) text' (a + k) → k < length word
    → a + k < length text → Puts text a (take (k + 1) word) (set text' (a + k) (get_or word k 0)) (a + (k + 1))
word_more {text} {text'} {a} word k p lt room =
    puts_as (rw (add-one) (sym (take-suc word k 0 lt))) (omega arith) (puts_byte p (get_or word k 0) room)

pub word_whole : {text text' : List ℕ} {a b : ℕ} (word : List ℕ) (k : ℕ) → Puts text a (take k word) text' b → length word ≤ k
    → Puts text a word text' (a + length word)
word_whole {text} {text'} {a} {b} word k p ge =
    puts_as (take_all k word ge) (p.ends ∙ ap (λ (l : List ℕ). a + length l) (take_all k word ge)) p

-- one word behind another
pub puts_then : {text text' text'' x y : List ℕ} {a b c : ℕ} → Puts text a x text' b → Puts text' b y text'' c → Puts text a (x ++ y) text'' c
puts_then {text} {text'} {text''} {x} {y} {a} {b} {c} p q = record {
  size = q.size ∙ p.size;
  ends = omega (arith, p.ends, q.ends, length-append x y);
  says = q.says ∙ ap (λ l. l ++ y) p.says ∙ append_assoc (take a text) x y;
}
