-- The print of a job. docs/SPEC.md, "The print": text as its bytes in ASCII, 10 for the end of a line.
use Rattle.std.specs.Prelude.{List, [], ◌∷◌, ◌++◌, ℕ, suc, ◌/◌, ◌%◌, ◌^◌, Result, Ok, Err}
use Rattle.finite.specs.Tests.{below, first}
use Rattle.io.specs.Digits.{hex_digit_ascii, last_digits}
use Rattle.verdict.specs.Verdict.{number_of, fault_of}
use Rattle.verdict.specs.declared.Refusal.{Refusal}
use Rattle.job_run.specs.declared.Report.{Report}

-- the fewest decimal digits that hold a number below 10 ^ 20, one at least; and the number in decimal
unfoldable pub digit_count : ℕ → ℕ
digit_count n = suc (first 19 (λ k. below n (10 ^ suc k)))

unfoldable pub decimal : ℕ → List ℕ
decimal n = last_digits 10 (digit_count n) n

-- two lower-case hexadecimal digits a byte
unfoldable pub hexadecimal : List ℕ → List ℕ
hexadecimal [] = []
hexadecimal (x ∷ xs) = hex_digit_ascii (x / 16) ∷ hex_digit_ascii (x % 16) ∷ hexadecimal xs

-- a word and a number; a word, a count and a set
unfoldable pub count_line : (word : List ℕ) → ℕ → List ℕ
count_line word n = word ++ decimal n ++ (10 ∷ [])

unfoldable pub list_line : (word : List ℕ) → ℕ → (set : List ℕ) → List ℕ
list_line word n set = word ++ decimal n ++ (32 ∷ []) ++ hexadecimal set ++ (10 ∷ [])

-- "after ", "today ", "nodes " and "classes "
unfoldable pub done_text : (a t n c : ℕ) (after today : List ℕ) → List ℕ
done_text a t n c after today =
    list_line (97 ∷ 102 ∷ 116 ∷ 101 ∷ 114 ∷ 32 ∷ []) a after
    ++ list_line (116 ∷ 111 ∷ 100 ∷ 97 ∷ 121 ∷ 32 ∷ []) t today
    ++ count_line (110 ∷ 111 ∷ 100 ∷ 101 ∷ 115 ∷ 32 ∷ []) n
    ++ count_line (99 ∷ 108 ∷ 97 ∷ 115 ∷ 115 ∷ 101 ∷ 115 ∷ 32 ∷ []) c

-- "refused " and two numbers
unfoldable pub refused_text : (item w : ℕ) → List ℕ
refused_text item w = (114 ∷ 101 ∷ 102 ∷ 117 ∷ 115 ∷ 101 ∷ 100 ∷ 32 ∷ []) ++ decimal item ++ count_line (32 ∷ []) w

-- the print of an answer with its two sets; rounds are not printed
abbrev pub job_text : Result Report Refusal → (after today : List ℕ) → List ℕ
job_text (Ok r) after today = done_text r.after.count r.today.count r.nodes r.classes after today
job_text (Err q) after today = refused_text (number_of q) (fault_of q)
