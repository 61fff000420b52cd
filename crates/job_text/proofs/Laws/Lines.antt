-- The lines of a print, as `write!` writes them.
use Rattle.std.specs.Prelude.{◌≡◌, List, [], ◌∷◌, ◌++◌, ℕ, ◌^◌, ◌<◌}
use Rattle.std.specs.Fmt as std
use Rattle.std.proofs.Common.{◌∙◌, ap, append_assoc}
use Rattle.job_text.specs.Text.{decimal, hexadecimal, count_line, list_line, refused_text}
use Rattle.job_text.proofs.Laws.Decimal.{decimal_is}

pub list_line_is : (word : List ℕ) (n : ℕ) (set : List ℕ) → n < 2 ^ 64
    → word ++ (std.decimal n ++ (32 ∷ (hexadecimal set ++ (10 ∷ [])))) ≡ list_line word n set
unfolding list_line
list_line_is word n set h = rw (decimal_is n h, append_assoc, append_assoc, append_assoc)

pub count_line_is : (word : List ℕ) (n : ℕ) → n < 2 ^ 64 → word ++ (std.decimal n ++ (10 ∷ [])) ≡ count_line word n
unfolding count_line
count_line_is word n h = rw (decimal_is n h, append_assoc)

-- the line of a job that is refused
pub refused_is : (item w : ℕ) → item < 2 ^ 64 → w < 2 ^ 64
    → (114 ∷ 101 ∷ 102 ∷ 117 ∷ 115 ∷ 101 ∷ 100 ∷ 32 ∷ []) ++ std.decimal item ++ (32 ∷ []) ++ std.decimal w ++ (10 ∷ []) ≡ refused_text item w
unfolding refused_text count_line
refused_is item w hi hw =
    let start = (114 ∷ 101 ∷ 102 ∷ 117 ∷ 115 ∷ 101 ∷ 100 ∷ 32 ∷ []) ++ decimal item in
    rw (decimal_is item hi, decimal_is w hw)
    (ap (λ l. l ++ (10 ∷ [])) (append_assoc start (32 ∷ []) (decimal w)) ∙ append_assoc start ((32 ∷ []) ++ decimal w) (10 ∷ []))
