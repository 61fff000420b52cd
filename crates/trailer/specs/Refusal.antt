-- Items 2 and 18 of docs/SPEC.md, "Reasons", of a file. W is 0.
use Rattle.std.specs.Prelude.{Bool, not, ◌||◌, cond, List, ℕ, length, Err}
use Rattle.finite.specs.Tests.{same, below}
use Rattle.verdict.specs.Verdict.{Verdict}
use Rattle.verdict.specs.declared.Refusal.TheVariants.{File}
use Rattle.editions.specs.Edition.{edition_verdict}
use Rattle.trailer.specs.File.{trailer_bytes, file_limit, trailer_at, number}

-- 2: the file is under 16 or over 65,536 bytes, a distance is below the one before it, or the last is not the length less 16
unfoldable pub item2 : List ℕ → Bool
item2 file =
    below (length file) trailer_bytes
    || below file_limit (length file)
    || below (number 1 file) (number 0 file)
    || below (number 2 file) (number 1 file)
    || not (same (number 2 file) (trailer_at file))

-- the edition that a file gives its sheet: the fourth number; 0, which is none, where item 2 is met
unfoldable pub edition_in : List ℕ → ℕ
edition_in file = cond (item2 file) 0 (number 3 file)

-- the verdict where item 2 is met or not: item 18 of the edition comes right after it
abbrev pub file_verdict : (met : Bool) (edition : ℕ) → Verdict
file_verdict met edition = cond met (Err File) (edition_verdict edition)

unfoldable pub trailer_verdict : List ℕ → Verdict
trailer_verdict file = file_verdict (item2 file) (edition_in file)
