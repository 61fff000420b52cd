-- The editions of sheets, and item 18 of docs/SPEC.md, "Reasons". W is 0.
use Rattle.std.specs.Prelude.{Bool, not, ◌||◌, cond, ℕ, Err}
use Rattle.finite.specs.Tests.{same}
use Rattle.verdict.specs.Verdict.{Verdict, Accepted}
use Rattle.verdict.specs.declared.Refusal.TheVariants.{Edition}

-- the edition in which AT replaces the old target of links 4 to 7
abbrev pub second : ℕ
second = 2

-- an edition that there is: 1 or 2
unfoldable pub known : ℕ → Bool
known d = same d 1 || same d second

-- 18: the edition is neither 1 nor 2
unfoldable pub edition_verdict : ℕ → Verdict
edition_verdict d = cond (not (known d)) (Err Edition) Accepted
