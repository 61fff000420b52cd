-- Which sites are refused: items 3 to 6 of docs/SPEC.md, "Reasons", in their order.
use Rattle.std.specs.Prelude.{Bool, not, ◌&&◌, ◌||◌, cond, List, ℕ, length, Err}
use Rattle.finite.specs.Tests.{same, any}
use Rattle.limits.specs.Limits.{slots, labels, names, links}
use Rattle.semantics.specs.Holds.{Model}
use Rattle.verdict.specs.Verdict.{Verdict, Accepted}
use Rattle.verdict.specs.declared.Refusal.TheVariants.{SiteLength, Names, Labels, Links}
use Rattle.site.specs.Layout.{site_bytes}
use Rattle.site.specs.Site.{site_of}

-- 4: slot 0 is absent, name 0 is elsewhere, or a name is at an absent slot
unfoldable pub item4 : Model → Bool
item4 M = not (M.present 0) || (not (same (M.place 0) 0) || any names (λ n. not (M.present (M.place n))))

-- slot s is slot 0 or absent: no label may be on it, and no link may touch it
unfoldable pub barred : Model → ℕ → Bool
barred M s = same s 0 || not (M.present s)

-- 5: a label is on slot 0 or on an absent slot
unfoldable pub item5 : Model → Bool
item5 M = any labels (λ p. any slots (λ s. M.marked p s && barred M s))

-- link m touches slot 0 or an absent slot
unfoldable pub touches : Model → ℕ → Bool
touches M m = any slots (λ s. any slots (λ t. M.link m s t && (barred M s || barred M t)))

-- 6: a link touches slot 0 or an absent slot
unfoldable pub item6 : Model → Bool
item6 M = any links (λ m. touches M m)

-- the first item that the bytes meet; 3: the site's length is wrong. W is 0
unfoldable pub site_verdict : List ℕ → Verdict
site_verdict S =
    cond (not (same (length S) site_bytes)) (Err SiteLength)
    (cond (item4 (site_of S)) (Err Names)
    (cond (item5 (site_of S)) (Err Labels)
    (cond (item6 (site_of S)) (Err Links)
    Accepted)))
