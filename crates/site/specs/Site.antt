-- What a site's bytes say: the model that they are read as (docs/SPEC.md, "The site").
use Rattle.std.specs.Prelude.{Bool, not, ◌&&◌, cond, Option, Some, None, List, ℕ, ◌+◌, ◌*◌, get_or}
use Rattle.finite.specs.Tests.{same, below}
use Rattle.bitset.specs.Set.{has}
use Rattle.limits.specs.Limits.{slots, labels, names, general_links}
use Rattle.semantics.specs.Holds.{Model}
use Rattle.semantics.specs.Edit.{functional}
use Rattle.site.specs.Layout.{label_at, name_at, target_at, row_at}

-- link m leads from slot s to slot t: a general link by the set of s's targets, a functional one by its target, 0 for none
unfoldable pub linked : List ℕ → ℕ → ℕ → ℕ → Bool
linked S m s t =
    cond (below m general_links) (has S (row_at m s * 8 + t)) (functional m && (same (get_or S (target_at m s) 0) t && not (same t 0)))

-- nothing is present, labelled or linked outside the slots, labels and links; a name that there is not is at nil
unfoldable pub site_of : List ℕ → Model
site_of S = record {
  present = λ s. below s slots && has S s;
  marked = λ p s. (below p labels && below s slots) && has S (label_at p * 8 + s);
  place = λ n. cond (below n names) (get_or S (name_at n) 0) 0;
  link = λ m s t. (below s slots && below t slots) && linked S m s t;
}

-- the slot of a target, which is nil where there is none
abbrev pub or_nil : Option ℕ → ℕ
or_nil None = 0
or_nil (Some t) = t
