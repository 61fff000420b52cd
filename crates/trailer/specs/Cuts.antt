-- What the trailer of a file is read as.
use Rattle.std.specs.Prelude.{◌≡◌, Bool, List, ℕ, ◌-◌, ◌≤◌, length, take, drop}
use Rattle.trailer.specs.Refusal.{item2, edition_in}
use Rattle.trailer.specs.Pieces.{site_in, condition_in, sheet_in}

-- item 2 is met or not, the edition, and the positions where the pieces end: each starts where the one before it ends, the site at 0
pub record Cut (file : List ℕ) (met : Bool) (edition site condition sheet : ℕ) : Type 0 where
  pub met_is : met ≡ item2 file
  pub edition_is : edition ≡ edition_in file
  pub site_is : take site file ≡ site_in file
  pub condition_is : take (condition - site) (drop site file) ≡ condition_in file
  pub sheet_is : take (sheet - condition) (drop condition file) ≡ sheet_in file
  pub condition_next : site ≤ condition
  pub sheet_next : condition ≤ sheet
  pub inside : sheet ≤ length file
