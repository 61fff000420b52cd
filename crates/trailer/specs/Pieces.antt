-- The pieces of a job file, each a part of it.
use Rattle.std.specs.Prelude.{cond, List, [], ℕ, ◌-◌, take, drop}
use Rattle.editions.specs.Edition.{known}
use Rattle.trailer.specs.File.{trailer_at, start_of}
use Rattle.trailer.specs.Refusal.{edition_in}

-- the part of a file from position a up to position e, empty where item 2 or 18 refuses the file: its edition is then none that is known
unfoldable pub piece_in : (a e : ℕ) (file : List ℕ) → List ℕ
piece_in a e file = cond (known (edition_in file)) (take (e - a) (drop a file)) []

-- each piece ends where the next starts, and the sheet at the trailer
unfoldable pub site_in : List ℕ → List ℕ
site_in file = piece_in (start_of 2 file) (start_of 1 file) file

unfoldable pub condition_in : List ℕ → List ℕ
condition_in file = piece_in (start_of 1 file) (start_of 0 file) file

unfoldable pub sheet_in : List ℕ → List ℕ
sheet_in file = piece_in (start_of 0 file) (trailer_at file) file
