-- The count and the rounds in the answer of listing.
use Rattle.std.specs.Prelude.{Result, Ok, Err}
use Rattle.verdict.specs.declared.Refusal.{Refusal}
use Rattle.listing.specs.declared.Found.{Found}
use Rattle.listing.specs.Listed.{found_of}

-- how many slots are listed, and how many rounds were made; 0 and 0 where the inputs are refused
abbrev pub found_in : Result Found Refusal → Found
found_in (Ok f) = f
found_in (Err r) = found_of 0 0
