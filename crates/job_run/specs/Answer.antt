-- The counts and the rounds in the answer of a job, 0 where it is refused.
use Rattle.std.specs.Prelude.{ℕ, Result, Ok, Err}
use Rattle.verdict.specs.declared.Refusal.{Refusal}
use Rattle.listing.specs.declared.Found.{Found}
use Rattle.listing.specs.Listed.{found_of}
use Rattle.job_run.specs.declared.Report.{Report}

-- the count and the rounds of the lists on the site after, and today; the nodes of the rewritten table; the different class numbers
abbrev pub after_of : Result Report Refusal → Found
after_of (Ok r) = r.after
after_of (Err r) = found_of 0 0

abbrev pub today_of : Result Report Refusal → Found
today_of (Ok r) = r.today
today_of (Err r) = found_of 0 0

abbrev pub nodes_of : Result Report Refusal → ℕ
nodes_of (Ok r) = r.nodes
nodes_of (Err r) = 0

abbrev pub classes_of : Result Report Refusal → ℕ
classes_of (Ok r) = r.classes
classes_of (Err r) = 0
