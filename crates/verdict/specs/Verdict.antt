-- Why inputs are refused, and the outcome of a check, in the numbers of docs/SPEC.md, "Reasons".
use Rattle.std.specs.Prelude.{ℕ, Result, Ok, Err}
use Rattle.verdict.specs.declared.Refusal.{Refusal}
use Rattle.verdict.specs.declared.Refusal.TheVariants.{BufferLength, File, SiteLength, Names, Labels, Links, ConditionLength, MalformedNode, EvenRule, FreeVariable, SheetLength, MalformedEdit, NotThrough, TableFull, Rounds, Limit, Start, Edition}

-- the number of the item
abbrev pub number_of : Refusal → ℕ
number_of BufferLength = 1
number_of File = 2
number_of SiteLength = 3
number_of Names = 4
number_of Labels = 5
number_of Links = 6
number_of ConditionLength = 7
number_of (MalformedNode w) = 8
number_of (EvenRule w) = 9
number_of (FreeVariable w) = 10
number_of SheetLength = 11
number_of (MalformedEdit w) = 12
number_of (NotThrough w) = 13
number_of TableFull = 14
number_of Rounds = 15
number_of Limit = 16
number_of Start = 17
number_of Edition = 18

-- W: the node or edit that is at fault, 0 where the item names none
abbrev pub fault_of : Refusal → ℕ
fault_of (MalformedNode w) = w
fault_of (EvenRule w) = w
fault_of (FreeVariable w) = w
fault_of (MalformedEdit w) = w
fault_of (NotThrough w) = w
fault_of _ = 0

-- the outcome of a check
abbrev pub Verdict : Type 0
Verdict = Result (Unit {0}) Refusal

abbrev pub Accepted : Verdict
Accepted = Ok tt

-- the outcome in an answer
abbrev pub outcome : {A : Type 0} → Result A Refusal → Verdict
outcome (Ok a) = Accepted
outcome (Err r) = Err r

-- the first refusal of two checks, in this order; where neither refuses, what the second gives
abbrev pub ◌then◌ : {A : Type 0} → Verdict → Result A Refusal → Result A Refusal
Ok _ then v = v
Err r then v = Err r

infixr 30 ◌then◌
-- the number of the item that is met, 0 where none is
abbrev pub reason_of : Verdict → ℕ
reason_of (Ok _) = 0
reason_of (Err r) = number_of r

-- W, 0 where no item is met
abbrev pub where_of : Verdict → ℕ
where_of (Ok _) = 0
where_of (Err r) = fault_of r
