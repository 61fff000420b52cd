-- Laws of outcomes: a refusal is no acceptance; the first refusal of three checks; and what the numbers say.
use Rattle.std.specs.Prelude.{◌≡◌, ◌⊎◌, ◌↔◌, refl, Bool, true, false, cond, ℕ, ◌<◌, ◌≤◌, Result, Ok, Err}
use Rattle.std.specs.Result.{is_err, IsErrAnd}
use Rattle.std.proofs.lemmas.Result.{err_from_is_err_and}
use Rattle.std.proofs.Common.{arith, sym, ap, ◌∙◌, inl, inr}
use Rattle.verdict.specs.Verdict.{Verdict, Accepted, outcome, number_of, fault_of, reason_of, where_of, ◌then◌}
use Rattle.verdict.specs.declared.Refusal.{Refusal}
use Rattle.verdict.specs.declared.Refusal.TheVariants.{BufferLength, File, SiteLength, Names, Labels, Links, ConditionLength, MalformedNode, EvenRule, FreeVariable, SheetLength, MalformedEdit, NotThrough, TableFull, Rounds, Limit, Start, Edition}

pub refused : {A : Type 0} {r : Refusal} → ◌≡◌ {A = Verdict} (Err r) Accepted → A
refused p = let z : ◌≡◌ {A = ℕ} 0 1 = cc in absurd (omega arith)

-- an outcome accepts just what has an answer
pub accepts_answers : {A : Type 0} (v : Result A Refusal) → (outcome v ≡ Accepted) ↔ (a : A) × (v ≡ Ok a)
accepts_answers (Ok a) = (λ e. (a, refl), λ e. refl)
accepts_answers (Err r) = (λ e. refused e, λ e. refused (ap outcome e.1))

pub then_assoc : {A : Type 0} (u v : Verdict) (w : Result A Refusal) → (u then v) then w ≡ u then (v then w)
then_assoc (Ok _) v w = refl
then_assoc (Err r) v w = refl

-- the items have the numbers 1 to 18
pub number_within : (r : Refusal) → (0 < number_of r) × (number_of r ≤ 18)
number_within BufferLength = (omega arith, omega arith)
number_within File = (omega arith, omega arith)
number_within SiteLength = (omega arith, omega arith)
number_within Names = (omega arith, omega arith)
number_within Labels = (omega arith, omega arith)
number_within Links = (omega arith, omega arith)
number_within ConditionLength = (omega arith, omega arith)
number_within (MalformedNode w) = (omega arith, omega arith)
number_within (EvenRule w) = (omega arith, omega arith)
number_within (FreeVariable w) = (omega arith, omega arith)
number_within SheetLength = (omega arith, omega arith)
number_within (MalformedEdit w) = (omega arith, omega arith)
number_within (NotThrough w) = (omega arith, omega arith)
number_within TableFull = (omega arith, omega arith)
number_within Rounds = (omega arith, omega arith)
number_within Limit = (omega arith, omega arith)
number_within Start = (omega arith, omega arith)
number_within Edition = (omega arith, omega arith)

-- the number 0 says that no item is met
pub reason_zero : (v : Verdict) → (reason_of v ≡ 0) ↔ (v ≡ Accepted)
reason_zero (Ok _) = (λ e. refl, λ e. refl)
reason_zero (Err r) = (λ e. let h = (number_within r).0 in absurd (omega (arith, h, e)), λ e. refused e)

-- the items that name a node or an edit
abbrev pub NamesOne : ℕ → Type 0
NamesOne n = (n ≡ 8) ⊎ (n ≡ 9) ⊎ (n ≡ 10) ⊎ (n ≡ 12) ⊎ (n ≡ 13)

-- W is 0 but for these
pub where_zero : (v : Verdict) → ¬ NamesOne (reason_of v) → where_of v ≡ 0
where_zero (Ok _) h = refl
where_zero (Err BufferLength) h = refl
where_zero (Err File) h = refl
where_zero (Err SiteLength) h = refl
where_zero (Err Names) h = refl
where_zero (Err Labels) h = refl
where_zero (Err Links) h = refl
where_zero (Err ConditionLength) h = refl
where_zero (Err (MalformedNode w)) h = absurd (h (inl refl))
where_zero (Err (EvenRule w)) h = absurd (h (inr (inl refl)))
where_zero (Err (FreeVariable w)) h = absurd (h (inr (inr (inl refl))))
where_zero (Err SheetLength) h = refl
where_zero (Err (MalformedEdit w)) h = absurd (h (inr (inr (inr (inl refl)))))
where_zero (Err (NotThrough w)) h = absurd (h (inr (inr (inr (inr refl)))))
where_zero (Err TableFull) h = refl
where_zero (Err Rounds) h = refl
where_zero (Err Limit) h = refl
where_zero (Err Start) h = refl
where_zero (Err Edition) h = refl

clash : true ≡ false → ⊥
clash e = let z : ◌≡◌ {A = ℕ} 1 0 = ap (λ (b : Bool). cond b 1 0) e in omega (arith, z)

-- an answer by the test for a refusal
pub is_refused : {A : Type 0} (v : Result A Refusal) → true ≡ is_err v → (r : Refusal) × (v ≡ Err r)
is_refused (Ok a) e = absurd (clash e)
is_refused (Err r) e = (r, refl)

pub is_answered : {A : Type 0} (v : Result A Refusal) → false ≡ is_err v → (a : A) × (v ≡ Ok a)
is_answered (Ok a) e = (a, refl)
is_answered (Err r) e = absurd (clash (sym e))

pub is_accepted : (v : Verdict) → false ≡ is_err v → v ≡ Accepted
is_accepted (Ok _) e = refl
is_accepted (Err r) e = absurd (clash (sym e))

-- the exit of a `?` passes the refusal on
pub passed_on : {A : Type 0} {v : Result A Refusal} {r : Refusal} → IsErrAnd v (λ q. q ≡ r) → v ≡ Err r
passed_on {v = v} h = let p = err_from_is_err_and v h in p.1 ∙ ap Err p.2
