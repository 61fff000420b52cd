-- Rounds under a limit or under none: sums of them, and what is left.
use Rattle.std.specs.Prelude.{◌≡◌, refl, Option, Some, None, ℕ, ◌+◌, ◌≤◌}
use Rattle.std.proofs.Common.{arith, subst, sym}
use Rattle.listing.specs.Counting.{Within, counted, left_of, Usual}

pub within_none : (o : Option ℕ) → Within o 0
within_none None = tt
within_none (Some l) = omega arith

pub counted_none : (o : Option ℕ) → counted o 0 ≡ 0
counted_none None = refl
counted_none (Some l) = refl

pub within_less : (o : Option ℕ) (m n : ℕ) → m ≤ n → Within o n → Within o m
within_less None m n h w = tt
within_less (Some l) m n h w = omega arith

-- what was counted may be counted again
pub counted-twice : (o : Option ℕ) (n : ℕ) → counted o (counted o n) ≡ counted o n
counted-twice None n = refl
counted-twice (Some l) n = refl

pub counted_within : (o : Option ℕ) (n : ℕ) → Within o n → Within o (counted o n)
counted_within None n w = tt
counted_within (Some l) n w = w

pub within_counted : (o : Option ℕ) (n : ℕ) → Within o (counted o n) → Within o n
within_counted None n w = tt
within_counted (Some l) n w = w

-- sums
pub counted_sum : (o : Option ℕ) (m n : ℕ) → counted o m + counted o n ≡ counted o (m + n)
counted_sum None m n = refl
counted_sum (Some l) m n = refl

-- m rounds were made, and n more are to be made under the limit that is left
pub counted-left : (o : Option ℕ) (m n : ℕ) → counted (left_of o m) n ≡ counted o n
counted-left None m n = refl
counted-left (Some l) m n = refl

sum : (o : Option ℕ) (m n : ℕ) → Within o m → Within (left_of o (counted o m)) n → Within o (m + n)
sum None m n a b = tt
sum (Some l) m n a b = omega arith

rest : (o : Option ℕ) (m n : ℕ) → Within o (m + n) → Within (left_of o (counted o m)) n
rest None m n w = tt
rest (Some l) m n w = omega arith

pub within_sum : (o : Option ℕ) (m n : ℕ) {t r : ℕ} → t ≡ counted o m → r ≡ n → Within o m → Within (left_of o t) r → Within o (m + n)
within_sum o m n {t} {r} e f a b = sum o m n a (subst (λ (k : ℕ). Within (left_of o (counted o m)) k) f (subst (λ (k : ℕ). Within (left_of o k) r) e b))

pub within_rest : (o : Option ℕ) (m n : ℕ) {t r : ℕ} → t ≡ counted o m → r ≡ n → Within o (m + n) → Within (left_of o t) r
within_rest o m n {t} {r} e f w = subst (λ (k : ℕ). Within (left_of o k) r) (sym e) (subst (λ (k : ℕ). Within (left_of o (counted o m)) k) (sym f) (rest o m n w))

pub usual_rest : (o : Option ℕ) (m : ℕ) → Usual o → Usual (left_of o m)
usual_rest None m u = tt
usual_rest (Some l) m u = omega arith

-- a round, with n inside it, after m others: it counts as one more
pub counted_round : (o : Option ℕ) (m n : ℕ) → counted o (counted o m + 1 + counted o n) ≡ counted o (m + (1 + n))
counted_round None m n = refl
counted_round (Some l) m n = omega arith

pub within_round : (o : Option ℕ) (m n : ℕ) → Within o (counted o m + 1 + counted o n) → Within o (m + (1 + n))
within_round None m n w = tt
within_round (Some l) m n w = omega arith

pub round_within : (o : Option ℕ) (m n : ℕ) → Within o (m + (1 + n)) → Within o (counted o m + 1 + counted o n)
round_within None m n w = tt
round_within (Some l) m n w = omega arith
