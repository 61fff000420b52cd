-- Tests of numbers, of their binary digits, and of all numbers below a bound. Shut, so that no proof counts to a bound by accident.
use Rattle.std.specs.Prelude.{Bool, true, false, ◌&&◌, ◌||◌, cond, ℕ, zero, suc, ◌+◌, ◌/◌, ◌%◌, ◌^◌, eqb, ltb}

-- m is n
unfoldable pub same : ℕ → ℕ → Bool
same m n = eqb m n

-- m is less than n
unfoldable pub below : ℕ → ℕ → Bool
below m n = ltb m n

-- some number below n passes the test f
unfoldable pub any : ℕ → (ℕ → Bool) → Bool
any zero f = false
any (suc n) f = f n || any n f

-- every number below n passes the test f
unfoldable pub all : ℕ → (ℕ → Bool) → Bool
all zero f = true
all (suc n) f = f n && all n f

-- how many numbers below n pass the test f
unfoldable pub count : ℕ → (ℕ → Bool) → ℕ
count zero f = 0
count (suc n) f = cond (f n) 1 0 + count n f

-- the lowest number below n that passes the test f, and n where none does
unfoldable pub first : ℕ → (ℕ → Bool) → ℕ
first zero f = 0
first (suc n) f = cond (any n f) (first n f) (cond (f n) n (suc n))

-- binary digit k of n is 1
unfoldable pub bit : ℕ → ℕ → Bool
bit n k = eqb (n / 2 ^ k % 2) 1
