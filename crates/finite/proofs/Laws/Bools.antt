-- What a Boolean's value says, and tests that pass together.
use Rattle.std.specs.Prelude.{◌≡◌, refl, ◌⊎◌, Bool, true, false, not, ◌&&◌, ◌||◌, cond}
use Rattle.std.proofs.Common.{sym, ◌∙◌, subst, inl, inr, true≢false}
use Rattle.std.specs.Bool.{beq}

-- by cases; what is split comes first, so that its type is known when the cases are read
abbrev pub either {ℓ ℓ' ℓ''} : {A : Type ℓ} {B : Type ℓ'} {C : Type ℓ''} → A ⊎ B → (A → C) → (B → C) → C
either (inl a) f g = f a
either (inr b) f g = g b

-- a test passes or fails
pub look : (b : Bool) → (b ≡ true) ⊎ (b ≡ false)
look true = inl refl
look false = inr refl

pub clash {ℓ} : {A : Type ℓ} {b : Bool} → b ≡ true → b ≡ false → A
clash p q = absurd (true≢false (sym p ∙ q))

pub no_true : {b : Bool} → ¬ (b ≡ true) → b ≡ false
no_true {b = true} h = absurd (h refl)
no_true {b = false} h = refl

pub and_in : {a b : Bool} → a ≡ true → b ≡ true → (a && b) ≡ true
and_in p q = cc

pub and_l : (a b : Bool) → (a && b) ≡ true → a ≡ true
and_l true b p = refl
and_l false b p = p

pub and_r : (a b : Bool) → (a && b) ≡ true → b ≡ true
and_r true b p = p
and_r false b p = clash p refl

pub or_l : (a b : Bool) → a ≡ true → (a || b) ≡ true
or_l true b p = refl
or_l false b p = clash p refl

pub or_r : (a b : Bool) → b ≡ true → (a || b) ≡ true
or_r true b p = refl
or_r false b p = p

pub or_out : (a b : Bool) → (a || b) ≡ true → (a ≡ true) ⊎ (b ≡ true)
or_out true b p = inl refl
or_out false b p = inr p

pub or_none : (a b : Bool) → (a || b) ≡ false → (a ≡ false) × (b ≡ false)
or_none true b p = clash refl p
or_none false b p = (refl, p)

pub not_in : {b : Bool} → ¬ (b ≡ true) → not b ≡ true
not_in {b = true} h = absurd (h refl)
not_in {b = false} h = refl

pub not_out : (b : Bool) → not b ≡ true → ¬ (b ≡ true)
not_out true p q = clash p refl
not_out false p q = clash q refl

pub imp_fails : (a b : Bool) → (not a || b) ≡ false → (a ≡ true) × (b ≡ false)
imp_fails true b p = (refl, p)
imp_fails false b p = clash refl p

-- two tests that pass together are equal
pub both : {a b : Bool} → (a ≡ true → b ≡ true) → (b ≡ true → a ≡ true) → a ≡ b
both {a = true} {b = b} f g = sym (f refl)
both {a = false} {b = true} f g = g refl
both {a = false} {b = false} f g = refl

-- an implication, as a test
pub imp_and : (a b : Bool) → (not a || b) ≡ not (a && not b)
imp_and true true = refl
imp_and true false = refl
imp_and false b = refl

-- Booleans that compare as equal are equal, and equal ones compare so
pub beq-true : (a b : Bool) → beq a b ≡ true → a ≡ b
beq-true true true p = refl
beq-true true false p = clash p refl
beq-true false true p = clash p refl
beq-true false false p = refl

beq-refl : (a : Bool) → beq a a ≡ true
beq-refl true = refl
beq-refl false = refl

pub eq_beq : {a b : Bool} → a ≡ b → beq a b ≡ true
eq_beq {a} p = subst (λ x. beq a x ≡ true) p (beq-refl a)

-- a test a that is changed to g of a and d where b passes: what its passing says
pub cond_comes : (g : Bool → Bool → Bool) → ((a d : Bool) → g a d ≡ true → (a ≡ true) ⊎ (d ≡ true))
    → (a b d : Bool) → cond b (g a d) a ≡ true → (a ≡ true) ⊎ ((b ≡ true) × (d ≡ true))
cond_comes g comes a true d p = either (comes a d p) inl (λ q. inr (refl, q))
cond_comes g comes a false d p = inl p

pub cond_was : (a b d : Bool) → cond b (a && d) a ≡ true → a ≡ true
cond_was a true d p = and_l a d p
cond_was a false d p = p
