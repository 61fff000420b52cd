-- A test of all numbers is the complement of a test of some.
use Rattle.std.specs.Prelude.{◌≡◌, refl, Bool, true, false, not, ◌&&◌, ◌||◌, ℕ, zero, suc}
use Rattle.std.proofs.Common.{sym, ◌∙◌}
use Rattle.std.proofs.Math.Bool.{not-not}
use Rattle.finite.specs.Tests.{any, all}
use Rattle.finite.proofs.Laws.Bools.{imp_and}
use Rattle.finite.proofs.Laws.Below.{all_cong}

-- some pass, unless all fail
pub any-all : (n : ℕ) (f : ℕ → Bool) → any n f ≡ not (all n (λ k. not (f k)))
unfolding any all
any-all zero f = refl
any-all (suc n) f = rw (any-all n f) (go (f n) (all n (λ k. not (f k))))
  where
    go : (a b : Bool) → (a || not b) ≡ not (not a && b)
    go true b = refl
    go false b = refl

-- none passes, if all fail
pub none-all : (n : ℕ) (f : ℕ → Bool) → not (any n f) ≡ all n (λ k. not (f k))
none-all n f = rw (any-all n f) (not-not (all n (λ k. not (f k))))

-- all numbers that pass a pass b, where none passes a and fails b
pub all_any : (n : ℕ) (a b : ℕ → Bool) → all n (λ t. not (a t) || b t) ≡ not (any n (λ t. a t && not (b t)))
all_any n a b = all_cong n _ _ (λ t h. imp_and (a t) (b t)) ∙ sym (none-all n (λ t. a t && not (b t)))
