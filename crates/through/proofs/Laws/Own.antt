-- An edit's own condition holds, at each slot, exactly if the edit goes through.
use Rattle.std.specs.Prelude.{◌≡◌, refl, ◌⊎◌, ◌↔◌, List, Bool, true, false, not, ◌&&◌, ◌||◌, ℕ, suc, ◌<◌}
use Rattle.std.proofs.Common.{◌∙◌, arith, sym, subst, inl, inr}
use Rattle.std.proofs.Math.Option.{Option, none, some}
use mathlib.Core.Logic.Iff
use Rattle.finite.specs.Tests.{same, below}
use Rattle.finite.proofs.Laws.Bools.{either, look, clash, and_in, and_l, or_l, or_r, or_out}
use Rattle.finite.proofs.Laws.Below.{same_eq, eq_same, same_refl, below_in, below_out}
use Rattle.finite.proofs.Laws.Reflect.{not_iff, and_iff}
use Rattle.limits.specs.Limits.{slots, names, every_way}
use Rattle.semantics.specs.Form.{Form, top, here, name, neg, or, and, dia, slot, occ, even, along}
use Rattle.semantics.specs.Holds.{Env, Model, step, Holds}
use Rattle.semantics.specs.Edit.{Edit, CN1, CN2, AP, DP, AT, RT, DT1, DT2, AS, DS, functional, target, legal, goes, Valid}
use Rattle.semantics.specs.Table.{way_of, atom, one, two, leaf_fits, unary_fits}
use Rattle.semantics.specs.Block.{Block, ◌&◌}
use Rattle.semantics.proofs.Laws.Ways.{way_along, everywhere}
use Rattle.semantics.proofs.Laws.Edits.{find_ends, legal_out, Legal, functional_small, target_one}
use Rattle.semantics.proofs.Laws.Emit.{block_fits, fill, even_block}
use Rattle.through.specs.Through.{neither_nil, free_or_there, own}

module _ (M : Model) (v : Valid M) (ρ : Env) (s : ℕ) where
  at : (n : ℕ) → M.place n < slots
  at n = v.small _ (v.named n)

  -- n nil & <E>: @n is nil
  nil_says : (n : ℕ) → (same (M.place n) 0 ≡ true) ↔ Holds M ρ (dia (way_of every_way) (and (name n) (name 0))) s
  unfolding Holds
  nil_says n = (
    λ p. (M.place n, at n, everywhere M s _, (refl, same_eq p ∙ sym v.nil_named)),
    λ p. eq_same (sym p.3.0 ∙ p.3.1 ∙ v.nil_named),
  )

  -- h k & <E>: k is present
  present_says : (k : ℕ) → k < slots → (M.present k ≡ true) ↔ Holds M ρ (dia (way_of every_way) (and here (slot k))) s
  unfolding Holds
  present_says k h = (
    λ p. (k, h, everywhere M s _, (p, refl)),
    λ p. subst (λ x. M.present x ≡ true) p.3.1 p.3.0,
  )

  -- n1 t <m> & <E> ! n1 n2 <m> & <E> |: @n1 has no m-target, or has @n2
  target_says : (m n1 n2 : ℕ) → functional m ≡ true
      → ((same (target M m (M.place n1)) 0 || same (target M m (M.place n1)) (M.place n2)) ≡ true)
      ↔ Holds M ρ (or (neg (dia (way_of every_way) (and (name n1) (dia (along m) top)))) (dia (way_of every_way) (and (name n1) (dia (along m) (name n2))))) s
  unfolding Holds target step
  target_says m n1 n2 f = (
    λ p. either ends
        (λ q. inl (λ r.
        let u = r.3.1 in
        clash (subst (λ x. M.link m x u.0 ≡ true) r.3.0 u.2) (q.0 u.0 u.1)))
        (λ q. either (or_out _ _ p)
        (λ a. absurd ((v.to m _ _ q).1 (same_eq a)))
        (λ a. inr (M.place n1, at n1, everywhere M s _, (refl, (target M m (M.place n1), v.small _ (v.to _ _ _ q).0, q, same_eq a))))),
    λ p. either p
        (λ n. either ends
        (λ q. or_l _ _ (eq_same q.1))
        (λ q. absurd (n (M.place n1, at n1, everywhere M s _, (refl, (target M m (M.place n1), v.small _ (v.to _ _ _ q).0, q, tt))))))
        (λ r.
        let u = r.3.1 in
        let t = target_one M v m (M.place n1) u.0 f (subst (λ x. M.link m x u.0 ≡ true) r.3.0 u.2) in
        or_r (same (target M m (M.place n1)) 0) _ (eq_same (sym t ∙ u.3))),
  )
    where
      ends : (((t : ℕ) → t < slots → M.link m (M.place n1) t ≡ false) × (target M m (M.place n1) ≡ 0))
          ⊎ (M.link m (M.place n1) (target M m (M.place n1)) ≡ true)
      ends = find_ends slots (M.link m (M.place n1))

-- the block B is right as the condition of the edit e: it can stand in any table, has no variable, and says whether the edit goes through
pub record Condition (e : Edit) (B : Block) : Type 0 where
  pub fits : (n : ℕ) → block_fits n B ≡ true
  pub evens : (ts : List Form) → even_block ts B ≡ true
  pub no_variable : (ts : List Form) (b : Bool) (v : ℕ) → occ b v (fill ts B) ≡ false
  pub says : (ts : List Form) (M : Model) → Valid M → (ρ : Env) (s : ℕ) → (goes e M ≡ true) ↔ Holds M ρ (fill ts B) s

-- an edit with no condition always goes through
unfoldable pub Right : Edit → Option Block → Type 0
Right e none = (M : Model) → goes e M ≡ true
Right e (some B) = Condition e B

E_fits : below every_way (suc every_way) ≡ true
unfolding below
E_fits = refl

nil_fits : below 0 names ≡ true
unfolding below
nil_fits = refl

-- x y & <E>, and its negation
somewhere_fits : {a b : Bool} → a ≡ true → b ≡ true → (below every_way (suc every_way) && (a && b)) ≡ true
somewhere_fits f g = and_in E_fits (and_in f g)

nowhere_fits : {a b : Bool} → a ≡ true → b ≡ true → (same 0 0 && (below every_way (suc every_way) && (a && b))) ≡ true
nowhere_fits f g = and_in (same_refl 0) (somewhere_fits f g)

-- AT's condition, by whether the link is functional, and RT's
module _ (m n1 n2 : ℕ) (l1 : below n1 names ≡ true) (l2 : below n2 names ≡ true) where
  neither_fits : (n : ℕ) → block_fits n (neither_nil n1 n2) ≡ true
  unfolding block_fits unary_fits leaf_fits
  neither_fits n = and_in (nowhere_fits l1 nil_fits) (nowhere_fits l2 nil_fits)

  neither_says : (ts : List Form) (M : Model) → Valid M → (ρ : Env) (s : ℕ)
      → ((not (same (M.place n1) 0) && not (same (M.place n2) 0)) ≡ true) ↔ Holds M ρ (fill ts (neither_nil n1 n2)) s
  unfolding fill atom one two Holds
  neither_says ts M v ρ s = and_iff _ _ (not_iff _ (nil_says M v ρ s n1)) (not_iff _ (nil_says M v ρ s n2))

  rehomed_right : Condition (RT m n1 n2) (neither_nil n1 n2)
  unfolding fill atom one two occ even even_block goes
  rehomed_right = record { fits = neither_fits; evens = λ ts. refl; no_variable = λ ts b v. refl; says = neither_says }

  general_right : functional m ≡ false → Condition (AT m n1 n2) (neither_nil n1 n2)
  unfolding fill atom one two occ even even_block goes Holds
  general_right f = record {
    fits = neither_fits;
    evens = λ ts. refl;
    no_variable = λ ts b v. refl;
    says = λ ts M v ρ s. rw f (Iff.trans (λ p. and_l _ _ p, λ p. and_in p refl) (neither_says ts M v ρ s));
  }

  functional_right : functional m ≡ true → Condition (AT m n1 n2) (neither_nil n1 n2 & free_or_there m n1 n2)
  unfolding block_fits unary_fits leaf_fits fill atom one two occ even even_block goes Holds
  functional_right f =
      let small = functional_small m f in
      let way = below_in m (suc every_way) (omega arith) in
      record {
        fits = λ n. and_in (neither_fits n) (and_in (nowhere_fits l1 (and_in way (same_refl 0))) (somewhere_fits l1 (and_in way l2)));
        evens = λ ts. refl;
        no_variable = λ ts b v. refl;
        says = λ ts M v ρ s.
            rw (f, way_along m small)
            (and_iff _ _ (neither_says ts M v ρ s) (target_says M v ρ s m n1 n2 f));
      }

pub own_right : (e : Edit) → legal e ≡ true → Right e (own e)
unfolding own Right Legal block_fits unary_fits leaf_fits fill atom one two occ even even_block goes Holds
own_right (CN1 n1 n2) l = λ M. refl
own_right (CN2 n1 n2 f) l = λ M. refl
own_right (AP n p) l = λ M. refl
own_right (DP n p) l = λ M. refl
own_right (AT m n1 n2) l =
    let r = legal_out (AT m n1 n2) l in
    either (look (functional m)) (λ f. rw f (functional_right m n1 n2 r.0 r.1 f)) (λ f. rw f (general_right m n1 n2 r.0 r.1 f))
own_right (RT f n1 n2) l = let r = legal_out (RT f n1 n2) l in rehomed_right f n1 n2 r.0 r.1
own_right (DT1 m n1 n2) l = λ M. refl
own_right (DT2 f n) l = λ M. refl
own_right (AS n k) l =
    let r = legal_out (AS n k) l in
    record {
      fits = λ _. nowhere_fits (same_refl 0) r.1;
      evens = λ ts. refl;
      no_variable = λ ts b v. refl;
      says = λ ts M v ρ s. not_iff _ (present_says M v ρ s k (below_out k slots r.1));
    }
own_right (DS n) l = record {
  fits = λ _. nowhere_fits (legal_out (DS n) l) nil_fits;
  evens = λ ts. refl;
  no_variable = λ ts b v. refl;
  says = λ ts M v ρ s. not_iff _ (nil_says M v ρ s n);
}
