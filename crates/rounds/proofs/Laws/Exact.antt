-- The computed number of rounds is the number that listing makes.
use Rattle.std.specs.Prelude.{◌≡◌, ◌↔◌, List, Bool, true, not, length, refl, ℕ, zero, suc, ◌+◌, ◌<◌}
use Rattle.std.proofs.Common.{◌∙◌, ap, arith, sym, ap₂, subst}
use mathlib.Core.Logic.Iff
use Rattle.finite.proofs.Laws.Bools.{either, look, clash, and_l, and_r, or_l, or_r, both}
use Rattle.limits.specs.Limits.{slots}
use Rattle.semantics.specs.Form.{Form, top, here, label, name, var, neg, or, and, dia, box, mu, nu, slot, occ, free, even}
use Rattle.semantics.specs.Holds.{Set, Env, put, Model, Holds}
use Rattle.semantics.specs.Monotone.{◌⊆◌}
use Rattle.semantics.proofs.Laws.Monotone.{coincide}
use Rattle.semantics.specs.FixedPoint.{iter, none, full}
use Rattle.semantics.proofs.Laws.FixedPoint.{settled, least, settled_full, greatest}
use Rattle.semantics.specs.Table.{Node, tree_at, nodes_fit, even_table}
use Rattle.semantics.specs.Eval.{eval}
use Rattle.semantics.proofs.Laws.Eval.{even_tree, body_grows, eval-holds, table_even}
use Rattle.semantics.specs.Agree.{◌≐◌}
use Rattle.semantics.proofs.Laws.Agree.{Agrees, under, twice, agrees_free}
use Rattle.rounds.specs.Makes.{SetOf, Loop, last, more, Makes}
use Rattle.rounds.specs.Count.{rounds_by, equal_sets, loop, enough, rounds}
use Rattle.rounds.proofs.Laws.Count.{same_in, same_out}
use Rattle.rounds.proofs.Laws.Loops.{loop-last, loop_more}

-- the slots where something holds, by another name or another set with the same slots; two sets of them have the same slots
holding_as : {P Q : ℕ → Type 0} {S T : Set} → ((x : ℕ) → x < slots → P x ↔ Q x) → S ≐ T → SetOf P S → SetOf Q T
unfolding SetOf
holding_as f e h x k = (λ p. (f x k).0 ((h x k).0 (e x k ∙ p)), λ p. sym (e x k) ∙ (h x k).1 ((f x k).1 p))

holding_one : (P : ℕ → Type 0) (S T : Set) → SetOf P S → SetOf P T → S ≐ T
unfolding SetOf
holding_one P S T h g x k = both (λ p. (g x k).1 ((h x k).0 p)) (λ p. (h x k).1 ((g x k).0 p))

-- Two loops whose bodies agree on sets with the same slots make as many rounds.
module _ (Body Body' : Set → ℕ → Type 0) (Inner Inner' : Set → ℕ → Type 0)
    (bodies : (S S' : Set) → S ≐ S' → (x : ℕ) → x < slots → Body S x ↔ Body' S' x)
    (inners : (S S' : Set) → S ≐ S' → (m m' : ℕ) → Inner S m → Inner' S' m' → m ≡ m') where
  loop_unique : {S S' : Set} {n n' : ℕ} → Loop Body Inner S n → Loop Body' Inner' S' n' → S ≐ S' → n ≡ n'
  loop_unique (last {S = S} h i) (last {S = S'} h' i') e = ap₂ ◌+◌ refl (inners S S' e _ _ i i')
  loop_unique (last {S = S} h i) (more {S = S'} h' t' i' l') e = absurd (h' (holding_as (bodies S S' e) e h))
  loop_unique (more {S = S} h t i l) (last {S = S'} h' i') e =
      absurd (h (holding_as (λ x k. Iff.symm (bodies S S' e x k)) (λ x k. sym (e x k)) h'))
  loop_unique (more {S = S} {T = T} h t i l) (more {S = S'} {T = T'} h' t' i' l') e =
      ap₂ (λ (a b : ℕ). 1 + a + b)
      (inners S S' e _ _ i i')
      (loop_unique l l' (holding_one (Body' S') T T' (holding_as (bodies S S' e) (λ x k. refl) t) t'))

module _ (M : Model) where
  bodies_agree : (φ : Form) (v : ℕ) (ρ ρ' : Env) → ((b : Bool) (u : ℕ) → occ b u (mu v φ) ≡ true → ρ u ≐ ρ' u)
      → (S S' : Set) → S ≐ S' → (x : ℕ) → x < slots → Holds M (put ρ v S) φ x ↔ Holds M (put ρ' v S') φ x
  unfolding occ
  bodies_agree φ v ρ ρ' h S S' e = coincide M φ (put ρ v S) (put ρ' v S') (under φ v ρ ρ' h S S' e)

  only : (φ : Form) (ρ ρ' : Env) → Agrees φ ρ ρ' → (m n : ℕ) → Makes M ρ φ m → Makes M ρ' φ n → m ≡ n
  unfolding Makes occ
  only top ρ ρ' h m n p q = p ∙ sym q
  only here ρ ρ' h m n p q = p ∙ sym q
  only (label _) ρ ρ' h m n p q = p ∙ sym q
  only (name _) ρ ρ' h m n p q = p ∙ sym q
  only (var _) ρ ρ' h m n p q = p ∙ sym q
  only (neg φ) ρ ρ' h m n p q = only φ ρ ρ' (λ b v o. h (not b) v (twice b v φ o)) m n p q
  only (or φ ψ) ρ ρ' h m n p q =
      let a = only φ ρ ρ' (λ b v o. h b v (or_l _ _ o)) _ _ p.2 q.2 in
      let b = only ψ ρ ρ' (λ b v o. h b v (or_r (occ b v φ) _ o)) _ _ p.3 q.3 in
      p.4 ∙ ap₂ ◌+◌ a b ∙ sym q.4
  only (and φ ψ) ρ ρ' h m n p q =
      let a = only φ ρ ρ' (λ b v o. h b v (or_l _ _ o)) _ _ p.2 q.2 in
      let b = only ψ ρ ρ' (λ b v o. h b v (or_r (occ b v φ) _ o)) _ _ p.3 q.3 in
      p.4 ∙ ap₂ ◌+◌ a b ∙ sym q.4
  only (dia _ φ) ρ ρ' h m n p q = only φ ρ ρ' h m n p q
  only (box _ φ) ρ ρ' h m n p q = only φ ρ ρ' h m n p q
  only (mu v φ) ρ ρ' h m n p q =
      loop_unique _ _ _ _ (bodies_agree φ v ρ ρ' h)
      (λ S S' e. only φ (put ρ v S) (put ρ' v S') (under φ v ρ ρ' h S S' e)) p q (λ x k. refl)
  only (nu v φ) ρ ρ' h m n p q =
      loop_unique _ _ _ _ (bodies_agree φ v ρ ρ' h)
      (λ S S' e. only φ (put ρ v S) (put ρ' v S') (under φ v ρ ρ' h S S' e)) p q (λ x k. refl)
  only (slot _) ρ ρ' h m n p q = p ∙ sym q

  -- listing makes one number of rounds and no other, and it goes by the slots of the free variables' sets alone
  pub makes_unique : (φ : Form) (ρ ρ' : Env) → ((v : ℕ) → free v φ ≡ true → ρ v ≐ ρ' v) → (m n : ℕ) → Makes M ρ φ m → Makes M ρ' φ n → m ≡ n
  makes_unique φ ρ ρ' h = only φ ρ ρ' (agrees_free φ ρ ρ' h)

-- the rounds of a map and of its first value
iter-next : (F : Set → Set) (S : Set) (j : ℕ) → iter j F (F S) ≡ iter (suc j) F S
unfolding iter
iter-next F S zero = refl
iter-next F S (suc j) = ap F (iter-next F S j)

-- Where a map comes to rest after j rounds, one evaluation more, the one that shows it, is enough.
module _ (Body : Set → ℕ → Type 0) (Inner : Set → ℕ → Type 0) (F : Set → Set) (g : Set → ℕ)
    (value : (S : Set) → SetOf (Body S) (F S)) (inside : (S : Set) → Inner S (g S)) where
  back : (S : Set) → F S ≐ S → SetOf (Body S) S
  back S e = holding_as (λ x k. Iff.rfl) e (value S)

  loop_made : (j k : ℕ) → j < k → (S : Set) → F (iter j F S) ≐ iter j F S → Loop Body Inner S (loop k F g S)
  unfolding iter
  loop_made j zero l S e = absurd (omega arith)
  loop_made zero (suc k) l S e = rw (loop-last k F g S e) (last (back S e) (inside S))
  loop_made (suc j) (suc k) l S e =
      either
      (look (equal_sets (F S) S))
      (λ q. let r = same_out (F S) S q in rw (loop-last k F g S r) (last (back S r) (inside S)))
      (λ q.
      let r : ¬ (F S ≐ S) = λ d. clash (same_in (F S) S d) q in
      let rests = subst (λ (T : Set). F T ≐ T) (sym (iter-next F S j)) e in
      rw (loop_more k F g S r) (more (λ h. r (holding_one (Body S) (F S) S (value S) h)) (value S) (inside S) (loop_made j k (omega arith) (F S) rests)))

module _ (F : Set → Set) (grows : (S S' : Set) → S ⊆ S' → F S ⊆ F S') where
  -- a monotone map is at rest after as many rounds as there are slots
  rests_none : F (iter slots F none) ≐ iter slots F none
  rests_none x k = both
      (settled F grows x k)
      (least F grows (F (iter slots F none)) (grows _ _ (settled F grows)) slots x k)

  rests_full : F (iter slots F full) ≐ iter slots F full
  rests_full x k = both
      (greatest F grows (F (iter slots F full)) (grows _ _ (settled_full F grows)) slots x k)
      (settled_full F grows x k)

module _ (M : Model) where
  -- under the even rule a loop's body gives back the set that as many rounds as there are slots come to
  pub mu_rests : (v : ℕ) (φ : Form) → even_tree (mu v φ) ≡ true → (ρ : Env)
      → eval M (put ρ v (iter slots (λ S. eval M (put ρ v S) φ) none)) φ ≐ iter slots (λ S. eval M (put ρ v S) φ) none
  unfolding even_tree even
  mu_rests v φ w ρ = rests_none _ (body_grows M φ (eval-holds M φ (and_r (even (mu v φ)) _ w)) ρ v (and_l _ _ w))

  pub nu_rests : (v : ℕ) (φ : Form) → even_tree (nu v φ) ≡ true → (ρ : Env)
      → eval M (put ρ v (iter slots (λ S. eval M (put ρ v S) φ) full)) φ ≐ iter slots (λ S. eval M (put ρ v S) φ) full
  unfolding even_tree even
  nu_rests v φ w ρ = rests_full _ (body_grows M φ (eval-holds M φ (and_r (even (nu v φ)) _ w)) ρ v (and_l _ _ w))

  -- the number that is computed is made: within one evaluation more than there are slots each loop has ended
  pub rounds_made : (φ : Form) → even_tree φ ≡ true → (ρ : Env) → Makes M ρ φ (rounds M ρ φ)
  unfolding Makes rounds_by even_tree none full SetOf
  rounds_made top w ρ = refl
  rounds_made here w ρ = refl
  rounds_made (label _) w ρ = refl
  rounds_made (name _) w ρ = refl
  rounds_made (var _) w ρ = refl
  rounds_made (neg φ) w ρ = rounds_made φ w ρ
  rounds_made (or φ ψ) w ρ = (_, _, rounds_made φ (and_l _ _ w) ρ, rounds_made ψ (and_r (even_tree φ) _ w) ρ, refl)
  rounds_made (and φ ψ) w ρ = (_, _, rounds_made φ (and_l _ _ w) ρ, rounds_made ψ (and_r (even_tree φ) _ w) ρ, refl)
  rounds_made (dia _ φ) w ρ = rounds_made φ w ρ
  rounds_made (box _ φ) w ρ = rounds_made φ w ρ
  rounds_made (mu v φ) w ρ =
      let inner = and_r (even (mu v φ)) _ w in
      loop_made _ _ (λ S. eval M (put ρ v S) φ) (λ S. rounds M (put ρ v S) φ)
      (λ S. eval-holds M φ inner (put ρ v S)) (λ S. rounds_made φ inner (put ρ v S)) slots enough (omega arith) none (mu_rests v φ w ρ)
  rounds_made (nu v φ) w ρ =
      let inner = and_r (even (nu v φ)) _ w in
      loop_made _ _ (λ S. eval M (put ρ v S) φ) (λ S. rounds M (put ρ v S) φ)
      (λ S. eval-holds M φ inner (put ρ v S)) (λ S. rounds_made φ inner (put ρ v S)) slots enough (omega arith) full (nu_rests v φ w ρ)
  rounds_made (slot _) w ρ = refl

  -- and no other is
  pub rounds-exact : (φ : Form) → even_tree φ ≡ true → (ρ : Env) (n : ℕ) → Makes M ρ φ n ↔ (n ≡ rounds M ρ φ)
  rounds-exact φ w ρ n = (
    λ p. makes_unique M φ ρ ρ (λ v o x k. refl) n (rounds M ρ φ) p (rounds_made φ w ρ),
    λ e. rw e (rounds_made φ w ρ),
  )

-- of each node of a table that meets neither item 8 nor item 9
pub rounds_table : (xs : List Node) → nodes_fit 0 xs ≡ true → even_table xs ≡ true → (i : ℕ) → i < length xs
    → (M : Model) (ρ : Env) (n : ℕ) → Makes M ρ (tree_at xs i) n ↔ (n ≡ rounds M ρ (tree_at xs i))
rounds_table xs f e i h M ρ n = rounds-exact M (tree_at xs i) (table_even xs f e i h) ρ n
