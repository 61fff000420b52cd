-- Laws of the states of rewriting for one edit.
use Rattle.std.specs.Prelude.{◌≡◌, refl, List, [], ◌∷◌, ◌++◌, ℕ, zero, suc, ◌<◌, length, get_or}
use Rattle.std.proofs.Common.{sym, ◌∙◌, ap, arith, not-suc-le-zero, length-append}
use Rattle.std.proofs.Math.ListN.{get_or-append}
use Rattle.finite.proofs.Laws.Bools.{either}
use Rattle.finite.proofs.Laws.Below.{equal?}
use Rattle.semantics.specs.Edit.{Edit}
use Rattle.semantics.specs.Table.{Node}
use Rattle.semantics.specs.Block.{rewrite, rewrite_table}
use Rattle.condition.specs.Bytes.{node_at, nodes}
use Rattle.condition.proofs.Laws.Bytes.{nodes_more}
use Rattle.emitting.specs.State.{State, block_in, step, state_at, image_of}

run : Edit → State → List Node → State
run e st [] = st
run e st (x ∷ xs) = run e (step e st x) xs

run_rewrite : (e : Edit) (st : State) (xs : List Node) → rewrite e st.images st.out xs ≡ (run e st xs).out
unfolding run rewrite step block_in
run_rewrite e st [] = refl
run_rewrite e st (x ∷ xs) = run_rewrite e (step e st x) xs

run_snoc : (e : Edit) (st : State) (xs : List Node) (x : Node) → run e st (xs ++ (x ∷ [])) ≡ step e (run e st xs) x
unfolding run
run_snoc e st [] x = refl
run_snoc e st (y ∷ ys) x = run_snoc e (step e st y) ys x

run_state : (e : Edit) (s : List ℕ) (n : ℕ) → run e (record { images = []; out = [] }) (nodes s n) ≡ state_at e s n
unfolding run state_at nodes
run_state e s zero = refl
run_state e s (suc n) = ap (run e (record { images = []; out = [] })) (nodes_more s n) ∙ run_snoc e (record { images = []; out = [] }) (nodes s n) (node_at s n) ∙ ap (λ (st : State). step e st (node_at s n)) (run_state e s n)

pub state_out : (e : Edit) (s : List ℕ) (n : ℕ) → (state_at e s n).out ≡ rewrite_table e (nodes s n)
unfolding rewrite_table
state_out e s n = sym (run_rewrite e (record { images = []; out = [] }) (nodes s n) ∙ ap (λ (st : State). st.out) (run_state e s n))

pub images_length : (e : Edit) (s : List ℕ) (n : ℕ) → length (state_at e s n).images ≡ n
unfolding state_at step
images_length e s zero = refl
images_length e s (suc n) = length-append (state_at e s n).images _ ∙ (let h = images_length e s n in omega arith)

pub image_at : (e : Edit) (s : List ℕ) (n i : ℕ) → i < n → get_or (state_at e s n).images i 0 ≡ image_of e s i
unfolding state_at step image_of
image_at e s zero i h = absurd (not-suc-le-zero h)
image_at e s (suc n) i h =
    either
    (equal? i n)
    (λ q. ap (λ (k : ℕ). get_or (state_at e s (suc k)).images i 0) (sym q))
    (λ q. let lt : i < n = omega arith in get_or-append (state_at e s n).images _ 0 i (omega (arith, images_length e s n)) ∙ image_at e s n i lt)
