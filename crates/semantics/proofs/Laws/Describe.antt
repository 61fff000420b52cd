-- A condition that describes a slot up to k rounds of refinement (its characteristic formula), as a block: slots that are not bisimilar are told
-- apart by its table.
use Rattle.std.specs.Prelude.{◌≡◌, ◌↔◌, List, [], ◌∷◌, ◌++◌, Bool, ◌||◌, cond, length, refl, true, false, not, ◌&&◌, ℕ, zero, suc, ◌+◌, ◌-◌, ◌<◌}
use Rattle.std.proofs.Math.Path.{fun_ext}
use Rattle.std.proofs.Common.{◌∙◌, subst, inl, arith, ap, ap₂}
use Rattle.std.proofs.Math.Bool.{beq}
use Rattle.finite.specs.Tests.{same, below, any, all}
use Rattle.finite.proofs.Laws.Bools.{either, look, clash, and_in, and_l, and_r}
use Rattle.finite.proofs.Laws.Below.{same_refl, below_in, all_in}
use Rattle.limits.specs.Limits.{slots, labels, names, variables, every_way}
use Rattle.semantics.specs.Form.{occ, free, closed, even}
use Rattle.semantics.specs.Holds.{Env, Model, step, Holds, Distinguishes}
use Rattle.semantics.specs.Table.{Leaf, k_true, k_here, k_label, k_name, k_var, k_slot, Unary, k_not, k_dia, k_box, k_mu, k_nu, Binary, k_or, k_and, leaf, unary, binary, kind_no, way_of, Node, atom, one, two, trees, tree_at, form_of, leaf_fits, unary_fits, even_table, slot_free, ClosedTable}
use Rattle.semantics.specs.Block.{Block, old, end, on, join, size, root, emit}
use Rattle.semantics.specs.Bisimulation.{Bisimilar}
use Rattle.semantics.proofs.Laws.TreeAt.{table_length}
use Rattle.semantics.proofs.Laws.Emit.{block_fits, emit-length, emit_fits, fill, emit-tree, even_block, emit-even}
use Rattle.semantics.specs.Eval.{eval}
use Rattle.semantics.proofs.Laws.Eval.{eval_table}
use Rattle.semantics.specs.Refine.{covers, match, agree, bisimilar_in}
use Rattle.semantics.proofs.Laws.Refine.{bisimilar_refl, bisimilar_rounds}

-- short names for the nodes of blocks
abbrev yes : Block
yes = end k_true 0

abbrev no! : Block → Block
no! x = on k_not 0 x

-- all of the conditions f 0 .. f (n - 1), and some
conj : ℕ → (ℕ → Block) → Block
conj zero f = yes
conj (suc n) f = join k_and (f n) (conj n f)

disj : ℕ → (ℕ → Block) → Block
disj zero f = no! yes
disj (suc n) f = join k_or (f n) (disj n f)

-- x where the test passes, and its negation where it fails
sign : Bool → Block → Block
sign b x = cond b x (no! x)

-- each neighbour of s by the way w is described, as f says, by some neighbour, and each neighbour by one of them
covered : Model → ℕ → (ℕ → Block) → ℕ → Block
covered M w f s =
    join k_and
    (conj slots (λ x. cond (step M (way_of w) s x) (on k_dia w (f x)) yes))
    (on k_box w (disj slots (λ x. cond (step M (way_of w) s x) (f x) (no! yes))))

describe : Model → ℕ → ℕ → Block
describe M zero s =
    join k_and (sign (M.present s) (end k_here 0))
    (join k_and (conj labels (λ p. sign (M.marked p s) (end k_label p))) (conj names (λ n. sign (same s (M.place n)) (end k_name n))))
describe M (suc k) s = join k_and (describe M k s) (conj every_way (λ w. covered M w (describe M k) s))

-- the value in N of the condition that describes a slot is what the rounds say
module _ (N : Model) (ρ : Env) where
  abbrev value : Block → ℕ → Bool
  value x t = eval N ρ (fill [] x) t

  conj_value : (n : ℕ) (f : ℕ → Block) (t : ℕ) → value (conj n f) t ≡ all n (λ i. value (f i) t)
  unfolding eval fill atom two conj all
  conj_value zero f t = refl
  conj_value (suc n) f t = ap (λ x. value (f n) t && x) (conj_value n f t)

  disj_value : (n : ℕ) (f : ℕ → Block) (t : ℕ) → value (disj n f) t ≡ any n (λ i. value (f i) t)
  unfolding eval fill atom one two disj any
  disj_value zero f t = refl
  disj_value (suc n) f t = ap (λ x. value (f n) t || x) (disj_value n f t)

  sign_value : (b : Bool) (x : Block) (t : ℕ) → value (sign b x) t ≡ beq b (value x t)
  unfolding eval fill one sign
  sign_value true x t = go (value x t)
    where
      go : (c : Bool) → c ≡ beq true c
      go true = refl
      go false = refl
  sign_value false x t = go (value x t)
    where
      go : (c : Bool) → not c ≡ beq false c
      go true = refl
      go false = refl

  covered_value : (M : Model) (w : ℕ) (f : ℕ → Block) (E : ℕ → ℕ → Bool) → ((x t : ℕ) → value (f x) t ≡ E x t)
      → (s t : ℕ) → value (covered M w f s) t ≡ match M N (way_of w) E s t
  unfolding eval fill atom one two covered match covers
  covered_value M w f E h s t = ap₂ ◌&&◌ (conj_value slots _ t ∙ ap (all slots) (fun_ext forth)) (ap (all slots) (fun_ext back))
    where
      forth : (x : ℕ) → value (cond (step M (way_of w) s x) (on k_dia w (f x)) yes) t
          ≡ (not (step M (way_of w) s x) || any slots (λ u. step N (way_of w) t u && E x u))
      forth x = either (look (step M (way_of w) s x)) (λ e. rw e (ap (any slots) (fun_ext (λ u. ap (λ y. step N (way_of w) t u && y) (h x u))))) (λ e. rw e)

      back : (u : ℕ) → (not (step N (way_of w) t u) || value (disj slots (λ x. cond (step M (way_of w) s x) (f x) (no! yes))) u)
          ≡ (not (step N (way_of w) t u) || any slots (λ x. step M (way_of w) s x && E x u))
      back u =
          ap (λ y. not (step N (way_of w) t u) || y)
          (disj_value slots _ u ∙ ap (any slots) (fun_ext (λ x. either (look (step M (way_of w) s x)) (λ e. rw e (h x u)) (λ e. rw e))))

  describe_value : (M : Model) (k s t : ℕ) → value (describe M k s) t ≡ bisimilar_in k M N s t
  unfolding eval fill atom two describe bisimilar_in agree
  describe_value M zero s t =
      ap₂ ◌&&◌ (sign_value _ (end k_here 0) t)
      (ap₂ ◌&&◌
      (conj_value labels _ t ∙ ap (all labels) (fun_ext (λ p. sign_value _ (end k_label p) t)))
      (conj_value names _ t ∙ ap (all names) (fun_ext (λ n. sign_value _ (end k_name n) t))))
  describe_value M (suc k) s t =
      ap₂ ◌&&◌ (describe_value M k s t)
      (conj_value every_way _ t ∙ ap (all every_way) (fun_ext (λ w. covered_value M w (describe M k) (bisimilar_in k M N) (describe_value M k) s t)))

-- blocks of whole conditions, without variables, loops and slot numbers, with parameters in range
plain_leaf : Leaf → Bool
plain_leaf k_true = true
plain_leaf k_here = true
plain_leaf k_label = true
plain_leaf k_name = true
plain_leaf k_var = false
plain_leaf k_slot = false

plain_unary : Unary → Bool
plain_unary k_not = true
plain_unary k_dia = true
plain_unary k_box = true
plain_unary k_mu = false
plain_unary k_nu = false

ground : Block → Bool
ground (old i) = false
ground (end k p) = plain_leaf k && leaf_fits k p
ground (on k p x) = plain_unary k && (unary_fits k p && ground x)
ground (join k x y) = ground x && ground y

conj_ground : (n : ℕ) (f : ℕ → Block) → ((i : ℕ) → i < n → ground (f i) ≡ true) → ground (conj n f) ≡ true
unfolding conj ground plain_leaf leaf_fits
conj_ground zero f h = same_refl 0
conj_ground (suc n) f h = and_in (h n (omega arith)) (conj_ground n f (λ i l. h i (omega arith)))

no_ground : (x : Block) → ground x ≡ true → ground (no! x) ≡ true
unfolding ground plain_unary unary_fits
no_ground x h = and_in (same_refl 0) h

no_yes : ground (no! yes) ≡ true
unfolding ground plain_leaf leaf_fits
no_yes = no_ground yes (same_refl 0)

disj_ground : (n : ℕ) (f : ℕ → Block) → ((i : ℕ) → i < n → ground (f i) ≡ true) → ground (disj n f) ≡ true
unfolding disj ground
disj_ground zero f h = no_yes
disj_ground (suc n) f h = and_in (h n (omega arith)) (disj_ground n f (λ i l. h i (omega arith)))

cond_ground : (b : Bool) (x y : Block) → ground x ≡ true → ground y ≡ true → ground (cond b x y) ≡ true
cond_ground true x y g h = g
cond_ground false x y g h = h

sign_ground : (b : Bool) (x : Block) → ground x ≡ true → ground (sign b x) ≡ true
unfolding sign
sign_ground b x h = cond_ground b x (no! x) h (no_ground x h)

covered_ground : (M : Model) (w : ℕ) (f : ℕ → Block) (s : ℕ) → below w (suc every_way) ≡ true → ((x : ℕ) → ground (f x) ≡ true) → ground (covered M w f s) ≡ true
unfolding covered ground plain_unary unary_fits plain_leaf leaf_fits
covered_ground M w f s l h =
    and_in
    (conj_ground slots _ (λ x _. cond_ground (step M (way_of w) s x) _ yes (and_in l (h x)) (same_refl 0)))
    (and_in l (disj_ground slots _ (λ x _. cond_ground (step M (way_of w) s x) _ (no! yes) (h x) no_yes)))

describe_ground : (M : Model) (k s : ℕ) → ground (describe M k s) ≡ true
unfolding describe ground plain_leaf leaf_fits
describe_ground M zero s =
    and_in (sign_ground _ (end k_here 0) (same_refl 0))
    (and_in
    (conj_ground labels _ (λ p h. sign_ground _ (end k_label p) (below_in p labels h)))
    (conj_ground names _ (λ n h. sign_ground _ (end k_name n) (below_in n names h))))
describe_ground M (suc k) s =
    and_in (describe_ground M k s)
    (conj_ground every_way _ (λ w h. covered_ground M w (describe M k) s (below_in w (suc every_way) (omega arith)) (describe_ground M k)))

-- the table of the block of a whole condition
ground_fits : (x : Block) → ground x ≡ true → block_fits 0 x ≡ true
unfolding ground block_fits
ground_fits (old i) g = clash g refl
ground_fits (end k p) g = and_r (plain_leaf k) _ g
ground_fits (on k p x) g =
    let h = and_r (plain_unary k) _ g in
    and_in (and_l (unary_fits k p) _ h) (ground_fits x (and_r (unary_fits k p) _ h))
ground_fits (join k x y) g = and_in (ground_fits x (and_l (ground x) _ g)) (ground_fits y (and_r (ground x) _ g))

ground_even : (x : Block) → ground x ≡ true → even_block [] x ≡ true
unfolding ground plain_unary even_block even one
ground_even (old i) g = refl
ground_even (end k p) g = refl
ground_even (on k_not p x) g = ground_even x (and_r (unary_fits k_not p) _ g)
ground_even (on k_dia p x) g = ground_even x (and_r (unary_fits k_dia p) _ g)
ground_even (on k_box p x) g = ground_even x (and_r (unary_fits k_box p) _ g)
ground_even (on k_mu p x) g = clash g refl
ground_even (on k_nu p x) g = clash g refl
ground_even (join k x y) g = and_in (ground_even x (and_l (ground x) _ g)) (ground_even y (and_r (ground x) _ g))

ground_closed : (x : Block) → ground x ≡ true → (b : Bool) (v : ℕ) → occ b v (fill [] x) ≡ false
unfolding ground plain_leaf plain_unary fill atom one two occ
ground_closed (old i) g b v = clash g refl
ground_closed (end k_true p) g b v = refl
ground_closed (end k_here p) g b v = refl
ground_closed (end k_label p) g b v = refl
ground_closed (end k_name p) g b v = refl
ground_closed (end k_var p) g b v = clash g refl
ground_closed (end k_slot p) g b v = clash g refl
ground_closed (on k_not p x) g b v = ground_closed x (and_r (unary_fits k_not p) _ g) (not b) v
ground_closed (on k_dia p x) g b v = ground_closed x (and_r (unary_fits k_dia p) _ g) b v
ground_closed (on k_box p x) g b v = ground_closed x (and_r (unary_fits k_box p) _ g) b v
ground_closed (on k_mu p x) g b v = clash g refl
ground_closed (on k_nu p x) g b v = clash g refl
ground_closed (join k_or x y) g b v = ap₂ ◌||◌ (ground_closed x (and_l (ground x) _ g) b v) (ground_closed y (and_r (ground x) _ g) b v)
ground_closed (join k_and x y) g b v = ap₂ ◌||◌ (ground_closed x (and_l (ground x) _ g) b v) (ground_closed y (and_r (ground x) _ g) b v)

free_append : (xs ys : List Node) → slot_free xs ≡ true → slot_free ys ≡ true → slot_free (xs ++ ys) ≡ true
unfolding slot_free kind_no
free_append [] ys f g = g
free_append (x ∷ xs) ys f g = and_in (and_l (not (same x.kind 12)) _ f) (free_append xs ys (and_r (not (same x.kind 12)) _ f) g)

leaf-free : (k : Leaf) → plain_leaf k ≡ true → not (same (kind_no (leaf k)) 12) ≡ true
unfolding plain_leaf kind_no same
leaf-free k_true g = refl
leaf-free k_here g = refl
leaf-free k_label g = refl
leaf-free k_name g = refl
leaf-free k_var g = refl
leaf-free k_slot g = g

unary_free : (k : Unary) → not (same (kind_no (unary k)) 12) ≡ true
unfolding kind_no same
unary_free k_not = refl
unary_free k_dia = refl
unary_free k_box = refl
unary_free k_mu = refl
unary_free k_nu = refl

binary_free : (k : Binary) → not (same (kind_no (binary k)) 12) ≡ true
unfolding kind_no same
binary_free k_or = refl
binary_free k_and = refl

ground_free : (x : Block) → ground x ≡ true → (b : ℕ) → slot_free (emit x b) ≡ true
unfolding ground emit slot_free kind_no
ground_free (old i) g b = refl
ground_free (end k p) g b = and_in (leaf-free k (and_l _ _ g)) refl
ground_free (on k p x) g b =
    free_append (emit x b) _ (ground_free x (and_r (unary_fits k p) _ (and_r (plain_unary k) _ g)) b) (and_in (unary_free k) refl)
ground_free (join k x y) g b =
    free_append (emit x b) _ (ground_free x (and_l _ _ g) b)
    (free_append (emit y (b + size x)) _ (ground_free y (and_r (ground x) _ g) (b + size x)) (and_in (binary_free k) refl))

ground_size : (x : Block) → ground x ≡ true → suc (root x 0) ≡ size x
unfolding ground root size
ground_size (old i) g = clash g refl
ground_size (end k p) g = refl
ground_size (on k p x) g = omega arith
ground_size (join k x y) g = omega arith

ground_form : (x : Block) → ground x ≡ true → form_of (emit x 0) ≡ fill [] x
unfolding form_of tree_at
ground_form x g =
    let at_end : length (emit x 0) - 1 ≡ root x 0 = omega (arith, emit-length x 0, ground_size x g) in
    rw at_end (emit-tree x [] (ground_fits x g))

ground_table : (x : Block) → ground x ≡ true → ClosedTable (emit x 0)
unfolding even_table tree_at closed free trees
ground_table x g = record {
  some = omega (arith, emit-length x 0, ground_size x g);
  fits = emit_fits x 0 (ground_fits x g);
  even_rule = all_in (length (emit x 0)) _ (λ i h. emit-even x [] (ground_fits x g) (λ j l. absurd (omega arith)) (ground_even x g) i (omega (arith, table_length (emit x 0))));
  is_closed = all_in variables _ (λ v _. rw (ground_form x g, ground_closed x g true v, ground_closed x g false v));
  no_slot_number = ground_free x g 0;
}

-- the table that describes s in M up to k rounds holds in N at the slots that these do not tell apart from s
pub describes : (M : Model) (k s : ℕ)
    → (xs : List Node) × ClosedTable xs × ((N : Model) (ρ : Env) (t : ℕ) → t < slots → (bisimilar_in k M N s t ≡ true) ↔ Holds N ρ (form_of xs) t)
unfolding form_of
describes M k s =
    let x = describe M k s in
    let xs = emit x 0 in
    let g = describe_ground M k s in
    let c = ground_table x g in (
      xs,
      c,
      λ N ρ t l. subst (λ (b : Bool). (b ≡ true) ↔ Holds N ρ (tree_at xs (length xs - 1)) t)
          (ap (λ φ. eval N ρ φ t) (ground_form x g) ∙ describe_value N ρ M k s t)
          (eval_table xs c.fits c.even_rule (length xs - 1) (omega (arith, c.some)) N ρ t l),
    )

-- slots that are not bisimilar are told apart: by the table that describes one of them
pub distinguished : (M : Model) (ρ : Env) (s t : ℕ) → s < slots → t < slots → ¬ Bisimilar M s t
    → (xs : List Node) × ClosedTable xs × Distinguishes M ρ (form_of xs) s t
unfolding Distinguishes
distinguished M ρ s t h k a =
    let d = describes M slots s in
    (d.0, d.1, inl ((d.2 M ρ s h).0 (bisimilar_refl M slots s), λ q. a ((bisimilar_rounds M s t h k).1 ((d.2 M ρ t k).1 q))))
