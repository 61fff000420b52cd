-- The spelling that is chosen for a node spells the block of the node.
use Rattle.std.specs.Prelude.{◌≡◌, ◌≢◌, Bool, true, false, not, ◌&&◌, nat_eq, nat_lt, Option, None, Some, IfSome, cond, ℕ, ◌+◌, ◌-◌, ◌%◌, ◌≤◌, ◌<◌, refl}
use Rattle.std.proofs.Common.{◌∙◌, ap, arith}
use Rattle.std.specs.Bool.{then_some}
use Rattle.finite.specs.Tests.{same, below}
use Rattle.finite.proofs.Laws.Bools.{either, look, and_l}
use Rattle.finite.proofs.Laws.Below.{same_refl, below_in, below_out, below-not, not-below, ne_same}
use Rattle.limits.specs.Limits.{links, every_way}
use Rattle.semantics.specs.Form.{Way, along, against, every}
use Rattle.semantics.specs.Edit.{Edit, CN1, CN2, AP, DP, AT, RT, DT1, DT2, AS, DS, legal}
use Rattle.semantics.specs.Table.{kind_of, way_of}
use Rattle.semantics.specs.Block.{Change, keep, added, only_from, only_to, cut, cut_from, cut_to, cut_off, change, Block, old, block_dia, block_box, block_leaf, block}
use Rattle.semantics.proofs.Laws.Edits.{Legal, legal_out, functional_small}
use Rattle.semantics.proofs.Laws.Ways.{way_along, way_against}
use Rattle.condition.proofs.Laws.Limits.{each_kind, kind_past}
use Rattle.sheet.specs.declared.Op.{Op}
use Rattle.sheet.specs.Bytes.{edit_of}
use Rattle.spelling.specs.declared.Row.{Row}
use Rattle.spelling.specs.declared.Row.TheVariants.{Cn1Name, AsName, Cn2Name, ApLabel, DpLabel, AsHere, DsHere, DsName, AtDiamond, AtBox, Dt1Diamond, Dt1Box, Dt2Diamond, Dt2Box, Dt2DiamondBack, Dt2BoxBack, DsDiamond, DsBox, RtDiamond, RtBox, RtDiamondBack, RtBoxBack}
use Rattle.spelling.specs.declared.Spelling.{Spelling}
use Rattle.spelling.specs.Rows.{copied, row_block}
use Rattle.spelling.specs.declared.Modal.{Modal}
use Rattle.spelling.specs.Spelling.{by_row, modal_spelling, row_spelled, spelled, HasNumbers, Spells, on_way}

-- ---- ways by their numbers, and what an edit does by each

pub way_reverse : (w : ℕ) → links ≤ w → w < every_way → way_of w ≡ against (w - links)
unfolding way_of
way_reverse w h k = rw (below-not w links h, below_in w every_way k) refl

pub way_every : (w : ℕ) → every_way ≤ w → way_of w ≡ every
unfolding way_of
way_every w h = let k : links ≤ w = omega arith in rw (below-not w links k, below-not w every_way h) refl

change-at : (m a b : ℕ) (w : Way) → on_way w m (added a b) (added b a) keep ≡ change (AT m a b) w
unfolding change on_way
change-at m a b (along l) = refl
change-at m a b (against l) = refl
change-at m a b every = refl

change_rt : (f a b : ℕ) (w : Way) → on_way w f (only_from a b) (only_to b a) keep ≡ change (RT f a b) w
unfolding change on_way
change_rt f a b (along l) = refl
change_rt f a b (against l) = refl
change_rt f a b every = refl

change_dt1 : (m a b : ℕ) (w : Way) → on_way w m (cut a b) (cut b a) keep ≡ change (DT1 m a b) w
unfolding change on_way
change_dt1 m a b (along l) = refl
change_dt1 m a b (against l) = refl
change_dt1 m a b every = refl

change_dt2 : (f n : ℕ) (w : Way) → on_way w f (cut_from n) (cut_to n) keep ≡ change (DT2 f n) w
unfolding change on_way
change_dt2 f n (along l) = refl
change_dt2 f n (against l) = refl
change_dt2 f n every = refl

change_ds : (n w : ℕ) → cond (below w every_way) (cut_off n) keep ≡ change (DS n) (way_of w)
unfolding change way_of
change_ds n w =
    either
    (look (below w links))
    (λ e. let h = below_out w links e in rw (e, below_in w every_way (omega arith), change, way_of) refl)
    (λ e. either (look (below w every_way)) (λ g. rw (e, g, change, way_of) refl) (λ g. rw (e, g, change, way_of) refl))

-- ---- a choice by the way, as the code makes it

pub on_link : {A : Type 0} (w m : ℕ) (x y z : A) → m < links → w ≡ m → on_way (way_of w) m x y z ≡ x
unfolding on_way
on_link w m x y z h e = rw (e, way_along m h, same_refl m) refl

pub on_reverse : {A : Type 0} (w m : ℕ) (x y z : A) → m < links → w ≡ m + links → on_way (way_of w) m x y z ≡ y
unfolding on_way
on_reverse w m x y z h e = rw (e, way_against m h, same_refl m) refl

on_way_same : {A : Type 0} (W : Way) (m : ℕ) (x : A) → on_way W m x x x ≡ x
unfolding on_way
on_way_same (along l) m x = either (look (same l m)) (λ e. rw e refl) (λ e. rw e refl)
on_way_same (against l) m x = either (look (same l m)) (λ e. rw e refl) (λ e. rw e refl)
on_way_same every m x = refl

pub on_other : {A : Type 0} (w m : ℕ) (x y z : A) → w ≢ m → w ≢ m + links → on_way (way_of w) m x y z ≡ z
unfolding on_way way_of
on_other w m x y z a b =
    either
    (look (below w links))
    (λ e. rw (e, on_way, ne_same a) refl)
    (λ e. either (look (below w every_way))
    (λ g. let h = not-below w links e in let n : w - links ≢ m = λ q. b (omega arith) in rw (e, g, on_way, ne_same n) refl)
    (λ g. rw (e, g, on_way) refl))

-- ---- the spelling of each edit, for a node with parameter w

-- a kind past the last is no other kind
past : (n k : ℕ) → n < 12 → 12 ≤ k → nat_eq k n ≡ false
unfolding same
past n k l h = let d : k ≢ n = λ q. omega arith in ne_same d

-- the row of a leaf of kind κ with parameter n, where a node of kind k has parameter w
abbrev pub leaf_row : (k κ w n : ℕ) → Spelling → Option Spelling
leaf_row k κ w n s = then_some (nat_eq k κ && nat_eq w n) s

abbrev pub modal : (d b : Row) (first second : ℕ) → Modal
modal d b first second = record { 0 = d; 1 = b; 2 = first; 3 = second }

module _ (w t u : ℕ) where
  abbrev Right : Edit → ℕ → Option Spelling → Type 0
  Right e k s = spelled s k w t u ≡ block e (kind_of k) w (old t) (old u)

  -- a row, or a copy
  choose : {A : Type 0} (f : A → Block) (k : ℕ) (c : Bool) (s : Spelling) {X Z : A} → spelled (Some s) k w t u ≡ f X → spelled None k w t u ≡ f Z
      → spelled (then_some c s) k w t u ≡ f (cond c X Z)
  choose f k true s p q = p
  choose f k false s p q = q

  abbrev leaf : Block → Block
  leaf B = B

  abbrev dia : Change → Block
  dia c = block_dia c w (old t)

  abbrev box : Change → Block
  box c = block_box c w (old t)

  -- the same by ways, where an edit's change C is X on way m and Y on its reverse
  choose_way : (f : Change → Block) (k : ℕ) (W : Way) (m : ℕ) (X Y : Change) {C : Change} → on_way W m X Y keep ≡ C → (x y : Option Spelling)
      → spelled x k w t u ≡ f X → spelled y k w t u ≡ f Y → spelled None k w t u ≡ f keep → spelled (on_way W m x y None) k w t u ≡ f C
  unfolding on_way
  choose_way f k (along l) m X Y e x y p q r = either (look (same l m)) (λ c. rw (c, p) (ap f (rw c at e))) (λ c. rw (c, r) (ap f (rw c at e)))
  choose_way f k (against l) m X Y e x y p q r = either (look (same l m)) (λ c. rw (c, q) (ap f (rw c at e))) (λ c. rw (c, r) (ap f (rw c at e)))
  choose_way f k every m X Y e x y p q r = r ∙ ap f e

  -- and of kinds without a way
  unchanged : (k m : ℕ) {X : Block} → spelled None k w t u ≡ X → spelled (on_way (way_of w) m None None None) k w t u ≡ X
  unchanged k m e = rw (on_way_same {A = Option Spelling} (way_of w) m None) e

  right_cn1 : (n1 n2 k : ℕ) → Right (CN1 n1 n2) k (leaf_row k 3 w n1 (by_row Cn1Name n2 0))
  unfolding spelled row_spelled copied row_block block block_leaf block_dia block_box change kind_of same
  right_cn1 n1 n2 =
      each_kind _ refl refl refl (choose leaf 3 (same w n1) _ refl refl) refl refl refl refl refl refl refl refl
      (λ k h. rw (past 3 k (omega arith) h, kind_past k h) refl)

  right_cn2 : (n1 n2 f k : ℕ) → (f + links) % 256 ≡ f + links → Right (CN2 n1 n2 f) k (leaf_row k 3 w n1 (by_row Cn2Name n2 f))
  unfolding spelled row_spelled copied row_block block block_leaf block_dia block_box change kind_of same
  right_cn2 n1 n2 f k e =
      each_kind (λ k. Right (CN2 n1 n2 f) k (leaf_row k 3 w n1 (by_row Cn2Name n2 f))) refl refl refl (choose leaf 3 (same w n1) _ (rw e refl) refl) refl refl refl refl refl refl refl refl
      (λ k h. rw (past 3 k (omega arith) h, kind_past k h) refl) k

  right_ap : (n p k : ℕ) → Right (AP n p) k (leaf_row k 2 w p (by_row ApLabel n 0))
  unfolding spelled row_spelled copied row_block block block_leaf block_dia block_box change kind_of same
  right_ap n p =
      each_kind _ refl refl (choose leaf 2 (same w p) _ refl refl) refl refl refl refl refl refl refl refl refl
      (λ k h. rw (past 2 k (omega arith) h, kind_past k h) refl)

  right_dp : (n p k : ℕ) → Right (DP n p) k (leaf_row k 2 w p (by_row DpLabel n 0))
  unfolding spelled row_spelled copied row_block block block_leaf block_dia block_box change kind_of same
  right_dp n p =
      each_kind _ refl refl (choose leaf 2 (same w p) _ refl refl) refl refl refl refl refl refl refl refl refl
      (λ k h. rw (past 2 k (omega arith) h, kind_past k h) refl)

  -- names but 0, for DS
  right_name : (n : ℕ) → Right (DS n) 3 (then_some (not (nat_eq w 0)) (by_row DsName n 0))
  unfolding spelled row_spelled copied row_block block block_leaf kind_of same
  right_name n = either (look (nat_eq w 0)) (λ e. rw e refl) (λ e. rw e refl)

  -- links and their reverses, for DS
  right_dia : (n : ℕ) → Right (DS n) 8 (then_some (nat_lt w 16) (by_row DsDiamond n 0))
  unfolding spelled row_spelled copied row_block block block_dia kind_of below
  right_dia n = choose dia 8 (below w every_way) _ {X = cut_off n} {Z = keep} refl refl ∙ ap dia (change_ds n w)

  right_box : (n : ℕ) → Right (DS n) 9 (then_some (nat_lt w 16) (by_row DsBox n 0))
  unfolding spelled row_spelled copied row_block block block_box kind_of below
  right_box n = choose box 9 (below w every_way) _ {X = cut_off n} {Z = keep} refl refl ∙ ap box (change_ds n w)

  right_at : (m a b k : ℕ) → Right (AT m a b) k (on_way (way_of w) m (modal_spelling (modal AtDiamond AtBox a b) k) (modal_spelling (modal AtDiamond AtBox b a) k) None)
  unfolding spelled row_spelled copied row_block block block_leaf block_dia block_box kind_of
  right_at m a b =
      each_kind _ (unchanged 0 m refl) (unchanged 1 m refl) (unchanged 2 m refl) (unchanged 3 m refl) (unchanged 4 m refl) (unchanged 5 m refl) (unchanged 6 m refl) (unchanged 7 m refl)
      (choose_way dia 8 (way_of w) m (added a b) (added b a) (change-at m a b (way_of w)) _ _ refl refl refl)
      (choose_way box 9 (way_of w) m (added a b) (added b a) (change-at m a b (way_of w)) _ _ refl refl refl)
      (unchanged 10 m refl) (unchanged 11 m refl)
      (λ k h. rw (past 8 k (omega arith) h, past 9 k (omega arith) h) (unchanged k m (rw (kind_past k h) refl)))

  right_dt1 : (m a b k : ℕ) → Right (DT1 m a b) k (on_way (way_of w) m (modal_spelling (modal Dt1Diamond Dt1Box a b) k) (modal_spelling (modal Dt1Diamond Dt1Box b a) k) None)
  unfolding spelled row_spelled copied row_block block block_leaf block_dia block_box kind_of
  right_dt1 m a b =
      each_kind _ (unchanged 0 m refl) (unchanged 1 m refl) (unchanged 2 m refl) (unchanged 3 m refl) (unchanged 4 m refl) (unchanged 5 m refl) (unchanged 6 m refl) (unchanged 7 m refl)
      (choose_way dia 8 (way_of w) m (cut a b) (cut b a) (change_dt1 m a b (way_of w)) _ _ refl refl refl)
      (choose_way box 9 (way_of w) m (cut a b) (cut b a) (change_dt1 m a b (way_of w)) _ _ refl refl refl)
      (unchanged 10 m refl) (unchanged 11 m refl)
      (λ k h. rw (past 8 k (omega arith) h, past 9 k (omega arith) h) (unchanged k m (rw (kind_past k h) refl)))

  right_dt2 : (f n k : ℕ) → Right (DT2 f n) k (on_way (way_of w) f (modal_spelling (modal Dt2Diamond Dt2Box n 0) k) (modal_spelling (modal Dt2DiamondBack Dt2BoxBack n 0) k) None)
  unfolding spelled row_spelled copied row_block block block_leaf block_dia block_box kind_of
  right_dt2 f n =
      each_kind _ (unchanged 0 f refl) (unchanged 1 f refl) (unchanged 2 f refl) (unchanged 3 f refl) (unchanged 4 f refl) (unchanged 5 f refl) (unchanged 6 f refl) (unchanged 7 f refl)
      (choose_way dia 8 (way_of w) f (cut_from n) (cut_to n) (change_dt2 f n (way_of w)) _ _ refl refl refl)
      (choose_way box 9 (way_of w) f (cut_from n) (cut_to n) (change_dt2 f n (way_of w)) _ _ refl refl refl)
      (unchanged 10 f refl) (unchanged 11 f refl)
      (λ k h. rw (past 8 k (omega arith) h, past 9 k (omega arith) h) (unchanged k f (rw (kind_past k h) refl)))

  right_rt : (f a b k : ℕ) → Right (RT f a b) k (on_way (way_of w) f (modal_spelling (modal RtDiamond RtBox a b) k) (modal_spelling (modal RtDiamondBack RtBoxBack a b) k) None)
  unfolding spelled row_spelled copied row_block block block_leaf block_dia block_box kind_of
  right_rt f a b =
      each_kind _ (unchanged 0 f refl) (unchanged 1 f refl) (unchanged 2 f refl) (unchanged 3 f refl) (unchanged 4 f refl) (unchanged 5 f refl) (unchanged 6 f refl) (unchanged 7 f refl)
      (choose_way dia 8 (way_of w) f (only_from a b) (only_to b a) (change_rt f a b (way_of w)) _ _ refl refl refl)
      (choose_way box 9 (way_of w) f (only_from a b) (only_to b a) (change_rt f a b (way_of w)) _ _ refl refl refl)
      (unchanged 10 f refl) (unchanged 11 f refl)
      (λ k h. rw (past 8 k (omega arith) h, past 9 k (omega arith) h) (unchanged k f (rw (kind_past k h) refl)))

  -- for AS
  right_as : (n s k : ℕ) → k ≢ 1 → Right (AS n s) k (leaf_row k 3 w n (by_row AsName s 0))
  unfolding spelled row_spelled copied row_block block block_leaf block_dia block_box change kind_of same
  right_as n s =
      each_kind _ (λ _. refl) (λ q. absurd (q refl)) (λ _. refl) (λ _. choose leaf 3 (same w n) _ refl refl) (λ _. refl) (λ _. refl)
      (λ _. refl) (λ _. refl) (λ _. refl) (λ _. refl) (λ _. refl) (λ _. refl) (λ k h _. rw (past 3 k (omega arith) h, kind_past k h) refl)

  -- all but here, labels, names, diamonds and boxes, for DS
  right_ds : (n k : ℕ) → k ≢ 1 → k ≢ 2 → k ≢ 3 → k ≢ 8 → k ≢ 9 → Right (DS n) k None
  unfolding spelled copied block block_leaf kind_of
  right_ds n =
      each_kind _ (λ _ _ _ _ _. refl) (λ q _ _ _ _. absurd (q refl)) (λ _ q _ _ _. absurd (q refl)) (λ _ _ q _ _. absurd (q refl))
      (λ _ _ _ _ _. refl) (λ _ _ _ _ _. refl) (λ _ _ _ _ _. refl) (λ _ _ _ _ _. refl) (λ _ _ _ q _. absurd (q refl)) (λ _ _ _ _ q. absurd (q refl))
      (λ _ _ _ _ _. refl) (λ _ _ _ _ _. refl) (λ k h _ _ _ _ _. rw (kind_past k h) refl)

-- ---- the numbers of what is spelled

module _ (e : Edit) where
  numbers_if : (W : Way) (c : Bool) (x : Spelling) → HasNumbers e W x → IfSome (then_some c x) (HasNumbers e W)
  numbers_if W true x h = h
  numbers_if W false x h = tt

  numbers_modal : (W : Way) (m : Modal) (k : ℕ) → HasNumbers e W (by_row m.0 m.2 m.3) → HasNumbers e W (by_row m.1 m.2 m.3) → IfSome (modal_spelling m k) (HasNumbers e W)
  numbers_modal W m k p q = either (look (nat_eq k 8)) (λ c. rw c p) (λ c. rw c (either (look (nat_eq k 9)) (λ d. rw d q) (λ d. rw d tt)))

  numbers_way : (W : Way) (m : ℕ) (x y : Option Spelling) → ((l : ℕ) → IfSome x (HasNumbers e (along l))) → ((l : ℕ) → IfSome y (HasNumbers e (against l)))
      → IfSome (on_way W m x y None) (HasNumbers e W)
  unfolding on_way
  numbers_way (along l) m x y p q = either (look (same l m)) (λ c. rw c (p l)) (λ c. rw c tt)
  numbers_way (against l) m x y p q = either (look (same l m)) (λ c. rw c (q l)) (λ c. rw c tt)
  numbers_way every m x y p q = tt

-- ---- as the code has it

-- an edit o has the spelling s
pub spells_as : {o o' : Op} {k w : ℕ} {s s' : Option Spelling} → o ≡ o' → s ≡ s' → Spells (edit_of o') k w s' → Spells (edit_of o) k w s
spells_as e es S = rw (e, es) S

pub spells_cn1 : (n1 n2 k w : ℕ) → Spells (CN1 n1 n2) k w (leaf_row k 3 w n1 (by_row Cn1Name n2 0))
spells_cn1 n1 n2 k w = record { right = λ t u. right_cn1 w t u n1 n2 k; numbers = numbers_if (CN1 n1 n2) (way_of w) _ _ (refl, refl) }

pub spells_cn2 : (n1 n2 f k w : ℕ) → legal (CN2 n1 n2 f) ≡ true → Spells (CN2 n1 n2 f) k w (leaf_row k 3 w n1 (by_row Cn2Name n2 f))
unfolding Legal
spells_cn2 n1 n2 f k w l =
    let small = functional_small f (legal_out (CN2 n1 n2 f) l).2 in record { right = λ t u. right_cn2 w t u n1 n2 f k (omega arith); numbers = numbers_if (CN2 n1 n2 f) (way_of w) _ _ (refl, refl) }

pub spells_ap : (n p k w : ℕ) → Spells (AP n p) k w (leaf_row k 2 w p (by_row ApLabel n 0))
spells_ap n p k w = record { right = λ t u. right_ap w t u n p k; numbers = numbers_if (AP n p) (way_of w) _ _ (refl, refl) }

pub spells_dp : (n p k w : ℕ) → Spells (DP n p) k w (leaf_row k 2 w p (by_row DpLabel n 0))
spells_dp n p k w = record { right = λ t u. right_dp w t u n p k; numbers = numbers_if (DP n p) (way_of w) _ _ (refl, refl) }

pub spells_at : (m a b k w : ℕ) → Spells (AT m a b) k w (on_way (way_of w) m (modal_spelling (modal AtDiamond AtBox a b) k) (modal_spelling (modal AtDiamond AtBox b a) k) None)
spells_at m a b k w = record {
  right = λ t u. right_at w t u m a b k;
  numbers =
      numbers_way (AT m a b) (way_of w) m _ _ (λ l. numbers_modal (AT m a b) (along l) (modal AtDiamond AtBox a b) k (refl, refl) (refl, refl))
      (λ l. numbers_modal (AT m a b) (against l) (modal AtDiamond AtBox b a) k (refl, refl) (refl, refl));
}

pub spells_dt1 : (m a b k w : ℕ) → Spells (DT1 m a b) k w (on_way (way_of w) m (modal_spelling (modal Dt1Diamond Dt1Box a b) k) (modal_spelling (modal Dt1Diamond Dt1Box b a) k) None)
spells_dt1 m a b k w = record {
  right = λ t u. right_dt1 w t u m a b k;
  numbers =
      numbers_way (DT1 m a b) (way_of w) m _ _ (λ l. numbers_modal (DT1 m a b) (along l) (modal Dt1Diamond Dt1Box a b) k (refl, refl) (refl, refl))
      (λ l. numbers_modal (DT1 m a b) (against l) (modal Dt1Diamond Dt1Box b a) k (refl, refl) (refl, refl));
}

pub spells_dt2 : (f n k w : ℕ) → Spells (DT2 f n) k w (on_way (way_of w) f (modal_spelling (modal Dt2Diamond Dt2Box n 0) k) (modal_spelling (modal Dt2DiamondBack Dt2BoxBack n 0) k) None)
spells_dt2 f n k w = record {
  right = λ t u. right_dt2 w t u f n k;
  numbers =
      numbers_way (DT2 f n) (way_of w) f _ _ (λ l. numbers_modal (DT2 f n) (along l) (modal Dt2Diamond Dt2Box n 0) k (refl, refl) (refl, refl))
      (λ l. numbers_modal (DT2 f n) (against l) (modal Dt2DiamondBack Dt2BoxBack n 0) k (refl, refl) (refl, refl));
}

pub spells_rt : (f a b k w : ℕ) → Spells (RT f a b) k w (on_way (way_of w) f (modal_spelling (modal RtDiamond RtBox a b) k) (modal_spelling (modal RtDiamondBack RtBoxBack a b) k) None)
spells_rt f a b k w = record {
  right = λ t u. right_rt w t u f a b k;
  numbers =
      numbers_way (RT f a b) (way_of w) f _ _ (λ l. numbers_modal (RT f a b) (along l) (modal RtDiamond RtBox a b) k (refl, refl) (refl, refl))
      (λ l. numbers_modal (RT f a b) (against l) (modal RtDiamondBack RtBoxBack a b) k (refl, refl) (refl, refl));
}

-- the link of an edit
pub at_link : (m a b : ℕ) → legal (AT m a b) ≡ true → m < links
unfolding legal
at_link m a b l = below_out m links (and_l _ _ l)

pub dt1_link : (m a b : ℕ) → legal (DT1 m a b) ≡ true → m < links
unfolding legal
dt1_link m a b l = below_out m links (and_l _ _ l)

pub dt2_link : (f n : ℕ) → legal (DT2 f n) ≡ true → f < links
unfolding legal
dt2_link f n l = functional_small f (and_l _ _ l)

pub rt_link : (f a b : ℕ) → legal (RT f a b) ≡ true → f < links
unfolding legal
rt_link f a b l = functional_small f (and_l _ _ l)

pub as_here : (n s k w : ℕ) (x : Spelling) → k ≡ 1 → x ≡ record { row = AsHere; first = s; second = 0 } → Spells (AS n s) k w (Some x)
unfolding spelled row_spelled row_block block block_leaf kind_of
as_here n s k w x e ex = record { right = λ t u. rw (e, ex) refl; numbers = rw ex (refl, refl) }

pub as_other : (n s k w : ℕ) (c : Bool) (x : Spelling) → k ≢ 1 → c ≡ (nat_eq k 3 && nat_eq w n) → x ≡ record { row = AsName; first = s; second = 0 } → Spells (AS n s) k w (then_some c x)
as_other n s k w c x h ec ex = record { right = λ t u. rw (ec, ex) (right_as w t u n s k h); numbers = numbers_if (AS n s) (way_of w) c x (rw ex (refl, refl)) }

pub ds_here : (n k w : ℕ) (x : Spelling) → k ≡ 1 → x ≡ record { row = DsHere; first = n; second = 0 } → Spells (DS n) k w (Some x)
unfolding spelled row_spelled row_block block block_leaf kind_of
ds_here n k w x e ex = record { right = λ t u. rw (e, ex) refl; numbers = rw ex (refl, refl) }

pub ds_label : (n k w : ℕ) (x : Spelling) → k ≡ 2 → x ≡ record { row = DpLabel; first = n; second = 0 } → Spells (DS n) k w (Some x)
unfolding spelled row_spelled row_block block block_leaf kind_of
ds_label n k w x e ex = record { right = λ t u. rw (e, ex) refl; numbers = rw ex (refl, refl) }

pub ds_name : (n k w : ℕ) (x : Spelling) → k ≡ 3 → x ≡ record { row = DsName; first = n; second = 0 } → Spells (DS n) k w (then_some (not (nat_eq w 0)) x)
ds_name n k w x e ex = record { right = λ t u. rw (e, ex) (right_name w t u n); numbers = numbers_if (DS n) (way_of w) _ x (rw ex (refl, refl)) }

pub ds_diamond : (n k w : ℕ) (x : Spelling) → k ≡ 8 → x ≡ record { row = DsDiamond; first = n; second = 0 } → Spells (DS n) k w (then_some (nat_lt w 16) x)
ds_diamond n k w x e ex = record { right = λ t u. rw (e, ex) (right_dia w t u n); numbers = numbers_if (DS n) (way_of w) _ x (rw ex (refl, refl)) }

pub ds_box : (n k w : ℕ) (x : Spelling) → k ≡ 9 → x ≡ record { row = DsBox; first = n; second = 0 } → Spells (DS n) k w (then_some (nat_lt w 16) x)
ds_box n k w x e ex = record { right = λ t u. rw (e, ex) (right_box w t u n); numbers = numbers_if (DS n) (way_of w) _ x (rw ex (refl, refl)) }

pub ds_other : (n k w : ℕ) → k ≢ 1 → k ≢ 2 → k ≢ 3 → k ≢ 8 → k ≢ 9 → Spells (DS n) k w None
ds_other n k w a b c d e = record { right = λ t u. right_ds w t u n k a b c d e; numbers = tt }
