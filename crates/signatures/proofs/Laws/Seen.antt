-- The slots that have their own number, and the classes that a row sees, class by class.
use Rattle.std.specs.Prelude.{◌≡◌, refl, Bool, true, false, not, ◌&&◌, ◌||◌, List, [], ℕ, ◌+◌, ◌≤◌, ◌<◌, length, set, get_or, Some}
use Rattle.std.proofs.Common.{◌∙◌, sym, ap, subst, arith}
use Rattle.std.proofs.Math.Bool.{or-false, and-false}
use Rattle.finite.specs.Tests.{same, below, any, count, first}
use Rattle.finite.proofs.Laws.Bools.{either, look, no_true, and_in, and_l, and_r, or_l, or_r, or_out, both}
use Rattle.finite.proofs.Laws.Below.{equal?, same_eq, same_refl, eq_same, ne_same, below_in, below_out, any_in, any_out, any_none, none_any}
use Rattle.finite.proofs.Laws.First.{first_in, first-none}
use Rattle.finite.proofs.Laws.Count.{count_more}
use Rattle.bitset.specs.Set.{set_slots, has, Is, Next}
use Rattle.partition.specs.Rows.{row, sees, RowsOf}
use Rattle.partition.proofs.Laws.Gains.{row_at, lowest_in}
use Rattle.partition.proofs.Laws.Partitions.{put_more}
use Rattle.signatures.specs.Members.{owns}

-- ---- slots with their own number

-- O has those of the slots below t
pub Owned : List ℕ → ℕ → List ℕ → Type 0
Owned p t O = Is O (λ s. below s t && owns p s)

pub owned_start : (p O : List ℕ) → Is O (λ s. false) → Owned p 0 O
unfolding Owned
owned_start p O e s h = e s h ∙ sym (no_true (λ q. absurd (omega (arith, below_out s 0 (and_l _ _ q)))))

-- slot t is put in if x says so
pub owned_more : (p O O' : List ℕ) (t : ℕ) (x : Bool) → owns p t ≡ x → Is O' (λ s. has O s || (x && same s t)) → Owned p t O → Owned p (t + 1) O'
unfolding Owned
owned_more p O O' t x e n h s l = n s l ∙ ap (λ (z : Bool). z || (x && same s t)) (h s l) ∙ both
    (λ q. either
    (or_out (below s t && owns p s) _ q)
    (λ a. and_in (below_in s (t + 1) (omega (arith, below_out s t (and_l _ _ a)))) (and_r (below s t) _ a))
    (λ a. let i : s ≡ t = same_eq (and_r x _ a) in and_in (below_in s (t + 1) (omega arith)) (rw i (e ∙ and_l x _ a))))
    (λ q. either
    (equal? s t)
    (λ i. or_r (below s t && owns p s) _ (and_in (sym e ∙ subst (λ (k : ℕ). owns p k ≡ true) i (and_r (below s (t + 1)) _ q)) (eq_same i)))
    (λ i. or_l _ _ (and_in (below_in s t (omega (arith, below_out s (t + 1) (and_l _ _ q)))) (and_r (below s (t + 1)) _ q))))

pub owned_done : (p O : List ℕ) (t : ℕ) → set_slots ≤ t → Owned p t O → Is O (owns p)
unfolding Owned
owned_done p O t l h s i = h s i ∙ rw (below_in s t (omega arith))

-- ---- classes seen

-- G has the classes X, but for those that L sees by p, which are to come
pub Sees : (ℕ → Bool) → List ℕ → List ℕ → List ℕ → Type 0
Sees X p L G = (c : ℕ) → c < set_slots → (has G c || sees L p c) ≡ X c

-- at the start G has the slots with their own number, O, and L the others
pub sees_start : (p A O L G : List ℕ) → Is O (owns p) → Is G (λ s. has A s && has O s) → Is L (λ s. has A s && not (has O s)) → Sees (sees A p) p L G
unfolding Sees sees
sees_start p A O L G o g l c h = both
    (λ q. either
    (or_out (has G c) _ q)
    (λ e. let a = sym (g c h) ∙ e in any_in set_slots _ c h (and_in (and_l _ _ a) (sym (o c h) ∙ and_r (has A c) _ a)))
    (λ e.
    let t = any_out set_slots _ e in
    any_in set_slots _ t.0 t.1 (and_in (and_l _ _ (sym (l t.0 t.1) ∙ and_l _ _ t.2)) (and_r (has L t.0) _ t.2))))
    (λ q.
    let t = any_out set_slots _ q in
    let a : has A t.0 ≡ true = and_l _ _ t.2 in
    let b : get_or p t.0 0 ≡ c = same_eq (and_r (has A t.0) _ t.2) in
    either
    (look (has O t.0))
    (λ x.
    let i : t.0 ≡ c = sym (same_eq (sym (o t.0 t.1) ∙ x)) ∙ b in
    or_l _ _ (subst (λ (k : ℕ). has G k ≡ true) i (g t.0 t.1 ∙ and_in a x)))
    (λ x. or_r (has G c) _ (any_in set_slots _ t.0 t.1 (and_in (l t.0 t.1 ∙ and_in a (ap not x)) (eq_same b)))))

-- the class v of a slot x of L is put in, and its slots, a row of R, are taken out
module _ (X : ℕ → Bool) (p L G : List ℕ) (R : List (List ℕ)) (x v : ℕ) (d L' : List ℕ) (r : RowsOf (λ c t. same (get_or p t 0) c) R) (q : v ≡ get_or p x 0) (m : v < length R)
    (w : v < set_slots) (f : (x < set_slots) × (x ≡ first set_slots (has L))) (l : Is L' (λ s. has L s && not (has (get_or R v d) s))) where
  h : x < set_slots
  h = f.0

  e : x ≡ first set_slots (has L)
  e = f.1

  class : (t : ℕ) → t < set_slots → has (get_or R v d) t ≡ same (get_or p t 0) (get_or p x 0)
  class t i = ap (λ (z : List ℕ). has z t) (row_at R v d m) ∙ r v t w i ∙ ap (λ (z : ℕ). same (get_or p t 0) z) q

  there : has L x ≡ true
  there =
      let some : any set_slots (has L) ≡ true = either (look (any set_slots (has L))) (λ q. q) (λ q. absurd (omega (arith, e, h, first-none set_slots (has L) q))) in
      subst (λ (t : ℕ). has L t ≡ true) (sym e) (first_in set_slots (has L) some).1

  pub sees_more : (G' : List ℕ) → Is G' (λ c. has G c || same c v) → Sees X p L G → Sees X p L' G'
  unfolding Sees sees
  sees_more G' g n c i = both
      (λ o. either
      (or_out (has G' c) _ o)
      (λ a. either
      (or_out (has G c) _ (sym (g c i) ∙ a))
      (λ b. or_l _ _ b)
      (λ b. or_r (has G c) _ (any_in set_slots _ x h (and_in there (eq_same (sym (same_eq b ∙ q)))))))
      (λ a.
      let t = any_out set_slots _ a in
      or_r (has G c) _ (any_in set_slots _ t.0 t.1 (and_in (and_l _ _ (sym (l t.0 t.1) ∙ and_l _ _ t.2)) (and_r (has L' t.0) _ t.2)))))
      (λ o. either
      (or_out (has G c) _ o)
      (λ a. or_l _ _ (g c i ∙ or_l _ _ a))
      (λ a.
      let t = any_out set_slots _ a in
      let b : get_or p t.0 0 ≡ c = same_eq (and_r (has L t.0) _ t.2) in
      either
      (look (has (get_or R v d) t.0))
      (λ y. or_l _ _ (g c i ∙ or_r (has G c) _ (eq_same (sym b ∙ same_eq (sym (class t.0 t.1) ∙ y) ∙ sym q))))
      (λ y. or_r (has G' c) _ (any_in set_slots _ t.0 t.1 (and_in (l t.0 t.1 ∙ and_in (and_l _ _ t.2) (ap not y)) (and_r (has L t.0) _ t.2))))))
      ∙ n c i

  -- fewer slots are left
  pub sees_fewer : count set_slots (has L') < count set_slots (has L)
  sees_fewer =
      let gone : has L' x ≡ false = l x h ∙ rw (class x h, same_refl (get_or p x 0)) (and-false (has L x)) in
      count_more set_slots (has L') (has L) (λ t i o. and_l _ _ (sym (l t i) ∙ o)) x h gone there

-- at the start G has what was seen before, and all slots of A are to come
pub sees_all : (p A L G : List ℕ) → L ≡ A → Sees (λ c. has G c || sees A p c) p L G
unfolding Sees
sees_all p A L G e c h = rw e refl

-- one slot x of L is taken out, and its class v is put in
pub sees_slot : (X : ℕ → Bool) (p L G : List ℕ) (x v : ℕ) (L' G' : List ℕ) → Next set_slots L (Some x) L' → v ≡ get_or p x 0 → Is G' (λ c. has G c || same c v) → Sees X p L G → Sees X p L' G'
unfolding Sees sees
sees_slot X p L G x v L' G' f q g n c i = both
    (λ o. either
    (or_out (has G' c) _ o)
    (λ a. either
    (or_out (has G c) _ (sym (g c i) ∙ a))
    (λ b. or_l _ _ b)
    (λ b. or_r (has G c) _ (any_in set_slots _ x f.0 (and_in there (eq_same (sym (same_eq b ∙ q)))))))
    (λ a.
    let t = any_out set_slots _ a in
    or_r (has G c) _ (any_in set_slots _ t.0 t.1 (and_in (and_l _ _ (sym (f.2 t.0 t.1) ∙ and_l _ _ t.2)) (and_r (has L' t.0) _ t.2)))))
    (λ o. either
    (or_out (has G c) _ o)
    (λ a. or_l _ _ (g c i ∙ or_l _ _ a))
    (λ a.
    let t = any_out set_slots _ a in
    let b : get_or p t.0 0 ≡ c = same_eq (and_r (has L t.0) _ t.2) in
    either
    (equal? t.0 x)
    (λ y. or_l _ _ (g c i ∙ or_r (has G c) _ (eq_same (sym b ∙ ap (λ k. get_or p k 0) y ∙ sym q))))
    (λ y. or_r (has G' c) _ (any_in set_slots _ t.0 t.1 (and_in (f.2 t.0 t.1 ∙ and_in (and_l _ _ t.2) (ap not (ne_same y))) (and_r (has L t.0) _ t.2))))))
    ∙ n c i
  where
    there : has L x ≡ true
    there = lowest_in x L f.0 f.1

-- the classes that the slots of L are in, with those of G
pub sees_both : (X : ℕ → Bool) (p L G V : List ℕ) → Is V (λ c. has G c || sees L p c) → Sees X p L G → Is V X
unfolding Sees
sees_both X p L G V u n c h = u c h ∙ n c h

pub sees_done : (X : ℕ → Bool) (p L G : List ℕ) → any set_slots (has L) ≡ false → Sees X p L G → Is G X
unfolding Sees sees
sees_done X p L G e n c h =
    sym (or-false (has G c)) ∙ ap (λ (z : Bool). has G c || z) (sym (none_any set_slots _ (λ t i. rw (any_none set_slots (has L) e t i)))) ∙ n c h

-- a row of no slot sees no class
pub sees_none : (p A G : List ℕ) → Is A (λ t. false) → Is G (λ c. false) → Is G (sees A p)
unfolding sees
sees_none p A G a g c h = g c h ∙ sym (none_any set_slots _ (λ t i. rw (a t i) refl))

-- the signatures of the rows R below s stand in S, and G is that of row s, which is A
pub signed_more : (p A G d : List ℕ) (R S : List (List ℕ)) (s : ℕ) → s < length R → s < length S → A ≡ get_or R s d → Is G (sees A p)
    → ((k : ℕ) → k < s → Is (row S k) (sees (row R k) p)) → ((k : ℕ) → k < s + 1 → Is (row (set S s G) k) (sees (row R k) p)) × Is G (sees A p)
signed_more p A G d R S s m n e g h =
    (put_more [] (λ (k : ℕ) (x : List ℕ). Is x (sees (row R k) p)) S s G n h (subst (λ (r : List ℕ). Is G (sees r p)) (e ∙ row_at R s d m) g), g)

-- what each slot k has put in: itself, into the class of its number
pub numbered : (p : List ℕ) (x y : ℕ) → y < set_slots → any set_slots (λ k. same x (get_or p k 0) && same y k) ≡ same (get_or p y 0) x
numbered p x y h = both
    (λ e.
    let k = any_out set_slots _ e in
    let i : y ≡ k.0 = same_eq (and_r (same x (get_or p k.0 0)) _ k.2) in
    rw i (eq_same (sym (same_eq (and_l _ _ k.2)))))
    (λ e. any_in set_slots _ y h (and_in (eq_same (sym (same_eq e))) (same_refl y)))
