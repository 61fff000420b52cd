-- The second pass goes down: a node that is emitted has its children emitted too, or waits for them.
use Rattle.std.specs.Prelude.{◌≡◌, List, ◌⊎◌, Bool, true, false, ◌||◌, ℕ, ◌-◌, ◌≤◌, ◌<◌, length, set, get_or, min, max}
use Rattle.std.proofs.Common.{sym, ◌∙◌, ap, subst, inl, inr, arith, get_or-set_same, get_or-set_other, refl}
use Rattle.finite.specs.Tests.{below}
use Rattle.finite.proofs.Laws.Bools.{either, look, clash, or_out}
use Rattle.finite.proofs.Laws.Below.{equal?, below_out, not-below}
use Rattle.semantics.specs.Edit.{Edit}
use Rattle.condition.specs.Bytes.{node_at}
use Rattle.emitting.specs.declared.Stage.{Stage}
use Rattle.emitting.specs.declared.Stage.TheVariants.{ToCopy, Emitted}
use Rattle.emitting.specs.State.{waits, waits_at, Emitting, ChildrenEmitted, Deep, OneEmitted}

-- ---- one node

pub one_none : {s : List ℕ} {stages : List Stage} {c : ℕ} → OneEmitted s stages stages c false
one_none = record { only = λ j n p. clash n p; below = λ q. clash q refl }

-- both children of a node
pub both_emitted : {s : List ℕ} {stages : List Stage} {i l r : ℕ} → l ≡ (node_at s i).left → r ≡ (node_at s i).right → waits_at stages l ≡ false
    → waits_at stages r ≡ false → ChildrenEmitted s stages i
both_emitted el er a b = record { left = rw (← el) a; right = rw (← er) b }

-- node c is emitted
module _ (stages : List Stage) {stages' : List Stage} {c : ℕ} (e : stages' ≡ set stages c Emitted) (i : c < length stages) where
  pub set_emitted : waits_at stages' c ≡ false
  set_emitted = rw e (ap waits (get_or-set_same stages c Emitted ToCopy i))

  pub set_other : (j : ℕ) → (j ≡ c → ⊥) → get_or stages' j ToCopy ≡ get_or stages j ToCopy
  set_other j q = rw e (get_or-set_other stages c j Emitted ToCopy q)

  -- it is not the first one, where the node l in one of its fields waits: the first one is its own field
  not_first : (l : ℕ) → l ≤ c - 1 → waits_at stages' l ≡ true → 0 < c
  not_first l h w =
      either (equal? c 0) (λ z. let q : l ≡ c = omega arith in clash (rw q at w) set_emitted) (λ z. omega arith)

  pub one_set : {s : List ℕ} {l r : ℕ} {a b : Bool} → l ≡ (node_at s c).left → r ≡ (node_at s c).right → a ≡ waits_at stages' l → b ≡ waits_at stages' r
      → l ≤ c - 1 → r ≤ c - 1 → OneEmitted s stages stages' c (a || b)
  one_set {s} {l} {r} {a} {b} el er ea eb hl hr =
      let K : ChildrenEmitted s stages' c ⊎ ((a || b) ≡ true) =
      either (look a) (λ q. inr (rw q refl)) (λ q. either (look b) (λ z. inr (rw (q, z) refl)) (λ z. inl (both_emitted el er (sym ea ∙ q) (sym eb ∙ z)))) in
      record {
        only = λ j n p.
            either
            (equal? j c)
            (λ q. (q, subst (λ (m : ℕ). ChildrenEmitted s stages' m ⊎ ((a || b) ≡ true)) (sym q) K))
            (λ q. clash n (sym (ap waits (set_other j q)) ∙ p));
        below = λ q. either (or_out a b q) (λ z. not_first l hl (sym ea ∙ z)) (λ z. not_first r hr (sym eb ∙ z));
      }

-- ---- more nodes

pub children_stay : {s : List ℕ} {e : Edit} {stages : List Stage} {out : List ℕ} {stages' : List Stage} {out' : List ℕ} {j : ℕ} → Emitting s e stages out stages' out'
    → ChildrenEmitted s stages j → ChildrenEmitted s stages' j
children_stay P C = record { left = P.stays _ C.left; right = P.stays _ C.right }

pub deep_none : {s : List ℕ} {stages : List Stage} → Deep s stages stages
deep_none = record { down = λ j n p. clash n p }

pub deep_then : {s : List ℕ} {e : Edit} {stages stages₁ stages₂ : List Stage} {out₁ out₂ : List ℕ} → Deep s stages stages₁ → Emitting s e stages₁ out₁ stages₂ out₂
    → Deep s stages₁ stages₂ → Deep s stages stages₂
deep_then {stages₁ = stages₁} D Q E = record {
  down = λ j n p. either (look (waits_at stages₁ j)) (λ q. E.down j q p) (λ q. children_stay Q (D.down j n q));
}

-- c is emitted, and none of its children waits
pub deep_one : {s : List ℕ} {stages stages' : List Stage} {c : ℕ} {b : Bool} → OneEmitted s stages stages' c b → b ≡ false → Deep s stages stages'
deep_one O e = record { down = λ j n p. either (O.only j n p).1 (λ k. k) (λ q. clash q e) }

-- c is emitted; where it waits for its children it has them emitted then, and more nodes are
pub paid_one : {s : List ℕ} {e : Edit} {stages stages₁ stages₂ : List Stage} {out₁ out₂ : List ℕ} {c : ℕ} {b : Bool} → OneEmitted s stages stages₁ c b
    → Emitting s e stages₁ out₁ stages₂ out₂ → Deep s stages₁ stages₂ → (b ≡ true → ChildrenEmitted s stages₂ c) → Deep s stages stages₂
paid_one {s} {stages₁ = stages₁} {stages₂} O Q D f = record {
  down = λ j n p.
      either
      (look (waits_at stages₁ j))
      (λ q. D.down j q p)
      (λ q. let o = O.only j n q in either o.1 (children_stay Q) (λ w. subst (ChildrenEmitted s stages₂) (sym o.0) (f w)));
}

-- lo and then hi are emitted; those of them that wait for their children have them emitted then, and more nodes are
pub paid : {s : List ℕ} {e : Edit} {stages stages₁ stages₂ stages₃ : List Stage} {out₁ out₂ out₃ : List ℕ} {lo hi : ℕ} {a b : Bool} → OneEmitted s stages stages₁ lo a
    → Emitting s e stages₁ out₁ stages₂ out₂ → OneEmitted s stages₁ stages₂ hi b → Emitting s e stages₂ out₂ stages₃ out₃ → Deep s stages₂ stages₃
    → (a ≡ true → ChildrenEmitted s stages₃ lo) → (b ≡ true → ChildrenEmitted s stages₃ hi) → Deep s stages stages₃
paid {s} {stages₁ = stages₁} {stages₂} {stages₃} O P N Q D f g = record {
  down = λ j n p.
      either
      (look (waits_at stages₁ j))
      (λ q. either (look (waits_at stages₂ j))
      (λ z. D.down j z p)
      (λ z. let o = N.only j q z in either o.1 (children_stay Q) (λ w. subst (ChildrenEmitted s stages₃) (sym o.0) (g w))))
      (λ q. let o = O.only j n q in either o.1 (λ k. children_stay Q (children_stay P k)) (λ w. subst (ChildrenEmitted s stages₃) (sym o.0) (f w)));
}

-- the lower and the higher one of two nodes are both
pub both_of : (stages : List Stage) (l r : ℕ) {lo hi : ℕ} → lo ≡ min l r → hi ≡ max l r → waits_at stages lo ≡ false → waits_at stages hi ≡ false
    → (waits_at stages l ≡ false) × (waits_at stages r ≡ false)
both_of stages l r {lo} {hi} el eh a b =
    either
    (look (below l r))
    (λ q. let h = below_out l r q in let e : lo ≡ l = omega arith in let f : hi ≡ r = omega arith in (rw e at a, rw f at b))
    (λ q. let h = not-below l r q in let e : lo ≡ r = omega arith in let f : hi ≡ l = omega arith in (rw f at b, rw e at a))
