-- The slots exactly k steps away from a set, round by round, and what a search from the start and one from the goal say of each other.
use Rattle.std.specs.Prelude.{◌≡◌, ◌⊎◌, Bool, not, ◌&&◌, ◌||◌, refl, true, false, ℕ, zero, suc, ◌+◌, ◌-◌, ◌≤◌, ◌<◌}
use Rattle.std.proofs.Common.{◌∙◌, ap₂, sym, inl, inr, arith}
use Rattle.finite.specs.Tests.{same, any}
use Rattle.finite.proofs.Laws.Bools.{either, look, clash, no_true, and_in, and_l, and_r, or_l, or_r, or_out, not_in, not_out, both}
use Rattle.finite.proofs.Laws.Below.{equal?, same_eq, same_refl, any_in, any_out, any_none, any_cong}
use Rattle.limits.specs.Limits.{slots}
use Rattle.semantics.specs.Form.{Way}
use Rattle.semantics.specs.Holds.{Set, Model, step}
use Rattle.semantics.specs.Monotone.{◌⊆◌}
use Rattle.semantics.specs.Agree.{◌≐◌}
use Rattle.chains.specs.Layers.{within, Rest}
use Rattle.chains.proofs.Laws.Layers.{toward_out, toward-step, toward_grows, within_start, within-next, within_here, within_goal}
use Rattle.chains.specs.Shortest.{Away}
use Rattle.chains.specs.Reached.{reverse, onward}
use Rattle.chains.proofs.Laws.Reached.{step-reverse}
use Rattle.chains.specs.Directed.{into, exact, meeting, Layered}

module _ (M : Model) (w : Way) where
  into_in : (T : Set) (x t : ℕ) → t < slots → step M w x t ≡ true → T t ≡ true → into M w T x ≡ true
  unfolding into
  into_in T x t h p q = any_in slots _ t h (and_in p q)

  into_out : (T : Set) (x : ℕ) → into M w T x ≡ true → (t : ℕ) × (t < slots) × (step M w x t ≡ true) × (T t ≡ true)
  unfolding into
  into_out T x p = let r = any_out slots _ p in (r.0, r.1, and_l _ _ r.2, and_r (step M w x r.0) _ r.2)

module _ (M : Model) (w : Way) (S : Set) where
  within_rise : (k : ℕ) → within M w S k ⊆ within M w S (suc k)
  within_rise zero x h p = within_here M w S 1 x (rw within_start at p)
  within_rise (suc k) x h p = rw (within-next M w S (suc k)) (toward_grows M w S _ _ (within_rise k) x h (rw (within-next M w S k) at p))

  within_up : (j k : ℕ) → j ≤ k → within M w S j ⊆ within M w S k
  within_up j zero l x h p = let z : j ≡ 0 = omega arith in rw z at p
  within_up j (suc k) l x h p =
      either (equal? j (suc k)) (λ q. rw q at p) (λ q. within_rise k x h (within_up j k (omega arith) x h p))

  within_step : (k x t : ℕ) → t < slots → step M w x t ≡ true → within M w S k t ≡ true → within M w S (suc k) x ≡ true
  within_step k x t h p q = rw (within-next M w S k) (toward-step M w S _ x t h p q)

  pub exact_start : exact M w S 0 ≡ S
  unfolding exact
  exact_start = refl

  exact_in : (k x : ℕ) → within M w S (suc k) x ≡ true → within M w S k x ≡ false → exact M w S (suc k) x ≡ true
  unfolding exact
  exact_in k x p q = and_in p (not_in (λ r. clash r q))

  exact-within : (k x : ℕ) → exact M w S k x ≡ true → within M w S k x ≡ true
  unfolding exact
  exact-within zero x p = rw within_start p
  exact-within (suc k) x p = and_l _ _ p

  exact_new : (k x : ℕ) → exact M w S (suc k) x ≡ true → within M w S k x ≡ false
  unfolding exact
  exact_new k x p = no_true (not_out _ (and_r (within M w S (suc k) x) _ p))

  -- each slot within k steps is some number of steps away
  within-exact : (k x : ℕ) → within M w S k x ≡ true → (j : ℕ) × (j ≤ k) × (exact M w S j x ≡ true)
  within-exact zero x p = (0, omega arith, rw exact_start (rw within_start at p))
  within-exact (suc k) x p =
      either (look (within M w S k x))
      (λ q. let r = within-exact k x q in (r.0, omega (arith, r.1), r.2))
      (λ q. (suc k, omega arith, exact_in k x p q))

  pub exact_away : (k x : ℕ) → x < slots → exact M w S k x ≡ true → Away M w S k x
  exact_away zero x h p = record { in_reach = exact-within 0 x p; no_nearer = λ j l. absurd (omega arith) }
  exact_away (suc k) x h p = record {
    in_reach = exact-within (suc k) x p;
    no_nearer = λ j l. no_true (λ q. clash (within_up j k (omega arith) x h q) (exact_new k x p));
  }

  -- a round: the new slots from which the way leads into those of the round before
  pub exact_more : (k : ℕ) (D F E : Set) → D ≐ within M w S k → F ≐ exact M w S k → E ≐ (λ x. not (D x) && into M w F x) → E ≐ exact M w S (suc k)
  exact_more k D F E d f e x h =
      e x h ∙ both
      (λ p.
      let r = into_out M w F x (and_r (not (D x)) _ p) in
      let out : within M w S k x ≡ false = sym (d x h) ∙ no_true (not_out _ (and_l _ _ p)) in
      exact_in k x (within_step k x r.0 r.1 r.2 (exact-within k r.0 (sym (f _ r.1) ∙ r.3))) out)
      (λ p.
      let out : within M w S k x ≡ false = exact_new k x p in
      and_in (not_in (λ q. clash (sym (d x h) ∙ q) out))
      (either (toward_out M w S _ x (rw (within-next M w S k) at (exact-within (suc k) x p)))
      (λ q. clash (within_here M w S k x q) out)
      (λ r. into_in M w F x r.0 r.1 r.2 (f _ r.1 ∙ last-round k x r.0 r.1 r.2 out r.3))))
    where
      last-round : (k x t : ℕ) → t < slots → step M w x t ≡ true → within M w S k x ≡ false → within M w S k t ≡ true → exact M w S k t ≡ true
      last-round zero x t l p out q = rw exact_start (rw within_start at q)
      last-round (suc k) x t l p out q = exact_in k t q (no_true (λ r. clash (within_step k x t l p r) out))

  -- and the set with them
  pub set_more : (k : ℕ) (D F E : Set) → D ≐ within M w S k → F ≐ exact M w S (suc k) → E ≐ (λ x. D x || F x) → E ≐ within M w S (suc k)
  set_more k D F E d f e x h =
      e x h ∙ both
      (λ p. either (or_out (D x) _ p) (λ q. within_rise k x h (sym (d x h) ∙ q)) (λ q. exact-within (suc k) x (sym (f x h) ∙ q)))
      (λ p. either (look (within M w S k x)) (λ q. or_l _ _ (d x h ∙ q)) (λ q. or_r (D x) _ (f x h ∙ exact_in k x p q)))

  -- a round that adds nothing
  pub exact-rest : (k : ℕ) → any slots (exact M w S (suc k)) ≡ false → Rest M w S k
  unfolding Rest
  exact-rest k n x h p =
      either (look (within M w S k x)) (λ q. q)
      (λ q. clash (exact_in k x (rw (within-next M w S k) p) q) (any_none slots _ n x h))

  pub rest-same : (k : ℕ) → Rest M w S k → within M w S (suc k) ≐ within M w S k
  unfolding Rest
  rest-same k r x h = both (λ p. r x h (rw (within-next M w S k) at p)) (within_rise k x h)

  -- none of the first k rounds meets T, so no slot within so many steps is in T
  pub not_met : (T : Set) (k x : ℕ) → x < slots → any (suc k) (meeting M w S T) ≡ false → within M w S k x ≡ true → T x ≡ false
  unfolding meeting
  not_met T k x h n p =
      let r = within-exact k x p in
      no_true (λ q. clash (any_in slots _ x h (and_in r.2 q)) (any_none (suc k) _ n r.0 (omega (arith, r.1))))

-- of the set only the slots count
pub exact_goal : (M : Model) (w : Way) (S S' : Set) → S ≐ S' → (k : ℕ) → exact M w S k ≐ exact M w S' k
unfolding exact
exact_goal M w S S' e zero x h = e x h
exact_goal M w S S' e (suc k) x h = ap₂ (λ (a b : Bool). a && not b) (within_goal M w S S' e (suc k) x h) (within_goal M w S S' e k x h)

-- the search from the start s
module _ (M : Model) (w : Way) (s : ℕ) where
  -- the slots before x, of a slot x that the start leads to
  onward_out : (i x : ℕ) → onward M w s (suc i) x ≡ true
      → (x ≡ s) ⊎ ((y : ℕ) × (y < slots) × (step M w y x ≡ true) × (onward M w s i y ≡ true))
  unfolding onward
  onward_out i x p =
      either (toward_out M (reverse w) _ _ x (rw (within-next M (reverse w) _ i) at p))
      (λ q. inl (same_eq q))
      (λ r. inr (r.0, r.1, sym (step-reverse M w x r.0) ∙ r.2, r.3))

  onward_start : (x : ℕ) → onward M w s 0 x ≡ true → x ≡ s
  unfolding onward
  onward_start x p = same_eq (rw within_start at p)

  pub onward-step : (i x t : ℕ) → x < slots → step M w x t ≡ true → onward M w s i x ≡ true → onward M w s (suc i) t ≡ true
  unfolding onward
  onward-step i x t h p q = within_step M (reverse w) _ i t x h (step-reverse M w t x ∙ p) q

-- and the one from the goal S
module _ (M : Model) (w : Way) (S : Set) (s : ℕ) (hs : s < slots) where
  -- a slot after i steps and k before the goal is on a chain of i + k
  onward-within : (i k x : ℕ) → x < slots → onward M w s i x ≡ true → within M w S k x ≡ true → within M w S (i + k) s ≡ true
  onward-within zero k x h p q =
      let e = onward_start M w s x p in within_up M w S k (0 + k) (omega arith) s hs (rw e at q)
  onward-within (suc i) k x h p q =
      either (onward_out M w s i x p)
      (λ e. within_up M w S k (suc i + k) (omega arith) s hs (rw e at q))
      (λ r.
      let e : suc i + k ≡ i + suc k = omega arith in
      rw e (onward-within i (suc k) r.0 r.1 r.3 (within_step M w S k r.0 x h r.2 q)))

  short_cut : (n i k x : ℕ) → Away M w S n s → x < slots → onward M w s i x ≡ true → within M w S k x ≡ true → n ≤ i + k
  short_cut n i k x a h p q =
      let no : ¬ (i + k < n) = λ l. clash (onward-within i k x h p q) (a.no_nearer (i + k) l) in omega arith

  -- a goal slot at the end of the chain
  within-onward : (k i x : ℕ) → x < slots → onward M w s i x ≡ true → within M w S k x ≡ true
      → (t : ℕ) × (t < slots) × (onward M w s (i + k) t ≡ true) × (S t ≡ true)
  unfolding onward
  within-onward zero i x h p q = (x, h, within_up M (reverse w) _ i (i + 0) (omega arith) x h p, rw within_start at q)
  within-onward (suc k) i x h p q =
      either (toward_out M w S _ x (rw (within-next M w S k) at q))
      (λ g. (x, h, within_up M (reverse w) _ i (i + suc k) (omega arith) x h p, g))
      (λ r.
      let e : suc i + k ≡ i + suc k = omega arith in
      let g = within-onward k (suc i) r.0 r.1 (onward-step M w s i x r.0 h r.2 p) r.3 in
      (g.0, g.1, rw e at g.2, g.3))

  -- the first round on from the start that meets the goal tells how far it is
  pub met_away : (n : ℕ) → meeting M (reverse w) (λ t. same t s) S n ≡ true → any n (meeting M (reverse w) (λ t. same t s) S) ≡ false → Away M w S n s
  unfolding meeting onward
  met_away n p f =
      let r = any_out slots _ p in
      let on : onward M w s n r.0 ≡ true = exact-within M (reverse w) _ n r.0 (and_l _ _ r.2) in
      let here : within M w S 0 r.0 ≡ true = within_here M w S 0 r.0 (and_r (exact M (reverse w) (λ t. same t s) n r.0) _ r.2) in
      let e : n + 0 ≡ n = omega arith in
      record {
        in_reach = rw e at (onward-within n 0 r.0 r.1 on here);
        no_nearer = λ j l. no_true (λ q.
            let g = within-onward j 0 s hs (within_here M (reverse w) _ 0 s (same_refl s)) q in
            let x = within-exact M (reverse w) (λ t. same t s) (0 + j) g.0 g.2 in
            clash (any_in slots (λ t. exact M (reverse w) (λ u. same u s) x.0 t && S t) g.0 g.1 (and_in x.2 g.3)) (any_none n _ f x.0 (omega (arith, x.1))));
      }

module _ {M : Model} {w : Way} {S : Set} {s n : ℕ} (hs : s < slots) (a : Away M w S n s) where
  -- those of the search from the goal
  pub layered_goal : {T : ℕ → Set} → ((j : ℕ) → j ≤ n → T j ≐ exact M w S j) → Layered M w S s n T
  layered_goal {T} e = record { agrees = λ j x t l h k p q. e j (omega arith) t k ∙ both (exact-within M w S j t) (back j x t l h k p q) }
    where
      back : (j x t : ℕ) → j < n → x < slots → t < slots → onward M w s (n - suc j) x ≡ true → step M w x t ≡ true
          → within M w S j t ≡ true → exact M w S j t ≡ true
      back zero x t l h k p q r = rw exact_start (rw within_start at r)
      back (suc j) x t l h k p q r = exact_in M w S j t r (no_true (λ g.
          absurd (omega (arith, short_cut M w S s hs n (suc (n - suc (suc j))) j t a k (onward-step M w s (n - suc (suc j)) x t h q p) g))))

  -- those of the search from the start: the goal's set, and then of each front F the slots that lead into the set before
  pub layered_start : {T F : ℕ → Set} → T 0 ≐ S → ((j : ℕ) → j ≤ n → F j ≐ exact M (reverse w) (λ t. same t s) j)
      → ((j : ℕ) → j < n → T (suc j) ≐ (λ x. F (n - suc j) x && into M w (T j) x)) → Layered M w S s n T
  unfolding into onward
  layered_start {T} {F} goal fronts leads = record { agrees = go }
    where
      go : (j x t : ℕ) → j < n → x < slots → t < slots → onward M w s (n - suc j) x ≡ true → step M w x t ≡ true → T j t ≡ within M w S j t
      go zero x t l h k p q = rw within_start (goal t k)
      go (suc j) x t l h k p q =
          let i = n - suc (suc j) in
          let count : n - suc j ≡ suc i = omega arith in
          let on : onward M w s (suc i) t ≡ true = onward-step M w s i x t h q p in
          let near : into M w (T j) t ≡ into M w (within M w S j) t =
          any_cong slots _ _ (λ u r. either (look (step M w t u)) (λ g. rw g (go j t u (omega arith) k r (rw count on) g)) (λ g. rw g refl)) in
          leads j (omega arith) t k ∙ both
          (λ g.
          let o = into_out M w (within M w S j) t (sym near ∙ and_r (F (n - suc j) t) _ g) in
          within_step M w S j t o.0 o.1 o.2 o.3)
          (λ g.
          let no_sooner : onward M w s i t ≡ false = no_true (λ b. absurd (omega (arith, short_cut M w S s hs n i (suc j) t a k b g))) in
          let front : exact M (reverse w) (λ u. same u s) (suc i) t ≡ true = exact_in M (reverse w) _ i t on no_sooner in
          and_in (fronts (n - suc j) (omega arith) t k ∙ rw count front)
          (near ∙ either (toward_out M w S _ t (rw (within-next M w S j) at g))
          (λ b. absurd (omega (arith, short_cut M w S s hs n (suc i) 0 t a k on (within_here M w S 0 t b))))
          (λ b. into_in M w (within M w S j) t b.0 b.1 b.2 b.3)))
