-- The changes, byte by byte: what a site's bytes say after one was set, or one slot put in or taken out.
use Rattle.std.specs.Prelude.{◌≡◌, refl, ◌⊎◌, ◌≢◌, ◌&&◌, List, length, replicate, get_or, set, Bool, true, false, not, ◌||◌, cond, ℕ, ◌+◌, ◌*◌, ◌/◌, ◌%◌, ◌≤◌, ◌<◌}
use Rattle.std.proofs.Common.{◌∙◌, inl, inr, get_or-set_same, get_or-set_other, sym, ap, ap₂, arith}
use Rattle.std.proofs.lemmas.List.{length-replicate, get_or-replicate, set-get_or}
use Rattle.std.proofs.Math.Bool.{and-true, and-false}
use Rattle.std.proofs.Math.Decide.{dec_lt}
use Rattle.finite.specs.Tests.{same, bit}
use Rattle.finite.proofs.Laws.Bools.{either, look, clash, both, no_true, and_in, and_l, and_r, or_out, not_in, not_out, cond_comes, cond_was}
use Rattle.finite.proofs.Laws.Weights.{bit-zero}
use Rattle.finite.proofs.Laws.Below.{equal?, same_eq, same_refl, eq_same, ne_same}
use Rattle.bitset.specs.Set.{set_bytes, has, Is, inserted, removed}
use Rattle.bitset.proofs.Laws.Part.{back, back_below, back_above, back-has}
use Rattle.bitset.proofs.Laws.Slot.{has-inserted, has-removed, byte_inserted, byte_removed}
use Rattle.limits.specs.Limits.{slots, labels, names, links, general_links}
use Rattle.semantics.specs.Holds.{Model}
use Rattle.semantics.specs.Edit.{functional, target}
use Rattle.site.specs.Layout.{site_bytes, label_at, name_at, target_at, row_at}
use Rattle.site.specs.Site.{site_of}
use Rattle.site.proofs.Laws.Read.{present_is, present_in, marked_is, marked_in, place_is, row_is, target_is, link_in, functional_in}
use Rattle.site.proofs.Laws.Target.{nil_none, target_byte}
use Rattle.going.specs.Joins.{ends_on_site, joins}
use Rattle.going.proofs.Laws.Goes.{end_there}
use Rattle.site_changes.specs.Change.{with_name, with_slot, without_slot, with_label, without_label, with_link, without_link, with_target, without_target}
use Rattle.site_changes.proofs.Laws.Cases.{cond_yes, cond_no, same_by, takes, Changes, puts_changes, takes_changes, at-cond, cond_off, alone_put}
use Rattle.site_changes.proofs.Laws.Areas.{same_fields, present_kept, marked_kept, place_kept_at, place_kept, row_kept, target_kept, link_kept, presents_are, marks_are, links_are}

-- ---- a name's byte

pub name_put : (S : List ℕ) (n x : ℕ) → length S ≡ site_bytes → n < names → site_of (set S (name_at n) x) ≡ with_name (site_of S) n x
unfolding with_name
name_put S n x l hn =
    let S' : List ℕ = set S (name_at n) x in
    let other : (j : ℕ) → j ≢ name_at n → get_or S' j 0 ≡ get_or S j 0 = λ j d. get_or-set_other S (name_at n) j x 0 d in
    same_fields (record {
      present_same = present_kept S S' (λ j a b. other j (λ e. omega arith));
      marked_same = marked_kept S S' (λ j a b. other j (λ e. omega arith));
      place_same =
          λ y.
          either
          (equal? y n)
          (λ e.
          place_is S' y (omega arith) ∙ ap (λ (z : ℕ). get_or S' (name_at z) 0) e ∙ get_or-set_same S (name_at n) x 0 (omega arith) ∙ sym (cond_yes x ((site_of S).place y) (eq_same e)))
          (λ d. place_kept_at S S' y (other (name_at y) (λ e. d (omega arith))) ∙ sym (cond_no x ((site_of S).place y) (ne_same d)));
      link_same = link_kept S S' (λ j a b. other j (λ e. omega arith));
    })

-- ---- one slot put in or taken out, at the address a

record Slotwise (g : Bool → Bool → Bool) (S S' : List ℕ) (a : ℕ) : Type 0 where
  pub slots_are : (t : ℕ) → has S' t ≡ g (has S t) (same t a)
  pub others : (j : ℕ) → j ≢ a / 8 → get_or S' j 0 ≡ get_or S j 0

put_slot : (S : List ℕ) (a : ℕ) → a / 8 < length S → Slotwise ◌||◌ S (inserted S a) a
put_slot S a h = record { slots_are = λ t. has-inserted S a t h; others = byte_inserted S a }

taken_slot : (S : List ℕ) (a : ℕ) → a / 8 < length S → Slotwise takes S (removed S a) a
taken_slot S a h = record { slots_are = λ t. has-removed S a t h; others = byte_removed S a }

-- bits have equal addresses where label and slot, or link and slots, are equal
label_same : (q s p x : ℕ) → s < slots → x < slots → same (label_at q * 8 + s) (label_at p * 8 + x) ≡ (same q p && same s x)
unfolding slots
label_same q s p x hs hx =
    same_by (λ e. and_in (eq_same (omega arith)) (eq_same (omega arith))) (λ b.
    let e = same_eq (and_l (same q p) (same s x) b) in
    let f = same_eq (and_r (same q p) (same s x) b) in
    omega arith)

row_same : (l s t m x y : ℕ) → s < slots → t < slots → x < slots → y < slots
    → same (row_at l s * 8 + t) (row_at m x * 8 + y) ≡ (same l m && (same s x && same t y))
unfolding slots
row_same l s t m x y hs ht hx hy =
    same_by (λ e. and_in (eq_same (omega arith)) (and_in (eq_same (omega arith)) (eq_same (omega arith)))) (λ b.
    let r : (same s x && same t y) ≡ true = and_r (same l m) (same s x && same t y) b in
    let e = same_eq (and_l (same l m) (same s x && same t y) b) in
    let f = same_eq (and_l (same s x) (same t y) r) in
    let g = same_eq (and_r (same s x) (same t y) r) in
    omega arith)

module _ (g : Bool → Bool → Bool) (ch : Changes g) (S S' : List ℕ) where
  -- of the present slots
  slot_changed : (x : ℕ) → x < slots → Slotwise g S S' x
      → site_of S' ≡ record { present = λ s. g ((site_of S).present s) (same s x); marked = (site_of S).marked; place = (site_of S).place; link = (site_of S).link }
  unfolding slots
  slot_changed x hx w =
      same_fields (record {
        present_same =
            presents_are S' (λ s. g ((site_of S).present s) (same s x))
            (λ s hs. w.slots_are s ∙ ap (λ (b : Bool). g b (same s x)) (sym (present_is S s hs)))
            (λ s p. either (ch.comes _ _ p) (present_in S s) (λ q. let e = same_eq q in omega arith));
        marked_same = marked_kept S S' (λ j u v. w.others j (λ e. omega arith));
        place_same = place_kept S S' (λ j u v. w.others j (λ e. omega arith));
        link_same = link_kept S S' (λ j u v. w.others j (λ e. omega arith));
      })

  -- of the slots of label p
  label_changed : (p x : ℕ) → p < labels → x < slots → Slotwise g S S' (label_at p * 8 + x)
      → site_of S' ≡ record {
        present = (site_of S).present;
        marked = λ q s. cond (same q p) (g ((site_of S).marked q s) (same s x)) ((site_of S).marked q s);
        place = (site_of S).place;
        link = (site_of S).link;
      }
  unfolding slots
  label_changed p x hp hx w =
      same_fields (record {
        present_same = present_kept S S' (λ j u v. w.others j (λ e. omega arith));
        marked_same =
            marks_are S' (λ q s. cond (same q p) (g ((site_of S).marked q s) (same s x)) ((site_of S).marked q s))
            (λ q s hq hs.
            w.slots_are (label_at q * 8 + s)
            ∙ ap₂ g (sym (marked_is S q s hq hs)) (label_same q s p x hs hx)
            ∙ at-cond g ch ((site_of S).marked q s) (same q p) (same s x))
            (λ q s e.
            either
            (cond_comes g ch.comes ((site_of S).marked q s) (same q p) (same s x) e)
            (marked_in S q s)
            (λ r. let u = same_eq r.0 in let v = same_eq r.1 in (omega arith, omega arith)));
        place_same = place_kept S S' (λ j u v. w.others j (λ e. omega arith));
        link_same = link_kept S S' (λ j u v. w.others j (λ e. omega arith));
      })

  -- of the targets of slot x by the general link m; the functional links are others
  row_changed : (m x y : ℕ) → m < general_links → x < slots → y < slots → Slotwise g S S' (row_at m x * 8 + y)
      → site_of S' ≡ record {
        present = (site_of S).present;
        marked = (site_of S).marked;
        place = (site_of S).place;
        link = λ l s t. cond (same l m) (g ((site_of S).link l s t) (same s x && same t y)) ((site_of S).link l s t);
      }
  unfolding slots
  row_changed m x y hm hx hy w =
      let N : ℕ → ℕ → ℕ → Bool = (site_of S).link in
      same_fields (record {
        present_same = present_kept S S' (λ j u v. w.others j (λ e. omega arith));
        marked_same = marked_kept S S' (λ j u v. w.others j (λ e. omega arith));
        place_same = place_kept S S' (λ j u v. w.others j (λ e. omega arith));
        link_same =
            links_are S' (λ l s t. cond (same l m) (g (N l s t) (same s x && same t y)) (N l s t))
            (λ l s t hl hs ht.
            w.slots_are (row_at l s * 8 + t)
            ∙ ap₂ g (sym (row_is S l s t hl hs ht)) (row_same l s t m x y hs ht hx hy)
            ∙ at-cond g ch (N l s t) (same l m) (same s x && same t y))
            (λ l s t hg hl hs ht.
            target_kept S S' (λ j u v. w.others j (λ e. omega arith)) l s t hg hl hs ht
            ∙ sym (cond_no (g (N l s t) (same s x && same t y)) (N l s t) (ne_same (λ e. omega arith))))
            (λ l s t p.
            either
            (cond_comes g ch.comes (N l s t) (same l m) (same s x && same t y) p)
            (link_in S l s t)
            (λ r.
            let e = same_eq r.0 in
            let f = same_eq (and_l (same s x) (same t y) r.1) in
            let h = same_eq (and_r (same s x) (same t y) r.1) in
            (omega arith, (omega arith, omega arith))));
      })

module _ (S : List ℕ) {S' : List ℕ} (len : length S ≡ site_bytes) where
  pub slot_put : (x : ℕ) → x < slots → S' ≡ inserted S x → site_of S' ≡ with_slot (site_of S) x
  unfolding with_slot slots
  slot_put x hx e = rw e (slot_changed ◌||◌ puts_changes S (inserted S x) x hx (put_slot S x (omega arith)))

  pub slot_taken : (x : ℕ) → x < slots → S' ≡ removed S x → site_of S' ≡ without_slot (site_of S) x
  unfolding without_slot slots
  slot_taken x hx e = rw e (slot_changed takes takes_changes S (removed S x) x hx (taken_slot S x (omega arith)))

  pub label_put : (p x : ℕ) → p < labels → x < slots → S' ≡ inserted S (label_at p * 8 + x) → site_of S' ≡ with_label (site_of S) p x
  unfolding with_label slots
  label_put p x hp hx e =
      let a : ℕ = label_at p * 8 + x in
      rw e (label_changed ◌||◌ puts_changes S (inserted S a) p x hp hx (put_slot S a (omega arith)))

  pub label_taken : (p x : ℕ) → p < labels → x < slots → S' ≡ removed S (label_at p * 8 + x) → site_of S' ≡ without_label (site_of S) p x
  unfolding without_label slots
  label_taken p x hp hx e =
      let a : ℕ = label_at p * 8 + x in
      rw e (label_changed takes takes_changes S (removed S a) p x hp hx (taken_slot S a (omega arith)))

  pub row_put : (m x y : ℕ) → m < general_links → x < slots → y < slots → S' ≡ inserted S (row_at m x * 8 + y)
      → site_of S' ≡ with_link (site_of S) m x y
  unfolding with_link slots
  row_put m x y hm hx hy e =
      let a : ℕ = row_at m x * 8 + y in
      rw e (row_changed ◌||◌ puts_changes S (inserted S a) m x y hm hx hy (put_slot S a (omega arith)))

  pub row_taken : (m x y : ℕ) → m < general_links → x < slots → y < slots → S' ≡ removed S (row_at m x * 8 + y)
      → site_of S' ≡ without_link (site_of S) m x y
  unfolding without_link slots
  row_taken m x y hm hx hy e =
      let a : ℕ = row_at m x * 8 + y in
      rw e (row_changed takes takes_changes S (removed S a) m x y hm hx hy (taken_slot S a (omega arith)))

-- ---- a functional link: the byte of a target

-- a site with other links
abbrev links_for : Model → (ℕ → ℕ → ℕ → Bool) → Model
links_for M P = record { present = M.present; marked = M.marked; place = M.place; link = P }

-- the target v of slot x by link f; P says what the model's links become, at (f, x) and elsewhere
target-put : (S : List ℕ) (f x v : ℕ) (P : ℕ → ℕ → ℕ → Bool) → length S ≡ site_bytes → general_links ≤ f → f < links → x < slots
    → ((l s t : ℕ) → (same l f && same s x) ≡ false → (site_of S).link l s t ≡ P l s t)
    → ((t : ℕ) → t < slots → (same v t && not (same t 0)) ≡ P f x t)
    → ((l s t : ℕ) → P l s t ≡ true → (l < links) × ((s < slots) × (t < slots)))
    → site_of (set S (target_at f x) v) ≡ links_for (site_of S) P
unfolding slots
target-put S f x v P len hg hf hx off on inside =
    let S' : List ℕ = set S (target_at f x) v in
    let other : (j : ℕ) → j ≢ target_at f x → get_or S' j 0 ≡ get_or S j 0 = λ j d. get_or-set_other S (target_at f x) j v 0 d in
    same_fields (record {
      present_same = present_kept S S' (λ j a b. other j (λ e. omega arith));
      marked_same = marked_kept S S' (λ j a b. other j (λ e. omega arith));
      place_same = place_kept S S' (λ j a b. other j (λ e. omega arith));
      link_same =
          links_are S' P
          (λ l s t hl hs ht.
          row_kept S S' (λ j a b. other j (λ e. omega arith)) l s t hl hs ht
          ∙ off l s t (no_true (λ p. let e = same_eq (and_l (same l f) (same s x) p) in omega arith)))
          (λ l s t lg ll hs ht.
          either
          (look (same l f && same s x))
          (λ p.
          let e = same_eq (and_l (same l f) (same s x) p) in
          let d = same_eq (and_r (same l f) (same s x) p) in
          let w : get_or S' (target_at l s) 0 ≡ v = ap₂ (λ (a b : ℕ). get_or S' (target_at a b) 0) e d ∙ get_or-set_same S (target_at f x) v 0 (omega arith) in
          ap (λ (z : ℕ). same z t && not (same t 0)) w ∙ on t ht ∙ ap₂ (λ (a b : ℕ). P a b t) (sym e) (sym d))
          (λ p.
          let w : get_or S' (target_at l s) 0 ≡ get_or S (target_at l s) 0 =
          other (target_at l s) (λ q. clash (and_in (let e : l ≡ f = omega arith in eq_same e) (let e : s ≡ x = omega arith in eq_same e)) p) in
          ap (λ (z : ℕ). same z t && not (same t 0)) w ∙ sym (target_is S l s t lg ll hs ht) ∙ off l s t p))
          inside;
    })

-- a link that can be added: its byte is 0 or y, and y is not 0
joined : (S : List ℕ) (f x y : ℕ) → general_links ≤ f → f < links → x < slots → get_or S (target_at f x) 0 < slots → joins (site_of S) f x y ≡ true
    → ((get_or S (target_at f x) 0 ≡ 0) ⊎ (get_or S (target_at f x) 0 ≡ y)) × (y ≢ 0)
unfolding joins
joined S f x y hg hf hx hb j =
    let u : ℕ = target (site_of S) f x in
    let b : u ≡ get_or S (target_at f x) 0 = target_byte S f x hg hf hx hb in
    let free : (not (functional f) || (same u 0 || same u y)) ≡ true = and_r (ends_on_site x y) _ j in (
      either
          (or_out (not (functional f)) _ free)
          (λ p. absurd (not_out (functional f) p (functional_in f hg hf)))
          (λ p. either (or_out (same u 0) (same u y) p) (λ q. inl (sym b ∙ same_eq q)) (λ q. inr (sym b ∙ same_eq q))),
      end_there x y (and_l _ _ j),
    )

module _ (S : List ℕ) (f x : ℕ) (len : length S ≡ site_bytes) (hg : general_links ≤ f) (hf : f < links) (hx : x < slots) where
  -- where the link leads from slot x, by its byte
  leads : (t : ℕ) → (site_of S).link f x t ≡ true → (get_or S (target_at f x) 0 ≡ t) × (not (same t 0) ≡ true)
  leads t p =
      let b = get_or S (target_at f x) 0 in
      let e : (same b t && not (same t 0)) ≡ true = sym (target_is S f x t hg hf hx (link_in S f x t p).1.1) ∙ p in
      (same_eq (and_l (same b t) _ e), and_r (same b t) _ e)

  -- the target becomes y, whatever it was
  pub target-set : (y : ℕ) → y ≢ 0 → y < slots → {S' : List ℕ} → S' ≡ set S (target_at f x) y → site_of S' ≡ with_target (site_of S) f x y
  unfolding with_target
  target-set y ne hy c =
      let N : ℕ → ℕ → ℕ → Bool = (site_of S).link in
      let here : (same f f && same x x) ≡ true = and_in (same_refl f) (same_refl x) in
      ap site_of c
      ∙ target-put S f x y (λ l s t. cond (same l f && same s x) (same t y) (N l s t)) len hg hf hx
      (λ l s t p. sym (cond_no (same t y) (N l s t) p))
      (λ t ht.
      both
      (λ p. cond_yes (same t y) (N f x t) here ∙ eq_same (sym (same_eq (and_l (same y t) _ p))))
      (λ p.
      let e : t ≡ y = same_eq (sym (cond_yes (same t y) (N f x t) here) ∙ p) in
      and_in (eq_same (sym e)) (not_in (λ q. ne (sym e ∙ same_eq q)))))
      (λ l s t p.
      either
      (look (same l f && same s x))
      (λ q.
      let a = same_eq (and_l (same l f) (same s x) q) in
      let b = same_eq (and_r (same l f) (same s x) q) in
      let e : t ≡ y = same_eq (sym (cond_yes (same t y) (N l s t) q) ∙ p) in
      (omega arith, (omega arith, omega arith)))
      (λ q. link_in S l s t (sym (cond_no (same t y) (N l s t) q) ∙ p)))

  pub target_taken : {S' : List ℕ} → S' ≡ set S (target_at f x) 0 → site_of S' ≡ without_target (site_of S) f x
  unfolding without_target
  target_taken c =
      let N : ℕ → ℕ → ℕ → Bool = (site_of S).link in
      ap site_of c
      ∙ target-put S f x 0 (λ l s t. cond (same l f) (N l s t && not (same s x)) (N l s t)) len hg hf hx
      (λ l s t p. cond_off takes takes_changes (N l s t) (same l f) (same s x) true p ∙ ap (λ (b : Bool). cond (same l f) (N l s t && not b) (N l s t)) (and-true (same s x)))
      (λ t ht. nil_none t ∙ sym (cond_yes (N f x t && not (same x x)) (N f x t) (same_refl f) ∙ ap (λ (b : Bool). N f x t && not b) (same_refl x) ∙ and-false (N f x t)))
      (λ l s t p. link_in S l s t (cond_was (N l s t) (same l f) _ p))

  -- the target is y, and goes
  pub link_taken : (y : ℕ) → get_or S (target_at f x) 0 ≡ y → {S' : List ℕ} → S' ≡ set S (target_at f x) 0 → site_of S' ≡ without_link (site_of S) f x y
  unfolding without_link
  link_taken y w c =
      let N : ℕ → ℕ → ℕ → Bool = (site_of S).link in
      ap site_of c
      ∙ target-put S f x 0 (λ l s t. cond (same l f) (N l s t && not (same s x && same t y)) (N l s t)) len hg hf hx
      (λ l s t p. cond_off takes takes_changes (N l s t) (same l f) (same s x) (same t y) p)
      (λ t ht. nil_none t ∙ sym (cond_yes (N f x t && not (same x x && same t y)) (N f x t) (same_refl f) ∙ ap (λ (b : Bool). N f x t && not (b && same t y)) (same_refl x) ∙ gone t ht))
      (λ l s t p. link_in S l s t (cond_was (N l s t) (same l f) _ p))
    where
      gone : (t : ℕ) → t < slots → ((site_of S).link f x t && not (same t y)) ≡ false
      gone t ht =
          no_true (λ p. not_out (same t y) (and_r ((site_of S).link f x t) _ p) (eq_same (sym (leads t (and_l ((site_of S).link f x t) _ p)).0 ∙ w)))

  -- the target is another, and stays
  pub link_other : (y : ℕ) → get_or S (target_at f x) 0 ≢ y → site_of S ≡ without_link (site_of S) f x y
  unfolding without_link
  link_other y w =
      same_fields (record {
        present_same = λ s. refl;
        marked_same = λ p s. refl;
        place_same = λ n. refl;
        link_same = λ l s t. both (stays l s t) (cond_was ((site_of S).link l s t) (same l f) (not (same s x && same t y)));
      })
    where
      stays : (l s t : ℕ) → (site_of S).link l s t ≡ true
          → cond (same l f) ((site_of S).link l s t && not (same s x && same t y)) ((site_of S).link l s t) ≡ true
      stays l s t p =
          either
          (look (same l f))
          (λ q.
          cond_yes ((site_of S).link l s t && not (same s x && same t y)) ((site_of S).link l s t) q
          ∙ and_in p (not_in (λ b.
          let d = same_eq (and_l (same s x) (same t y) b) in
          let e : (site_of S).link f x t ≡ true = ap₂ (λ (a b : ℕ). (site_of S).link a b t) (sym (same_eq q)) (sym d) ∙ p in
          w ((leads t e).0 ∙ same_eq (and_r (same s x) (same t y) b)))))
          (λ q. cond_no ((site_of S).link l s t && not (same s x && same t y)) ((site_of S).link l s t) q ∙ p)

  -- the target becomes nil where it is y
  pub link_unless : (y : ℕ) {v : ℕ} → v ≡ cond (same (get_or S (target_at f x) 0) y) 0 (get_or S (target_at f x) 0) → {S' : List ℕ} → S' ≡ set S (target_at f x) v
      → site_of S' ≡ without_link (site_of S) f x y
  link_unless y e c =
      let a : ℕ = target_at f x in
      let b : ℕ = get_or S a 0 in
      either
      (equal? b y)
      (λ q. link_taken y q (c ∙ ap (set S a) (e ∙ cond_yes 0 b (eq_same q))))
      (λ n. ap site_of (c ∙ ap (set S a) (e ∙ cond_no 0 b (ne_same n)) ∙ set-get_or S a 0) ∙ link_other y n)

  -- there is no target, or it is y: it becomes y
  pub link_put : (y : ℕ) → y < slots → get_or S (target_at f x) 0 < slots → joins (site_of S) f x y ≡ true
      → {S' : List ℕ} → S' ≡ set S (target_at f x) y → site_of S' ≡ with_link (site_of S) f x y
  unfolding with_target with_link
  link_put y hy hb j c =
      target-set y old.1 hy c
      ∙ same_fields (record {
        present_same = λ s. refl;
        marked_same = λ p s. refl;
        place_same = λ n. refl;
        link_same = λ l s t. alone_put ((site_of S).link l s t) (same l f) (same s x) (same t y) (only l s t);
      })
    where
      -- the byte is 0 or y, and y is not 0
      old : ((get_or S (target_at f x) 0 ≡ 0) ⊎ (get_or S (target_at f x) 0 ≡ y)) × (y ≢ 0)
      old = joined S f x y hg hf hx hb j

      only : (l s t : ℕ) → (same l f && same s x) ≡ true → (site_of S).link l s t ≡ true → same t y ≡ true
      only l s t q p =
          let e = same_eq (and_l (same l f) (same s x) q) in
          let d = same_eq (and_r (same l f) (same s x) q) in
          let w = leads t (ap₂ (λ (a b : ℕ). (site_of S).link a b t) (sym e) (sym d) ∙ p) in
          either old.0 (λ z. absurd (not_out (same t 0) w.1 (eq_same (sym w.0 ∙ z)))) (λ z. eq_same (sym w.0 ∙ z))

-- ---- a general link's row, lent whole

back_other : (S ys : List ℕ) (b k : ℕ) → b + k ≤ length S → length ys ≡ k → (a : ℕ) → (b ≤ a / 8 → a / 8 < b + k → ⊥) → has (back S ys b k) a ≡ has S a
unfolding has
back_other S ys b k fits l a h = ap (λ (x : ℕ). bit x (a % 8)) (go (dec_lt (a / 8) b))
  where
    go : Dec (a / 8 < b) → get_or (back S ys b k) (a / 8) 0 ≡ get_or S (a / 8) 0
    go (yes p) = back_below S ys b k fits l (a / 8) p
    go (no p) = back_above S ys b k fits l (a / 8) (above (dec_lt (a / 8) (b + k)))
      where
        above : Dec (a / 8 < b + k) → b + k ≤ a / 8
        above (yes q) = absurd (h (omega arith) q)
        above (no q) = omega arith

-- the targets of slot x by link m come back as ys, with no slot
pub row_cleared : (S ys : List ℕ) (m x k : ℕ) → length S ≡ site_bytes → m < general_links → x < slots → k ≡ set_bytes → length ys ≡ k → Is ys (λ t. false)
    → site_of (back S ys (row_at m x) k) ≡ without_target (site_of S) m x
unfolding without_target slots
row_cleared S ys m x k len hm hx hk ly none =
    same_fields (record {
      present_same = present_kept S S' (λ j a b. below j (omega arith));
      marked_same = marked_kept S S' (λ j a b. below j (omega arith));
      place_same = place_kept S S' (λ j a b. below j (omega arith));
      link_same =
          links_are S' (λ l s t. cond (same l m) (N l s t && not (same s x)) (N l s t))
          (λ l s t hl hs ht.
          either
          (look (same l m && same s x))
          (λ p.
          let e = same_eq (and_l (same l m) (same s x) p) in
          let d = same_eq (and_r (same l m) (same s x) p) in
          ap₂ (λ (a b : ℕ). has S' (row_at a b * 8 + t)) e d
          ∙ back-has S ys (row_at m x) k (omega arith) ly t (omega arith)
          ∙ none t (omega arith)
          ∙ sym (cond_yes (N l s t && not (same s x)) (N l s t) (and_l (same l m) (same s x) p)
          ∙ ap (λ (b : Bool). N l s t && not b) (and_r (same l m) (same s x) p)
          ∙ and-false (N l s t)))
          (λ p.
          outside (row_at l s * 8 + t) (λ h k. clash (and_in (let e : l ≡ m = omega arith in eq_same e) (let e : s ≡ x = omega arith in eq_same e)) p)
          ∙ sym (row_is S l s t hl hs ht)
          ∙ cond_off takes takes_changes (N l s t) (same l m) (same s x) true p
          ∙ ap (λ (b : Bool). cond (same l m) (N l s t && not b) (N l s t)) (and-true (same s x))))
          (λ l s t hg hl hs ht.
          target_kept S S' (λ j a b. below j (omega arith)) l s t hg hl hs ht
          ∙ sym (cond_no (N l s t && not (same s x)) (N l s t) (ne_same (λ e. omega arith))))
          (λ l s t p. link_in S l s t (cond_was (N l s t) (same l m) _ p));
    })
  where
    S' : List ℕ
    S' = back S ys (row_at m x) k

    N : ℕ → ℕ → ℕ → Bool
    N = (site_of S).link

    below : (j : ℕ) → j < row_at m x → get_or S' j 0 ≡ get_or S j 0
    below j h = back_below S ys (row_at m x) k (omega arith) ly j h

    outside : (a : ℕ) → (row_at m x ≤ a / 8 → a / 8 < row_at m x + k → ⊥) → has S' a ≡ has S a
    outside a h = back_other S ys (row_at m x) k (omega arith) ly a h

-- the k bytes from b on, the targets of slot x by link m, become zeros
pub row_zeroed : (S ys : List ℕ) (m x b k : ℕ) → length S ≡ site_bytes → m < general_links → x < slots → b ≡ row_at m x → k ≡ set_bytes → ys ≡ replicate k 0
    → site_of (back S ys b k) ≡ without_target (site_of S) m x
unfolding has
row_zeroed S ys m x b k len hm hx hb hk zeros =
    rw hb
    (row_cleared S ys m x k len hm hx hk (ap length zeros ∙ length-replicate {A = ℕ} k 0) (λ t h.
    rw zeros (ap (λ (v : ℕ). bit v (t % 8)) (get_or-replicate k (t / 8) 0 0 (omega (arith, hk))) ∙ bit-zero (t % 8))))
