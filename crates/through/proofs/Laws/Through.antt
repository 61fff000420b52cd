-- The table of a sheet lists every slot when the sheet goes through and no slot when it doesn't; and listing accepts it.
use Rattle.std.specs.Prelude.{◌≡◌, refl, ◌↔◌, List, [], ◌∷◌, Bool, ℕ, ◌<◌, length, true, false, ◌||◌}
use Rattle.std.proofs.Common.{◌∙◌, arith, ap, ap₂}
use Rattle.std.proofs.Math.Option.{Option, none, some}
use mathlib.Core.Logic.Iff
use Rattle.finite.specs.Tests.{same, below, all}
use Rattle.finite.proofs.Laws.Bools.{clash, and_in, and_l, and_r}
use Rattle.finite.proofs.Laws.Below.{all_in}
use Rattle.limits.specs.Limits.{slots, variables}
use Rattle.semantics.specs.Form.{occ, free, closed, even}
use Rattle.semantics.specs.Holds.{Env, Model, Holds}
use Rattle.semantics.specs.Edit.{Edit, edit, legal, goes, Valid, sheet_legal, sheet_goes}
use Rattle.semantics.specs.Table.{kind_no, kind_of, Node, atom, build, tree, trees, tree_at, form_of, leaf_fits, kind_fits, node_fits, nodes_fit, even_table}
use Rattle.semantics.specs.Block.{Block, emit, passed, rewrite_table}
use Rattle.semantics.proofs.Laws.Edits.{goes_out, edit_valid}
use Rattle.semantics.proofs.Laws.Rewrite.{table_fits, table_some_lem, table_evens, table_image}
use Rattle.through.specs.Through.{own, behind, through_edit, one_true, through}
use Rattle.through.proofs.Laws.Own.{Right, own_right}
use Rattle.through.proofs.Laws.Behind.{behind-none, behind-length, behind_fits, behind-even, behind_form}

-- the table xs is right for the sheet es: it meets none of items 8 to 10, and holds, at each slot, exactly if the sheet goes through
pub record Tells (es : List Edit) (xs : List Node) : Type 0 where
  pub nonempty : 0 < length xs
  pub fits : nodes_fit 0 xs ≡ true
  pub even_rule : even_table xs ≡ true
  pub no_variable : (b : Bool) (v : ℕ) → occ b v (form_of xs) ≡ false
  pub says : (M : Model) → Valid M → (ρ : Env) (s : ℕ) → s < slots → Holds M ρ (form_of xs) s ↔ (sheet_goes es M ≡ true)

-- no edit: the one node true
pub none_tells : Tells [] one_true
unfolding emit kind_no kind_of atom build tree trees tree_at form_of same below all leaf_fits kind_fits node_fits nodes_fit even even_table occ Holds sheet_goes
none_tells = record {
  nonempty = omega arith;
  fits = refl;
  even_rule = refl;
  no_variable = λ b v. refl;
  says = λ M v ρ s k. (λ _. refl, λ _. tt);
}

-- a condition that is right for an edit can be put behind any table
put_fits : (e : Edit) (o : Option Block) → Right e o → (ys : List Node) → 0 < length ys → nodes_fit 0 ys ≡ true → nodes_fit 0 (behind ys o) ≡ true
unfolding Right
put_fits e none c ys h f = rw (behind-none ys) f
put_fits e (some B) c ys h f = behind_fits ys h B c.fits f

pub edit_fits_lem : (e : Edit) → legal e ≡ true → (xs : List Node) → 0 < length xs → nodes_fit 0 xs ≡ true → nodes_fit 0 (through_edit e xs) ≡ true
unfolding through_edit
edit_fits_lem e l xs h f = put_fits e (own e) (own_right e l) (rewrite_table e xs) (table_some_lem e l xs f h) (table_fits e l xs f)

-- one edit before a sheet: the table is rewritten through it, and its own condition put behind
module _ (e : Edit) (es : List Edit) (l : legal e ≡ true) (xs : List Node) (r : Tells es xs) where
  abbrev ys : List Node
  ys = rewrite_table e xs

  -- on a site where the edit goes through, the rewritten table says whether the others do
  rest_says : (M : Model) → Valid M → goes e M ≡ true → (ρ : Env) (s : ℕ) → s < slots → Holds M ρ (form_of ys) s ↔ (sheet_goes es (edit e M) ≡ true)
  rest_says M v g ρ s k =
      Iff.trans
      (Iff.symm ((table_image e l xs r.fits r.nonempty).says M v (goes_out M v e g) ρ s k))
      (r.says (edit e M) (edit_valid e l M v g) ρ s k)

  ys-variables : (b : Bool) (v : ℕ) → occ b v (form_of ys) ≡ false
  ys-variables b v = (table_image e l xs r.fits r.nonempty).occurs b v ∙ r.no_variable b v

  ys-some : 0 < length ys
  ys-some = table_some_lem e l xs r.fits r.nonempty

  put_tells : (o : Option Block) → Right e o → Tells (e ∷ es) (behind ys o)
  unfolding Right sheet_goes occ Holds
  put_tells none c = rw (behind-none ys) (record {
    nonempty = ys-some;
    fits = table_fits e l xs r.fits;
    even_rule = table_evens e l xs r.fits r.even_rule;
    no_variable = ys-variables;
    says = λ M v ρ s k.
        let rest = rest_says M v (c M) ρ s k in
        (λ p. and_in (c M) (rest.0 p), λ p. rest.1 (and_r (goes e M) _ p));
  })
  put_tells (some B) c = record {
    nonempty = omega (arith, ys-some, behind-length ys ys-some B c.fits);
    fits = put_fits e (some B) c ys ys-some (table_fits e l xs r.fits);
    even_rule = behind-even ys ys-some B c.fits (table_evens e l xs r.fits r.even_rule) (c.evens _);
    no_variable = λ b v. ap (occ b v) (behind_form ys ys-some B c.fits) ∙ ap₂ ◌||◌ (ys-variables b v) (c.no_variable _ b v);
    says = λ M v ρ s k. rw (behind_form ys ys-some B c.fits) (
      λ p. let g = (c.says _ M v ρ s).1 p.1 in and_in g ((rest_says M v g ρ s k).0 p.0),
      λ p. let g = and_l (goes e M) _ p in ((rest_says M v g ρ s k).1 (and_r (goes e M) _ p), (c.says _ M v ρ s).0 g),
    );
  }

  step_tells : Tells (e ∷ es) (through_edit e xs)
  unfolding through_edit
  step_tells = put_tells (own e) (own_right e l)

through_tells : (es : List Edit) → sheet_legal es ≡ true → Tells es (through es)
unfolding passed sheet_legal
through_tells [] l = none_tells
through_tells (e ∷ es) l = step_tells e es (and_l _ _ l) (through es) (through_tells es (and_r (legal e) _ l))

-- for every valid site the table lists a slot exactly if the sheet goes through
pub through_says : (es : List Edit) → sheet_legal es ≡ true → (M : Model) → Valid M → (ρ : Env) (s : ℕ) → s < slots
    → Holds M ρ (form_of (through es)) s ↔ (sheet_goes es M ≡ true)
through_says es l = (through_tells es l).says

-- so it lists every slot when the sheet goes through, and no slot when it doesn't
pub through_every : (es : List Edit) → sheet_legal es ≡ true → (M : Model) → Valid M → sheet_goes es M ≡ true
    → (ρ : Env) (s : ℕ) → s < slots → Holds M ρ (form_of (through es)) s
through_every es l M v g ρ s k = (through_says es l M v ρ s k).1 g

pub through-none : (es : List Edit) → sheet_legal es ≡ true → (M : Model) → Valid M → sheet_goes es M ≡ false
    → (ρ : Env) (s : ℕ) → s < slots → ¬ Holds M ρ (form_of (through es)) s
through-none es l M v g ρ s k p = clash ((through_says es l M v ρ s k).0 p) g

-- the table meets none of items 8, 9 and 10: listing accepts it
module _ (es : List Edit) (l : sheet_legal es ≡ true) where
  pub through-some : 0 < length (through es)
  through-some = (through_tells es l).nonempty

  pub through_fits : nodes_fit 0 (through es) ≡ true
  through_fits = (through_tells es l).fits

  pub through-even : even_table (through es) ≡ true
  through-even = (through_tells es l).even_rule

  pub through-closed : closed (form_of (through es)) ≡ true
  unfolding closed free
  through-closed =
      let n = (through_tells es l).no_variable in
      all_in variables _ (λ v _. rw (n true v, n false v))
