-- The table of going through has no loop, so listing it makes no round: no limit refuses it.
use Rattle.std.specs.Prelude.{◌≡◌, refl, List, true, ℕ}
use Rattle.finite.proofs.Laws.Bools.{either, look}
use Rattle.semantics.specs.Holds.{Env, Model}
use Rattle.semantics.specs.Edit.{Edit, CN1, CN2, AP, DP, AT, RT, DT1, DT2, AS, DS, functional}
use Rattle.semantics.specs.Table.{Node, form_of}
use Rattle.semantics.specs.Block.{rewrite_table}
use Rattle.rounds.specs.Makes.{Makes}
use Rattle.rounds.proofs.Laws.Loopless.{no_loop, loopless, loopless-makes, loopless_append, loopless_block, emit-loopless, rewrite-loopless, passed-loopless}
use Rattle.through.specs.Through.{own, closing, behind, through_edit, through}

-- an edit's own condition and the closing "and" have none
own-loopless : (e : Edit) (n : ℕ) → loopless (closing n (own e)) ≡ true
unfolding own closing loopless loopless_block no_loop
own-loopless (CN1 n1 n2) n = refl
own-loopless (CN2 n1 n2 f) n = refl
own-loopless (AP y p) n = refl
own-loopless (DP y p) n = refl
own-loopless (AT m n1 n2) n = either (look (functional m)) (λ f. rw f (emit-loopless _ n refl)) (λ f. rw f (emit-loopless _ n refl))
own-loopless (RT f n1 n2) n = emit-loopless _ n refl
own-loopless (DT1 m n1 n2) n = refl
own-loopless (DT2 f y) n = refl
own-loopless (AS y k) n = emit-loopless _ n refl
own-loopless (DS y) n = emit-loopless _ n refl

edit-loopless : (e : Edit) (xs : List Node) → loopless xs ≡ true → loopless (through_edit e xs) ≡ true
unfolding through_edit behind
edit-loopless e xs p = loopless_append (rewrite_table e xs) _ (rewrite-loopless e xs p) (own-loopless e _)

pub through-loopless : (es : List Edit) → loopless (through es) ≡ true
unfolding loopless_block
through-loopless es = passed-loopless through_edit edit-loopless es _ (emit-loopless _ 0 refl)

-- for every sheet, legal or not
pub through-makes : (es : List Edit) (M : Model) (ρ : Env) → Makes M ρ (form_of (through es)) 0
through-makes es = loopless-makes (through es) (through-loopless es)
