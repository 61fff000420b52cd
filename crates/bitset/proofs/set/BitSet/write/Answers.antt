use Rattle.std.proofs.Common.{refl, ◌∙◌, ap, ap₂, ◌*◌, ◌++◌, arith, List, ℕ, append-nil}
use Rattle.std.proofs.lemmas.List.{take_all, drop_all}
use Rattle.bitset.specs.Words.{bytes_of}
use Rattle.bitset.proofs.Laws.Sets.{write_more}
use Rattle.bitset.proofs.set.BitSet.write.Goals as goal

pub loop-k-init : goal.loop-k-init
unfolding bytes_of
loop-k-init g c = refl

pub loop-k-preserved : goal.loop-k-preserved
loop-k-preserved g c =
    write_more c.self.inside.words c.args.part.now _ _ c.loop-k.k _ (omega (arith, c.self.invariant.size)) refl (omega (arith, c.self.invariant.size, c.requires))
    c.loop-k.invariant c.put.ensures

pub returns : goal.returns
returns g c =
    c.loop-k.invariant
    ∙ ap₂ (λ (x y : List ℕ). x ++ y) (ap bytes_of (take_all c.loop-k.k c.self.inside.words (omega (arith, c.self.invariant.size)))) (drop_all (8 * c.loop-k.k) c.args.part.now (omega (arith, c.requires)))
    ∙ append-nil _
    ∙ c.self.view_is
