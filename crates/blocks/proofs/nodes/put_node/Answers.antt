-- One node written: its six bytes.
use Rattle.std.proofs.Common.{◌∙◌, arith, refl}
use Rattle.std.proofs.lemmas.Slice.{put_mid-paste}
use Rattle.condition.specs.Bytes.{node_bytes}
use Rattle.blocks.specs.Node.{meant}
use Rattle.blocks.proofs.Laws.Write.{paste-node}
use Rattle.blocks.proofs.nodes.put_node.Goals as goal

pub returns : goal.returns
unfolding node_bytes
returns c =
    put_mid-paste _ _ _ _ (node_bytes (meant c.args.node)) 6 (c.copy_from_slice.ensures.after ∙ c.to_bytes.ensures) (omega arith) refl
    ∙ paste-node c.args.out.now c.args.i (meant c.args.node) c.requires
