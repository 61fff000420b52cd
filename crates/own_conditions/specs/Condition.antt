-- What the code's own conditions mean.
use Rattle.std.specs.Prelude as std
use Rattle.std.proofs.Math.Option.{Option, none, some}
use Rattle.limits.specs.Limits.{every_way}
use Rattle.semantics.specs.Table.{k_here, k_slot}
use Rattle.semantics.specs.Block.{Block, end, nm, no!, ◌&◌, ⟨◌⟩◌}
use Rattle.through.specs.Through.{neither_nil, free_or_there}
use Rattle.own_conditions.specs.declared.Condition.{Condition}
use Rattle.own_conditions.specs.declared.Condition.TheVariants.{Absent, NotNil, NeitherNil, FreeOrThere}

abbrev pub meaning : Condition → Block
meaning (Absent k) = no! (⟨ every_way ⟩ (end k_here 0 & end k_slot k))
meaning (NotNil n) = no! (⟨ every_way ⟩ (nm n & nm 0))
meaning (NeitherNil n1 n2) = neither_nil n1 n2
meaning (FreeOrThere m n1 n2) = neither_nil n1 n2 & free_or_there m n1 n2

abbrev pub meanings : std.Option Condition → Option Block
meanings std.None = none
meanings (std.Some c) = some (meaning c)
