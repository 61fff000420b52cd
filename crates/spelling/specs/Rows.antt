-- The blocks of nodes. A node is copied, or its block is that of a row, with gaps for numbers: the old node's parameter w; the two numbers a and b of
-- the edit; v, the reverse of the way b; and e, the way that leads everywhere. T and U are the images of the old node's children.
use Rattle.std.specs.Prelude.{ℕ}
use Rattle.semantics.specs.Table.{k_true, k_label, k_here, k_slot, k_not, k_dia, k_box, k_mu, k_nu, Kind, leaf, unary, binary}
use Rattle.semantics.specs.Block.{Block, end, on, join, nm, no!, ◌&◌, ◌or◌, ⟨◌⟩◌, ⟦◌⟧◌}
use Rattle.spelling.specs.declared.Row.{Row}
use Rattle.spelling.specs.declared.Row.TheVariants.{Cn1Name, AsName, Cn2Name, ApLabel, DpLabel, AsHere, DsHere, DsName, AtDiamond, AtBox, Dt1Diamond, Dt1Box, Dt2Diamond, Dt2Box, Dt2DiamondBack, Dt2BoxBack, DsDiamond, DsBox, RtDiamond, RtBox, RtDiamondBack, RtBoxBack}

-- a node is copied
unfoldable pub copied : Kind → (w : ℕ) (T U : Block) → Block
copied (leaf k) w T U = end k w
copied (unary k_not) w T U = no! T
copied (unary k_dia) w T U = ⟨ w ⟩ T
copied (unary k_box) w T U = ⟦ w ⟧ T
copied (unary k_mu) w T U = on k_mu w T
copied (unary k_nu) w T U = on k_nu w T
copied (binary k) w T U = join k T U

-- the block of a row. A row of a diamond or a box along a link is also that of one against it, with a and b exchanged, unless that one has a row of its own
unfoldable pub row_block : Row → (w a b v e : ℕ) (T : Block) → Block
row_block Cn1Name w a b v e T = nm a
row_block AsName w a b v e T = end k_slot a
row_block Cn2Name w a b v e T = (⟨ v ⟩ nm a) or (nm 0 & no! (⟨ e ⟩ (nm a & (⟨ b ⟩ end k_true 0))))
row_block ApLabel w a b v e T = end k_label w or (nm a & no! (nm 0))
row_block DpLabel w a b v e T = end k_label w & no! (nm a)
row_block AsHere w a b v e T = end k_here w or end k_slot a
row_block DsHere w a b v e T = end k_here w & no! (nm a)
row_block DsName w a b v e T = (nm w & no! (nm a)) or (nm 0 & (⟨ e ⟩ (nm a & nm w)))
row_block AtDiamond w a b v e T = (⟨ w ⟩ T) or (nm a & (⟨ e ⟩ (nm b & T)))
row_block AtBox w a b v e T = (⟦ w ⟧ T) & (no! (nm a) or (⟦ e ⟧ (no! (nm b) or T)))
row_block Dt1Diamond w a b v e T = (no! (nm a) & (⟨ w ⟩ T)) or (⟨ w ⟩ (no! (nm b) & T))
row_block Dt1Box w a b v e T = (nm a or (⟦ w ⟧ T)) & (⟦ w ⟧ (nm b or T))
row_block Dt2Diamond w a b v e T = no! (nm a) & (⟨ w ⟩ T)
row_block Dt2Box w a b v e T = nm a or (⟦ w ⟧ T)
row_block Dt2DiamondBack w a b v e T = ⟨ w ⟩ (no! (nm a) & T)
row_block Dt2BoxBack w a b v e T = ⟦ w ⟧ (nm a or T)
row_block DsDiamond w a b v e T = no! (nm a) & (⟨ w ⟩ (no! (nm a) & T))
row_block DsBox w a b v e T = nm a or (⟦ w ⟧ (nm a or T))
row_block RtDiamond w a b v e T = (no! (nm a) & (⟨ w ⟩ T)) or (nm a & (⟨ e ⟩ (nm b & T)))
row_block RtBox w a b v e T = (nm a or (⟦ w ⟧ T)) & (no! (nm a) or (⟦ e ⟧ (no! (nm b) or T)))
row_block RtDiamondBack w a b v e T = (⟨ w ⟩ (no! (nm a) & T)) or (nm b & (⟨ e ⟩ (nm a & T)))
row_block RtBoxBack w a b v e T = (⟦ w ⟧ (nm a or T)) & (no! (nm b) or (⟦ e ⟧ (no! (nm a) or T)))
