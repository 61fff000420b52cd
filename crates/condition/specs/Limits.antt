-- Item 8 as bounds on a node's fields: a field that a kind does not use has the one value 0.
use Rattle.std.specs.Prelude.{cond, ℕ, suc, ltb}
use Rattle.limits.specs.Limits.{labels, names, variables, every_way}
use Rattle.semantics.specs.Table.{k_true, k_here, k_label, k_name, k_var, k_slot, k_not, k_dia, k_box, k_mu, k_nu, Kind, leaf, unary, binary}

-- the parameter is below this number
unfoldable pub param_limit : Kind → ℕ
param_limit (leaf k_true) = 1
param_limit (leaf k_here) = 1
param_limit (leaf k_label) = labels
param_limit (leaf k_name) = names
param_limit (leaf k_var) = variables
param_limit (leaf k_slot) = 256
param_limit (unary k_not) = 1
param_limit (unary k_dia) = suc every_way
param_limit (unary k_box) = suc every_way
param_limit (unary k_mu) = variables
param_limit (unary k_nu) = variables
param_limit (binary k) = 1

-- and a field that is a child of node i for the kinds from lo to below hi, and not used by the others, is below this
abbrev pub child_limit : ℕ → ℕ → ℕ → ℕ → ℕ
child_limit lo hi k i = cond (ltb k lo) 1 (cond (ltb k hi) i 1)
