-- The limits of the format and the numbers of its kinds of node: docs/SPEC.md, "The site" and "The condition". The code has the same
-- constants.
use Rattle.std.specs.Prelude.{ℕ, suc, ◌*◌}

-- how many slots there are. Shut, so that nothing counts to it: `unfolding slots` makes it 256
unfoldable pub slots : ℕ
slots = 256

-- how many labels, names, links and variables there are
abbrev pub labels : ℕ
labels = 16

abbrev pub names : ℕ
names = 48

abbrev pub links : ℕ
links = 8

abbrev pub variables : ℕ
variables = 16

-- links 0 to 3 are general, with any number of targets; the others are functional, with one at most
abbrev pub general_links : ℕ
general_links = 4

-- the number of the way that leads everywhere, E: the ways before it are the links and their reverses
abbrev pub every_way : ℕ
every_way = 2 * links

-- the most nodes of a table; the bytes of a node, and of a whole table
abbrev pub table_nodes : ℕ
table_nodes = 2048

abbrev pub node_size : ℕ
node_size = 6

abbrev pub table_bytes : ℕ
table_bytes = node_size * table_nodes

-- the highest limit on rounds that listing and the job take
abbrev pub highest_limit : ℕ
highest_limit = 1000000

-- the kinds of node. Those up to the variable have no child, nor does the slot; `or` and `and` have two, and the others one
abbrev pub true_no : ℕ
true_no = 0

abbrev pub here_no : ℕ
here_no = 1

abbrev pub label_no : ℕ
label_no = 2

abbrev pub name_no : ℕ
name_no = 3

abbrev pub var_no : ℕ
var_no = 4

abbrev pub not_no : ℕ
not_no = 5

abbrev pub or_no : ℕ
or_no = 6

abbrev pub and_no : ℕ
and_no = 7

abbrev pub dia_no : ℕ
dia_no = 8

abbrev pub box_no : ℕ
box_no = 9

abbrev pub mu_no : ℕ
mu_no = 10

abbrev pub nu_no : ℕ
nu_no = 11

abbrev pub slot_no : ℕ
slot_no = 12

-- how many kinds there are
abbrev pub kinds : ℕ
kinds = suc slot_no
