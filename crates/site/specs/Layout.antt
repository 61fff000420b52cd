-- Where the parts of a site stand among its bytes: docs/SPEC.md, "The site". The code has the same constants.
use Rattle.std.specs.Prelude.{ℕ, ◌+◌, ◌-◌, ◌*◌}
use Rattle.bitset.specs.Set.{set_bytes, set_slots}
use Rattle.limits.specs.Limits.{labels, names, links, general_links}

abbrev pub functional_links : ℕ
functional_links = links - general_links

-- in order: the present slots, a set for each label, a byte for each name, 256 bytes for each functional link, 256 sets for each
-- general one
abbrev pub labels_at : ℕ
labels_at = set_bytes

abbrev pub names_at : ℕ
names_at = labels_at + set_bytes * labels

abbrev pub targets_at : ℕ
targets_at = names_at + names

abbrev pub rows_at : ℕ
rows_at = targets_at + set_slots * functional_links

abbrev pub rows_bytes : ℕ
rows_bytes = set_bytes * set_slots

abbrev pub site_bytes : ℕ
site_bytes = rows_at + rows_bytes * general_links

-- the byte where label p's set starts; the byte of name n; of slot s's target by link f (4 to 7); and where the set of slot s's
-- targets by link m (0 to 3) starts
abbrev pub label_at : ℕ → ℕ
label_at p = labels_at + set_bytes * p

abbrev pub name_at : ℕ → ℕ
name_at n = names_at + n

abbrev pub target_at : ℕ → ℕ → ℕ
target_at f s = targets_at + set_slots * (f - general_links) + s

abbrev pub row_at : ℕ → ℕ → ℕ
row_at m s = rows_at + rows_bytes * m + set_bytes * s
