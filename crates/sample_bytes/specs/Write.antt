-- The bytes of a site, written from its model. docs/SPEC.md, "The site".
use Rattle.std.specs.Prelude.{List, [], ◌∷◌, Bool, cond, ℕ, zero, suc, ◌+◌, ◌-◌, ◌*◌, ◌/◌, ◌%◌}
use Rattle.finite.specs.Tests.{below}
use Rattle.bitset.specs.Set.{set_bytes, set_slots}
use Rattle.semantics.specs.Holds.{Set, Model}
use Rattle.semantics.specs.Edit.{target}
use Rattle.limits.specs.Limits.{general_links}
use Rattle.site.specs.Layout.{labels_at, names_at, targets_at, rows_at, rows_bytes, site_bytes}

-- the list of f 0, f 1, .., f (n - 1)
unfoldable pub up_to : ℕ → (ℕ → ℕ) → List ℕ
up_to zero f = []
up_to (suc n) f = f 0 ∷ up_to n (λ k. f (suc k))

-- the number with the binary digits f 0, f 1, .., f (n - 1)
unfoldable pub number : ℕ → (ℕ → Bool) → ℕ
number zero f = 0
number (suc n) f = cond (f 0) 1 0 + 2 * number n (λ k. f (suc k))

-- byte j of a set
abbrev pub set_byte : Set → ℕ → ℕ
set_byte P j = number 8 (λ k. P (j * 8 + k))

-- byte j of a site, by the part that it stands in: the present slots, labels, names, functional links, general links
unfoldable pub byte_at : Model → ℕ → ℕ
byte_at M j =
    cond (below j labels_at) (set_byte M.present j)
    (cond (below j names_at) (set_byte (M.marked ((j - labels_at) / set_bytes)) ((j - labels_at) % set_bytes))
    (cond (below j targets_at) (M.place (j - names_at))
    (cond (below j rows_at) (target M (general_links + (j - targets_at) / set_slots) ((j - targets_at) % set_slots))
    (set_byte (M.link ((j - rows_at) / rows_bytes) ((j - rows_at) % rows_bytes / set_bytes)) ((j - rows_at) % set_bytes)))))

unfoldable pub bytes_of : Model → List ℕ
bytes_of M = up_to site_bytes (byte_at M)
