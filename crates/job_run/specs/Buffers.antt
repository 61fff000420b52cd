-- The buffers that the caller of a job lends, and their stated lengths.
use Rattle.std.specs.Prelude.{◌≡◌, List, ℕ, length}
use Rattle.bitset.specs.Set.{set_bytes}
use Rattle.site.specs.Layout.{site_bytes}
use Rattle.limits.specs.Limits.{table_bytes}
use Rattle.listing.specs.Listed.{work_bytes}
use Rattle.classes_entry.specs.Refusal.{classes_bytes}

-- the results, which are the site after, the rewritten table, the lists on the site after and today and the class numbers; and the work
-- buffer
pub record Buffers : Type 0 where
  pub changed : List ℕ
  pub table : List ℕ
  pub after : List ℕ
  pub today : List ℕ
  pub classes : List ℕ
  pub work : List ℕ

abbrev pub buffers_of : (changed table after today classes work : List ℕ) → Buffers
buffers_of s t a d c w = record { changed = s; table = t; after = a; today = d; classes = c; work = w }

-- each of the six buffers has its stated length
pub record Sized (b : Buffers) : Type 0 where
  pub changed_size : length b.changed ≡ site_bytes
  pub table_size : length b.table ≡ table_bytes
  pub after_size : length b.after ≡ set_bytes
  pub today_size : length b.today ≡ set_bytes
  pub classes_size : length b.classes ≡ classes_bytes
  pub work_size : length b.work ≡ work_bytes
