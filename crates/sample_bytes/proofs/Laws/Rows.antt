-- A row that passes a test has pieces that can be written: the checker computes it.
use Rattle.std.specs.Prelude.{◌≡◌, refl, List, [], ◌∷◌, Bool, true, ◌&&◌, ◌||◌, ℕ, zero, suc, ◌≤◌, length}
use Rattle.std.proofs.Common.{sym, subst, arith}
use Rattle.finite.specs.Bytes.{Bytes}
use Rattle.finite.specs.Tests.{same, below}
use Rattle.finite.proofs.Laws.Bools.{either, look, and_l, and_r}
use Rattle.finite.proofs.Laws.Below.{same_eq, below_out}
use Rattle.limits.specs.Limits.{labels, names, links, table_nodes}
use Rattle.semantics.specs.Edit.{Edit, functional}
use Rattle.editions.specs.Edition.{second}
use Rattle.samples.specs.Site.{each, Small, name_at, model, site_a, ring, stranded, names_together, crowded}
use Rattle.samples.specs.Rows.{Expected, lists, stuck_at, odd_at, Row, table_r, table_name, table_reverse, table_loop, table_label, table_some, rows}
use Rattle.samples.proofs.Laws.Site.{some-each}
use Rattle.condition.specs.Bytes as condition
use Rattle.sheet.specs.Bytes as sheet
use Rattle.sample_bytes.specs.Said.{table_in, sheet_in}
use Rattle.sample_bytes.proofs.Laws.Write.{InRange}

-- ---- the tests

-- a small site names labels, names and links that there are
unfoldable pub in_range : Small → Bool
in_range a =
    each (λ x. below x.0 labels) a.labels_on
    && (each (λ x. below x.0 names) a.names_at && each (λ x. below x.0 links) a.links_of)

unfoldable pub bytes : List ℕ → Bool
bytes = each (λ b. below b 256)

-- the table that is expected fits its buffer
unfoldable pub expected_fits : Expected → Bool
expected_fits (lists S c k a t) = below k (suc table_nodes)
expected_fits (stuck_at w) = true
expected_fits (odd_at w) = true

-- edition 1 or 2 has the edits
unfoldable pub some_edition : List Edit → Bool
some_edition es = sheet.all_in_edition 1 es || sheet.all_in_edition second es

unfoldable pub row_fits : Row → Bool
row_fits r =
    (in_range r.site && (bytes (table_in r) && bytes (sheet_in r)))
    && ((below (length r.table) (suc table_nodes) && below (length r.edits) 65) && (expected_fits r.expected && some_edition r.edits))

pub rows_fit : each row_fits rows ≡ true
unfolding each row_fits in_range bytes expected_fits some_edition below same functional rows site_a ring stranded names_together crowded table_r table_name table_reverse table_loop table_label table_some condition.bytes_of condition.node_bytes sheet.bytes_of sheet.edit_bytes sheet.in_edition sheet.all_in_edition
rows_fit = refl

-- ---- what they say

unnamed : (xs : List (ℕ × ℕ)) → each (λ x. below x.0 names) xs ≡ true → (n : ℕ) → names ≤ n → name_at xs n ≡ 0
unfolding each name_at
unnamed [] q n h = refl
unnamed (x ∷ xs) q n h =
    either
    (look (same n x.0))
    (λ e. let l = below_out x.0 names (and_l _ _ q) in let d = same_eq {m = n} {n = x.0} e in absurd (omega arith))
    (λ e. rw e (unnamed xs (and_r (below x.0 names) _ q) n h))

pub range_out : (a : Small) → in_range a ≡ true → InRange (model a)
unfolding in_range model
range_out a ok =
    let rest = and_r (each (λ x. below x.0 labels) a.labels_on) _ ok in
    record {
      labels_few = λ p s h.
          let r = some-each _ (λ x. below x.0 labels) a.labels_on h (and_l _ _ ok) in
          below_out p labels (subst (λ q. below q labels ≡ true) (sym (same_eq (and_l _ _ r.1))) r.2);
      names_few = λ n h. unnamed a.names_at (and_l _ _ rest) n h;
      links_few = λ m s t h.
          let r = some-each _ (λ x. below x.0 links) a.links_of h (and_r (each (λ x. below x.0 names) a.names_at) _ rest) in
          below_out m links (subst (λ q. below q links ≡ true) (sym (same_eq (and_l _ _ r.1))) r.2);
    }

pub bytes_out : (xs : List ℕ) → bytes xs ≡ true → Bytes xs
unfolding bytes each
bytes_out [] p i = omega arith
bytes_out (x ∷ xs) p zero = below_out x 256 (and_l _ _ p)
bytes_out (x ∷ xs) p (suc i) = bytes_out xs (and_r (below x 256) _ p) i

pub record Fits (r : Row) : Type 0 where
  pub range : InRange (model r.site)
  pub table_is_bytes : Bytes (table_in r)
  pub sheet_is_bytes : Bytes (sheet_in r)
  pub few_nodes : length r.table ≤ table_nodes
  pub few_edits : length r.edits ≤ 64
  pub as_expected : expected_fits r.expected ≡ true
  pub has_edition : some_edition r.edits ≡ true

pub fits_out : (r : Row) → row_fits r ≡ true → Fits r
unfolding row_fits
fits_out r p =
    let a = and_l _ _ p in
    let b = and_r (in_range r.site && (bytes (table_in r) && bytes (sheet_in r))) _ p in
    let c = and_r (in_range r.site) _ a in
    let e = and_r (below (length r.table) (suc table_nodes) && below (length r.edits) 65) _ b in
    let n = below_out (length r.table) (suc table_nodes) (and_l _ _ (and_l _ _ b)) in
    let m = below_out (length r.edits) 65 (and_r (below (length r.table) (suc table_nodes)) _ (and_l _ _ b)) in
    record {
      range = range_out r.site (and_l _ _ a);
      table_is_bytes = bytes_out (table_in r) (and_l _ _ c);
      sheet_is_bytes = bytes_out (sheet_in r) (and_r (bytes (table_in r)) _ c);
      few_nodes = omega arith;
      few_edits = omega arith;
      as_expected = and_l _ _ e;
      has_edition = and_r (expected_fits r.expected) _ e;
    }
