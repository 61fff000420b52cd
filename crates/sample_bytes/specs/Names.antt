-- Names 0 to 47, over bytes. The numbers are written out here as docs/SPEC.md has them; elsewhere they follow from the limits.
use Rattle.std.specs.Prelude.{◌≡◌, true, false, List, [], ◌∷◌, ℕ, ◌+◌, ◌≤◌, ◌<◌, length, get_or, Err}
use Rattle.finite.specs.Tests.{same, below}
use Rattle.bitset.specs.Set.{Is}
use Rattle.limits.specs.Limits.{slots}
use Rattle.verdict.specs.Verdict.{Accepted}
use Rattle.verdict.specs.declared.Refusal.TheVariants.{MalformedNode, MalformedEdit}
use Rattle.semantics.specs.Holds.{Env, Distinguishes}
use Rattle.semantics.specs.Table.{form_of}
use Rattle.semantics.specs.Edit.{Edit, CN1, CN2, AP, DP, AT, RT, DT1, DT2, AS, DS}
use Rattle.semantics.specs.Block.{rewrite_sheet}
use Rattle.samples.specs.Site.{each}
use Rattle.samples.specs.Rows.{table_name}
use Rattle.site.specs.Layout.{targets_at, rows_at, site_bytes}
use Rattle.site.specs.Site.{site_of}
use Rattle.site.specs.Refusal.{site_verdict}
use Rattle.condition.specs.Bytes as condition
use Rattle.condition.specs.Refusal.{condition_verdict}
use Rattle.sheet.specs.Bytes as sheet
use Rattle.sheet.specs.Bytes.{edits_of, in_edition}
use Rattle.sheet.specs.Refusal.{sheet_verdict}
use Rattle.demands.specs.Demands.{ApplyCall, RewriteCall, ListCall, ClassCall, rewritten_table, Going, Runnable}
use Rattle.sample_bytes.specs.Refused.{SiteRefused}

-- the operands of an edit that are names
unfoldable pub names_of : Edit → List ℕ
names_of (CN1 n1 n2) = n1 ∷ n2 ∷ []
names_of (CN2 n1 n2 f) = n1 ∷ n2 ∷ []
names_of (AP n p) = n ∷ []
names_of (DP n p) = n ∷ []
names_of (AT m n1 n2) = n1 ∷ n2 ∷ []
names_of (RT f n1 n2) = n1 ∷ n2 ∷ []
names_of (DT1 m n1 n2) = n1 ∷ n2 ∷ []
names_of (DT2 f n) = n ∷ []
names_of (AS n k) = n ∷ []
names_of (DS n) = n ∷ []

-- name n in each of them
unfoldable pub every_operand : ℕ → List Edit
every_operand n =
    CN1 n n ∷ CN2 n n 4 ∷ AP n 0 ∷ DP n 0 ∷ AT 0 n n ∷ RT 4 n n ∷ DT1 0 n n ∷ DT2 4 n ∷ AS n 0 ∷ DS n ∷ []

-- the bytes of the condition "name n"
abbrev pub name_bytes : ℕ → List ℕ
name_bytes n = condition.bytes_of (table_name n)

pub record Names : Type 0 where
  -- where names are read, where links 4 to 7 and links 0 to 3 start, and where the site ends
  pub names_at : (S : List ℕ) (n : ℕ) → n < 48 → (site_of S).place n ≡ get_or S (544 + n) 0
  pub targets_at_is : targets_at ≡ 592
  pub rows_at_is : rows_at ≡ 1616
  pub site_length : site_bytes ≡ 34384
  -- 34,352 bytes were a site when there were 16 names
  pub old_site : (site : List ℕ) → length site ≡ 34352 → SiteRefused site 3
  -- a condition names 0 to 47, and an edit does; name 0 may not be moved, and is in no operand here
  pub node_accepted : (n : ℕ) → n < 48 → condition_verdict (name_bytes n) ≡ Accepted
  pub node_refused : (n : ℕ) → 48 ≤ n → condition_verdict (name_bytes n) ≡ Err (MalformedNode 0)
  pub edits_accepted : (n : ℕ) → 0 < n → n < 48 → sheet_verdict (sheet.bytes_of (every_operand n)) ≡ Accepted
  pub edit_refused : (edition : ℕ) (e : Edit) → in_edition edition e ≡ true → each (λ n. below n 48) (names_of e) ≡ false → sheet_verdict (sheet.bytes_of (e ∷ [])) ≡ Err (MalformedEdit 0)
  -- likeness: no other slot has the class number of the slot of a name
  pub alone : (site : List ℕ) → site_verdict site ≡ Accepted → (call : ClassCall site) (n s : ℕ) → n < 48 → s < slots
      → get_or call.classes' s 0 ≡ get_or call.classes' ((site_of site).place n) 0 → s ≡ (site_of site).place n
  -- today and after: "name n", rewritten through a sheet, lists today the slot alone that has the name after it; it has no loop, so under
  -- every limit
  pub found : (edition : ℕ) (site sheet : List ℕ) (n : ℕ) → Runnable edition site (name_bytes n) sheet
      → (applied : ApplyCall edition site sheet) (rewrote : RewriteCall edition (name_bytes n) sheet)
      → (today : ListCall site (rewritten_table rewrote)) (after : ListCall applied.result' (name_bytes n))
      → (today.set' ≡ after.set') × Is today.set' (λ s. same s ((site_of applied.result').place n))
  -- and it tells no two slots apart today that have one class number after it
  pub alike : (edition : ℕ) (site sheet : List ℕ) (n : ℕ) → n < 48 → Going edition site sheet
      → (applied : ApplyCall edition site sheet) (numbered : ClassCall applied.result') (ρ : Env) (s t : ℕ) → s < slots → t < slots
      → get_or numbered.classes' s 0 ≡ get_or numbered.classes' t 0
      → ¬ Distinguishes (site_of site) ρ (form_of (rewrite_sheet (edits_of edition sheet) (table_name n))) s t
