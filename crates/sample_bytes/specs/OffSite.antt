-- Slot 0 is off-site and has no label: over bytes, for all sites, labels and sheets.
use Rattle.std.specs.Prelude.{◌≡◌, true, false, List, [], ◌∷◌, ℕ, ◌<◌, length}
use Rattle.finite.specs.Bytes.{Bytes}
use Rattle.bitset.specs.Set.{has, Is}
use Rattle.limits.specs.Limits.{labels, names}
use Rattle.verdict.specs.Verdict.{Accepted}
use Rattle.semantics.specs.Edit.{AP}
use Rattle.samples.specs.Rows.{table_label}
use Rattle.editions.specs.Edition.{edition_verdict}
use Rattle.site.specs.Layout.{site_bytes}
use Rattle.site.specs.Site.{site_of}
use Rattle.site.specs.Refusal.{item4, site_verdict}
use Rattle.condition.specs.Bytes as condition
use Rattle.sheet.specs.Bytes as sheet
use Rattle.demands.specs.Demands.{ApplyCall, RewriteCall, ListCall, rewritten_table, Runnable}
use Rattle.sample_bytes.specs.Refused.{SiteRefused}

-- the bytes of the condition "label p", and of the sheet with the one edit AP n p
abbrev pub label_bytes : ℕ → List ℕ
label_bytes p = condition.bytes_of (table_label p)

abbrev pub ap_bytes : ℕ → ℕ → List ℕ
ap_bytes n p = sheet.bytes_of (AP n p ∷ [])

pub record OffSite : Type 0 where
  -- an accepted site has no label on slot 0
  pub unlabelled : (site : List ℕ) → site_verdict site ≡ Accepted → (p : ℕ) → (site_of site).marked p 0 ≡ false
  -- a site with a label on slot 0 that meets neither item 3 nor item 4 is refused with 5
  pub label_refused : (site : List ℕ) → length site ≡ site_bytes → item4 (site_of site) ≡ false → (p : ℕ) → (site_of site).marked p 0 ≡ true → SiteRefused site 5
  -- AP with a name at nil, alone in its sheet of a known edition, goes through and leaves each byte of the site
  pub nothing_marked : (edition : ℕ) → edition_verdict edition ≡ Accepted → (site : List ℕ) → Bytes site → site_verdict site ≡ Accepted → (n p : ℕ) → n < names → p < labels → (site_of site).place n ≡ 0
      → (call : ApplyCall edition site (ap_bytes n p)) → (call.reason ≡ 0) × (call.result' ≡ site)
  -- "label p", rewritten through a sheet, lists today what it lists after it, the slots that then have the label; slot 0 is not among
  -- them. It has no loop, so this is under every limit
  pub listed : (edition : ℕ) (site sheet : List ℕ) (p : ℕ) → Runnable edition site (label_bytes p) sheet
      → (applied : ApplyCall edition site sheet) (rewrote : RewriteCall edition (label_bytes p) sheet)
      → (today : ListCall site (rewritten_table rewrote)) (after : ListCall applied.result' (label_bytes p))
      → (today.set' ≡ after.set') × Is today.set' ((site_of applied.result').marked p) × (has today.set' 0 ≡ false)
