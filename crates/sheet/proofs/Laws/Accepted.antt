-- A sheet is accepted just where its bytes are those of at most 64 legal edits, which are edits of the edition in which it is read.
use Rattle.std.specs.Prelude.{◌≡◌, refl, List, [], ◌∷◌, true, false, not, ℕ, zero, suc, ◌*◌, ◌/◌, ◌%◌, ◌≤◌, ◌<◌, length, get_or, Err}
use Rattle.std.proofs.Common.{sym, ap, ◌∙◌, arith, drop_at}
use Rattle.std.proofs.lemmas.Bool.{not-false}
use Rattle.finite.specs.Tests.{same, below, any, first}
use Rattle.finite.proofs.Laws.Bools.{either, look, clash, no_true, and_in, and_l, and_r, not_in, not_out}
use Rattle.finite.proofs.Laws.Below.{same_eq, eq_same, below_in, below_out, below-not, not-below, any_none, none_any}
use Rattle.finite.proofs.Laws.First.{first_is, first-none, first_past, none_start}
use Rattle.semantics.specs.Edit.{Edit, legal, sheet_legal}
use Rattle.verdict.specs.Verdict.{Accepted, reason_of}
use Rattle.verdict.specs.declared.Refusal.TheVariants.{MalformedEdit}
use Rattle.sheet.specs.Bytes.{edit_at, edits_of, edit_bytes, bytes_of, in_edition, all_in_edition}
use Rattle.sheet.specs.Refusal.{edit_fits, fits_at, faulty, sized, sheet_verdict}
use Rattle.sheet.proofs.Laws.Read.{four_next, edits-length, edits-at, edits-back, read_in, four_bytes, bytes-length}
use Rattle.sheet.proofs.Laws.Fits.{fits_legal, fits_bytes, bytes_fit}

-- the bytes of at most 64 legal edits of edition d
pub record Sheet (d : ℕ) (s : List ℕ) (es : List Edit) : Type 0 where
  pub bytes : s ≡ bytes_of es
  pub are_legal : sheet_legal es ≡ true
  pub of_edition : all_in_edition d es ≡ true
  pub few : length es ≤ 64

-- item 11 in numbers
pub sized_out : (s : List ℕ) → sized s ≡ true → (length s % 4 ≡ 0) × (length s ≤ 256)
unfolding sized
sized_out s p =
    (same_eq (and_l _ _ p), not-below 256 (length s) (no_true (not_out _ (and_r (same (length s % 4) 0) _ p))))

pub sized_in : (s : List ℕ) → length s % 4 ≡ 0 → length s ≤ 256 → sized s ≡ true
unfolding sized
sized_in s e h = and_in (eq_same e) (not_in (λ p. let l = below_out 256 (length s) p in absurd (omega arith)))

-- accepted: neither item is met
verdict_out : (s : List ℕ) → sheet_verdict s ≡ Accepted → (sized s ≡ true) × (any (length s / 4) (faulty s) ≡ false)
unfolding sheet_verdict
verdict_out s p =
    let n = length s / 4 in
    let w = first n (faulty s) in
    either
    (look (sized s))
    (λ e.
    either
    (look (below w n))
    (λ b. let z : ◌≡◌ {A = ℕ} 12 0 = ap reason_of (rw (e, b) at p) in absurd (omega arith))
    (λ b. (e, first_past n (faulty s) (not-below w n b))))
    (λ e. let z : ◌≡◌ {A = ℕ} 11 0 = ap reason_of (rw e at p) in absurd (omega arith))

verdict_in : (s : List ℕ) → sized s ≡ true → any (length s / 4) (faulty s) ≡ false → sheet_verdict s ≡ Accepted
unfolding sheet_verdict
verdict_in s e h =
    let n = length s / 4 in
    rw (e, first-none n (faulty s) h, below-not n n (omega arith))

fits_each : (s : List ℕ) → any (length s / 4) (faulty s) ≡ false → (k : ℕ) → k < length s / 4 → fits_at s k ≡ true
unfolding faulty
fits_each s p k h = not-false _ (any_none (length s / 4) (faulty s) p k h)

-- by induction on the sheet
each-bytes : (d : ℕ) (s : List ℕ) → length s % 4 ≡ 0 → ((k : ℕ) → k < length s / 4 → fits_at s k ≡ true)
    → (s ≡ bytes_of (edits_of d s)) × (sheet_legal (edits_of d s) ≡ true) × (all_in_edition d (edits_of d s) ≡ true)
unfolding edits_of bytes_of sheet_legal all_in_edition
each-bytes d [] e h = (refl, refl, refl)
each-bytes d (o ∷ []) e h = absurd (omega arith)
each-bytes d (o ∷ x ∷ []) e h = absurd (omega arith)
each-bytes d (o ∷ x ∷ y ∷ []) e h = absurd (omega arith)
each-bytes d (o ∷ x ∷ y ∷ z ∷ s) e h =
    let f : edit_fits o x y z ≡ true = h 0 (omega arith) in
    let ih = each-bytes d s (omega arith) (λ k l. sym (four_next edit_fits (o ∷ x ∷ y ∷ z ∷ s) k) ∙ h (suc k) (omega arith)) in (
      rw (fits_bytes d o x y z f) (ap (λ t. o ∷ x ∷ y ∷ z ∷ t) ih.0),
      and_in (fits_legal d o x y z f) ih.1,
      and_in (read_in d o x y z) ih.2,
    )

each_fits : (es : List Edit) → sheet_legal es ≡ true → (k : ℕ) → k < length es → fits_at (bytes_of es) k ≡ true
unfolding bytes_of sheet_legal
each_fits [] p k h = absurd (omega arith)
each_fits (e ∷ es) p zero h = bytes_fit e (bytes_of es) (and_l _ _ p)
each_fits (e ∷ es) p (suc k) h =
    four_next edit_fits (bytes_of (e ∷ es)) k
    ∙ rw (drop_at (edit_bytes e) (bytes_of es) 4 (four_bytes e)) (each_fits es (and_r (legal e) _ p) k (omega arith))

pub accepted_sheet : (d : ℕ) (s : List ℕ) → sheet_verdict s ≡ Accepted → Sheet d s (edits_of d s)
accepted_sheet d s p =
    let v = verdict_out s p in
    let l = sized_out s v.0 in
    let b = each-bytes d s l.0 (fits_each s v.1) in
    record { bytes = b.0; are_legal = b.1; of_edition = b.2; few = omega (arith, l.1, edits-length d s) }

pub sheet_accepted : (d : ℕ) (s : List ℕ) (es : List Edit) → Sheet d s es → sheet_verdict s ≡ Accepted
unfolding faulty
sheet_accepted d s es h =
    let n : length s ≡ 4 * length es = ap length h.bytes ∙ bytes-length es in
    let f : (k : ℕ) → k < length s / 4 → faulty s k ≡ false =
    λ k l.
    let g : fits_at s k ≡ true = rw h.bytes (each_fits es h.are_legal k (omega arith)) in
    ap not g
    in
    verdict_in s (sized_in s (omega arith) (omega (arith, h.few))) (none_any (length s / 4) (faulty s) f)

-- a sheet of one edit that is not legal
pub one_refused : (d : ℕ) (e : Edit) → in_edition d e ≡ true → legal e ≡ false → sheet_verdict (bytes_of (e ∷ [])) ≡ Err (MalformedEdit 0)
unfolding sheet_verdict faulty all_in_edition
one_refused d e i l =
    let s = bytes_of (e ∷ []) in
    let n : length s ≡ 4 = bytes-length (e ∷ []) in
    let is_e : edit_at d s 0 ≡ e = sym (edits-at d s 0 e (omega arith)) ∙ ap (λ es. get_or es 0 e) (edits-back d (e ∷ []) (and_in i refl)) in
    let unfit : fits_at s 0 ≡ false = no_true (λ f. clash (sym (ap legal is_e) ∙ fits_legal d _ _ _ _ f) l) in
    let w : first (length s / 4) (faulty s) ≡ 0 = first_is (length s / 4) (faulty s) 0 (omega arith) (none_start (faulty s)) (ap not unfit) in
    rw (sized_in s (omega arith) (omega arith), w, below_in 0 (length s / 4) (omega arith))

pub accepted_at : (d : ℕ) (s : List ℕ) → sheet_verdict s ≡ Accepted → (k : ℕ) → k < length s / 4 → legal (edit_at d s k) ≡ true
accepted_at d s p k h = fits_legal d _ _ _ _ (fits_each s (verdict_out s p).1 k h)
