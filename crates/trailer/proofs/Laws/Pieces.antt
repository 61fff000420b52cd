-- The pieces of a file: where they start, and that with the trailer they are the whole file.
use Rattle.std.specs.Prelude.{◌≡◌, refl, Bool, true, false, List, [], ◌++◌, ℕ, zero, suc, ◌+◌, ◌-◌, ◌≤◌, ◌<◌, length, take, drop, Err}
use Rattle.std.proofs.Common.{sym, ap, ◌∙◌, arith, length-drop, take-append-drop, drop-drop}
use Rattle.std.proofs.Math.Nat.{sub-zero}
use Rattle.finite.specs.Tests.{same}
use Rattle.verdict.specs.Verdict.{Accepted}
use Rattle.verdict.specs.declared.Refusal.{Refusal}
use Rattle.editions.specs.Edition.{known}
use Rattle.editions.proofs.Laws.{known-true}
use Rattle.trailer.specs.File.{trailer_bytes, trailer_at, number, start_of}
use Rattle.trailer.specs.Refusal.{item2, edition_in, file_verdict, trailer_verdict}
use Rattle.trailer.specs.Pieces.{piece_in, site_in, condition_in, sheet_in}
use Rattle.trailer.specs.Cuts.{Cut}
use Rattle.trailer.proofs.Laws.Verdict.{Laid, laid, edition_none, edition_fourth, accepted_laid, accepted_known, refused_unknown}

-- ---- where the pieces start

pub start_in_lem : (k : ℕ) (file : List ℕ) → start_of k file ≤ trailer_at file
unfolding start_of
start_in_lem k file = omega arith

module _ (file : List ℕ) (l : Laid file) where
  pub distance_in : (k : ℕ) → k < 3 → number k file ≤ trailer_at file
  distance_in zero h = omega (arith, l.sheet_first, l.condition_next, l.site_last)
  distance_in (suc zero) h = omega (arith, l.condition_next, l.site_last)
  distance_in (suc (suc zero)) h = omega (arith, l.site_last)
  distance_in (suc (suc (suc k))) h = absurd (omega arith)

  pub site_start : start_of 2 file ≡ 0
  unfolding start_of
  site_start = omega (arith, l.site_last)

  pub condition_start : start_of 2 file ≤ start_of 1 file
  condition_start = omega (arith, site_start)

  pub sheet_start : start_of 1 file ≤ start_of 0 file
  unfolding start_of
  sheet_start = omega (arith, l.sheet_first)

-- ---- a piece of a file with an edition that is not known, and of one with a known edition

piece_none : (a e : ℕ) (file : List ℕ) → known (edition_in file) ≡ false → piece_in a e file ≡ []
unfolding piece_in
piece_none a e file p = rw p

pub piece_is : (a e : ℕ) (file : List ℕ) → known (edition_in file) ≡ true → piece_in a e file ≡ take (e - a) (drop a file)
unfolding piece_in
piece_is a e file p = rw p

-- item 2 or 18 refuses the file
pub piece_refused : (a e : ℕ) (file : List ℕ) {r : Refusal} → trailer_verdict file ≡ Err r → piece_in a e file ≡ []
piece_refused a e file v = piece_none a e file (refused_unknown file v)

-- ---- what the trailer is read as

-- the pieces are empty
cut_empty : (file : List ℕ) {met : Bool} {d : ℕ} → met ≡ item2 file → d ≡ edition_in file → known d ≡ false → Cut file met d 0 0 0
unfolding site_in condition_in sheet_in
cut_empty file m q n =
    let p : known (edition_in file) ≡ false = rw q at n in
    record {
      met_is = m;
      edition_is = q;
      site_is = sym (piece_none _ _ file p);
      condition_is = sym (piece_none _ _ file p);
      sheet_is = sym (piece_none _ _ file p);
      condition_next = omega arith;
      sheet_next = omega arith;
      inside = omega arith;
    }

-- item 2 is met
pub cut_none : (file : List ℕ) → item2 file ≡ true → Cut file true 0 0 0 0
unfolding known same
cut_none file p = cut_empty file (sym p) (sym (edition_none file p)) refl

-- the fourth number is no known edition
pub cut_unknown : (file : List ℕ) → item2 file ≡ false → {d : ℕ} {b : Bool} → d ≡ number 3 file → b ≡ known d → b ≡ false
    → Cut file false d 0 0 0
cut_unknown file u f b n = cut_empty file (sym u) (f ∙ sym (edition_fourth file u)) (sym b ∙ n)

-- it is one
pub cut_read : (file : List ℕ) → item2 file ≡ false → {d : ℕ} {b : Bool} → d ≡ number 3 file → b ≡ known d → b ≡ true
    → {x y z : ℕ} → x ≡ start_of 1 file → y ≡ start_of 0 file → z ≡ trailer_at file → Cut file false d x y z
unfolding site_in condition_in sheet_in
cut_read file u f b t p q r =
    let l = laid file u in
    let e = f ∙ sym (edition_fourth file u) in
    let k : known (edition_in file) ≡ true = rw e at (sym b ∙ t) in
    record {
      met_is = sym u;
      edition_is = e;
      site_is = rw (p, piece_is (start_of 2 file) (start_of 1 file) file k, site_start file l, sub-zero (start_of 1 file));
      condition_is = rw (p, q) (sym (piece_is _ _ file k));
      sheet_is = rw (q, r) (sym (piece_is _ _ file k));
      condition_next = omega (arith, p, q, sheet_start file l);
      sheet_next = omega (arith, q, r, start_in_lem 0 file);
      inside = omega (arith, r);
    }

-- the verdict is the file's
pub cut_verdict : {file : List ℕ} {met : Bool} {d x y z : ℕ} → Cut file met d x y z → file_verdict met d ≡ trailer_verdict file
unfolding trailer_verdict
cut_verdict c = rw (c.met_is, c.edition_is)

-- ---- the pieces and the trailer are the file

piece_next : (a e : ℕ) (file : List ℕ) → known (edition_in file) ≡ true → a ≤ e → piece_in a e file ++ drop e file ≡ drop a file
piece_next a e file k h =
    let to_end : a + (e - a) ≡ e = omega arith in
    let rest : drop (e - a) (drop a file) ≡ drop e file = drop-drop (e - a) a file ∙ ap (λ (i : ℕ). drop i file) to_end in
    rw (piece_is a e file k, ← rest) (take-append-drop (e - a) (drop a file))

-- the trailer's bytes
abbrev pub trailer_in : List ℕ → List ℕ
trailer_in file = drop (trailer_at file) file

-- an accepted file is its three pieces, in order, and a trailer of 16 bytes
pub pieces_whole : (file : List ℕ) → trailer_verdict file ≡ Accepted
    → (site_in file ++ (condition_in file ++ (sheet_in file ++ trailer_in file)) ≡ file) × (length (trailer_in file) ≡ trailer_bytes)
unfolding site_in condition_in sheet_in
pieces_whole file v =
    let l = accepted_laid file v in
    let k = known-true _ (accepted_known file v) in (
      rw (
        piece_next (start_of 0 file) (trailer_at file) file k (start_in_lem 0 file),
        piece_next (start_of 1 file) (start_of 0 file) file k (sheet_start file l),
        piece_next (start_of 2 file) (start_of 1 file) file k (condition_start file l),
        site_start file l,
      ),
      simp length-drop (omega (arith, l.enough)),
    )
