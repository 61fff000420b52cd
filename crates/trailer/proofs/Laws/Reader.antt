-- A site, a condition and a sheet that are put together to a file, with an edition, are read back from it.
use Rattle.std.specs.Prelude.{◌≡◌, ◌⊎◌, ℕ, ◌+◌, ◌*◌, ◌-◌, ◌/◌, ◌%◌, ◌≤◌, ◌<◌, replicate, refl, List, [], ◌∷◌, ◌++◌, length, Err}
use Rattle.std.proofs.Common.{ap, ◌∙◌, add_assoc, arith, get_or-append-add, take_at, drop_at, sym, append_assoc, length-append}
use Rattle.std.proofs.Math.Nat.{div-div-eq-div-mul}
use Rattle.finite.specs.Tests.{same}
use Rattle.finite.proofs.Laws.Bools.{either}
use Rattle.verdict.specs.Verdict.{Accepted}
use Rattle.verdict.specs.declared.Refusal.TheVariants.{Edition}
use Rattle.editions.specs.Edition.{second, known, edition_verdict}
use Rattle.editions.proofs.Laws.{edition_refused, known-true, known_out, known_in}
use Rattle.trailer.specs.File.{trailer_bytes, file_limit, trailer_at, quad_at, quad_limit, number, start_of}
use Rattle.trailer.specs.Refusal.{edition_in, trailer_verdict}
use Rattle.trailer.specs.Pieces.{piece_in, site_in, condition_in, sheet_in}
use Rattle.trailer.proofs.Laws.Verdict.{Laid, unrefused, edition_fourth, trailer_edition}
use Rattle.trailer.proofs.Laws.Pieces.{piece_is}

-- the four bytes of a number, and the file of an edition, a site, a condition and a sheet
unfoldable pub quad_bytes : ℕ → List ℕ
quad_bytes n = n % 256 ∷ (n / 256 % 256) ∷ (n / 65536 % 256) ∷ (n / 16777216 % 256) ∷ []

unfoldable pub file_of : (edition : ℕ) (site table sheet : List ℕ) → List ℕ
file_of edition site table sheet =
    let sheet_back : ℕ = length sheet in
    let table_back : ℕ = length table + sheet_back in
    let site_back : ℕ = length site + table_back in
    site ++ (table ++ (sheet ++ (quad_bytes sheet_back ++ (quad_bytes table_back ++ (quad_bytes site_back ++ quad_bytes edition)))))

-- four bytes that stand behind others
quad_append : (P T : List ℕ) (a : ℕ) → quad_at (P ++ T) (length P + a) ≡ quad_at T a
quad_append P T a =
    rw (
      add_assoc (length P) a 1,
      add_assoc (length P) a 2,
      add_assoc (length P) a 3,
      get_or-append-add P T a 0,
      get_or-append-add P T (a + 1) 0,
      get_or-append-add P T (a + 2) 0,
      get_or-append-add P T (a + 3) 0,
    )

-- a number of four bytes is read from them
digits : (n : ℕ) → n < quad_limit → n % 256 + 256 * (n / 256 % 256) + 65536 * (n / 65536 % 256) + 16777216 * (n / 16777216 % 256) ≡ n
digits n h =
    let one : n % 256 + 256 * (n / 256) ≡ n = omega arith in
    let two : n / 256 % 256 + 256 * (n / 65536) ≡ n / 256 = rw (← (div-div-eq-div-mul n 256 256)) (omega arith) in
    let three : n / 65536 % 256 + 256 * (n / 16777216) ≡ n / 65536 = rw (← (div-div-eq-div-mul n 65536 256)) (omega arith) in
    let four : n / 16777216 % 256 ≡ n / 16777216 = omega arith in
    omega (arith, one, two, three, four)

-- the file that is put together of s, c and h, which fit, and an edition d
module _ (d : ℕ) (s c h : List ℕ) (fits : length s + length c + length h ≤ file_limit - trailer_bytes) where
  front : List ℕ
  front = s ++ (c ++ h)

  end : List ℕ
  end =
      quad_bytes (length h) ++ (quad_bytes (length c + length h) ++ (quad_bytes (length s + (length c + length h)) ++ quad_bytes d))

  front_length : length front ≡ length s + (length c + length h)
  unfolding front
  front_length = simp length-append

  parts : file_of d s c h ≡ s ++ (c ++ (h ++ end))
  unfolding file_of end
  parts = refl

  split : file_of d s c h ≡ front ++ end
  unfolding front
  split = parts ∙ simp append_assoc

  file_length : length (file_of d s c h) ≡ length front + trailer_bytes
  unfolding end quad_bytes
  file_length = rw split (length-append front end)

  trailer_at_lem : trailer_at (file_of d s c h) ≡ length front
  trailer_at_lem = omega (arith, file_length)

  back : (k : ℕ) → number k (file_of d s c h) ≡ quad_at end (4 * k)
  unfolding number
  back k = rw (trailer_at_lem, split) (quad_append front end (4 * k))

  sheet-back : number 0 (file_of d s c h) ≡ length h
  unfolding end quad_bytes
  sheet-back = back 0 ∙ digits (length h) (omega arith)

  condition_back : number 1 (file_of d s c h) ≡ length c + length h
  unfolding end quad_bytes
  condition_back = back 1 ∙ digits (length c + length h) (omega arith)

  site_back_lem : number 2 (file_of d s c h) ≡ length s + (length c + length h)
  unfolding end quad_bytes
  site_back_lem = back 2 ∙ digits (length s + (length c + length h)) (omega arith)

  edition_back : d < quad_limit → number 3 (file_of d s c h) ≡ d
  unfolding end quad_bytes
  edition_back small = back 3 ∙ digits d small

  file_laid : Laid (file_of d s c h)
  file_laid = record {
    enough = omega (arith, file_length);
    at_most = omega (arith, file_length, front_length);
    sheet_first = omega (arith, sheet-back, condition_back);
    condition_next = omega (arith, condition_back, site_back_lem);
    site_last = site_back_lem ∙ sym front_length ∙ sym trailer_at_lem;
  }

  -- any edition of four bytes is read back, and decides on the file
  pub edition_read : d < quad_limit → edition_in (file_of d s c h) ≡ d
  edition_read small = edition_fourth (file_of d s c h) (unrefused (file_of d s c h) file_laid) ∙ edition_back small

  pub file_verdict_lem : d < quad_limit → trailer_verdict (file_of d s c h) ≡ edition_verdict d
  file_verdict_lem small =
      trailer_edition (file_of d s c h) (unrefused (file_of d s c h) file_laid) ∙ ap edition_verdict (edition_read small)

  -- with a known edition the file is accepted, and its pieces are those that it was made of
  known_small : edition_verdict d ≡ Accepted → d < quad_limit
  known_small k = either (known_out d k) (λ e. omega (arith, e)) (λ e. omega (arith, e))

  pub file_accepted : edition_verdict d ≡ Accepted → trailer_verdict (file_of d s c h) ≡ Accepted
  file_accepted k = file_verdict_lem (known_small k) ∙ k

  -- the part between two positions, from what stands there
  read : edition_verdict d ≡ Accepted → (p q r : List ℕ) (a e : ℕ)
      → file_of d s c h ≡ p ++ (q ++ r) → length p ≡ a → a + length q ≡ e → piece_in a e (file_of d s c h) ≡ q
  read k p q r a e there from to =
      let size : length q ≡ e - a = omega arith in
      piece_is a e (file_of d s c h) (ap known (edition_read (known_small k)) ∙ known-true d k)
      ∙ rw (there, drop_at p (q ++ r) a from) (take_at q r (e - a) size)

  start_2 : start_of 2 (file_of d s c h) ≡ 0
  unfolding start_of
  start_2 = omega (arith, trailer_at_lem, front_length, site_back_lem)

  start_1 : start_of 1 (file_of d s c h) ≡ length s
  unfolding start_of
  start_1 = omega (arith, trailer_at_lem, front_length, condition_back)

  start_0 : start_of 0 (file_of d s c h) ≡ length s + length c
  unfolding start_of
  start_0 = omega (arith, trailer_at_lem, front_length, sheet-back)

  pub site_read : edition_verdict d ≡ Accepted → site_in (file_of d s c h) ≡ s
  unfolding site_in
  site_read k = read k [] s (c ++ (h ++ end)) _ _ parts (sym start_2) (omega (arith, start_2, start_1))

  pub condition_read : edition_verdict d ≡ Accepted → condition_in (file_of d s c h) ≡ c
  unfolding condition_in
  condition_read k = read k s c (h ++ end) _ _ parts (sym start_1) (omega (arith, start_1, start_0))

  pub sheet_read : edition_verdict d ≡ Accepted → sheet_in (file_of d s c h) ≡ h
  unfolding sheet_in
  sheet_read k =
      read k (s ++ c) h end _ _ (parts ∙ simp append_assoc) (length-append s c ∙ sym start_0)
      (omega (arith, start_0, trailer_at_lem, front_length))

-- the file of three empty pieces, of edition 1 or 2
pub least_file : (d : ℕ) → (d ≡ 1) ⊎ (d ≡ second) → trailer_verdict (replicate 12 0 ++ quad_bytes d) ≡ Accepted
unfolding file_of quad_bytes
least_file d k = file_accepted d [] [] [] (omega arith) (known_in d k)

-- sixteen zeros have no edition
pub sixteen_zeros : trailer_verdict (replicate 16 0) ≡ Err Edition
unfolding file_of quad_bytes known same
sixteen_zeros = file_verdict_lem 0 [] [] [] (omega arith) (omega arith) ∙ edition_refused 0 refl
