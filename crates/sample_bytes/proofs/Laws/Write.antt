-- The bytes that are written of a valid site are read as that site.
use Rattle.std.specs.Prelude.{◌≡◌, refl, Bool, true, false, ◌&&◌, cond, length, get_or, not, ℕ, zero, suc, ◌+◌, ◌-◌, ◌*◌, ◌/◌, ◌%◌, ◌^◌, ◌≤◌, ◌<◌}
use Rattle.std.proofs.Common.{sym, ◌∙◌, ap₂, zero-add, ap, arith}
use Rattle.std.proofs.Math.Nat.{two-pow-succ}
use Rattle.std.proofs.Math.Decide.{dec_lt}
use Rattle.std.proofs.Math.ListN.{get_or-eq_default}
use Rattle.finite.specs.Tests.{same, below, bit}
use Rattle.finite.proofs.Laws.Bools.{either, look, both, and_l, and_r, and_in, not_in, not_out}
use Rattle.finite.proofs.Laws.Below.{same_eq, eq_same, below_in, below-not}
use Rattle.finite.proofs.Laws.Bits.{bit-suc}
use Rattle.bitset.specs.Set.{set_bytes, set_slots, has}
use Rattle.bitset.proofs.Laws.Bytes.{has_byte}
use Rattle.limits.specs.Limits.{slots, labels, names, links, general_links}
use Rattle.semantics.specs.Holds.{Set, Model}
use Rattle.semantics.specs.Edit.{functional, target, Valid}
use Rattle.semantics.proofs.Laws.Edits.{find_ends, target_one}
use Rattle.site.specs.Layout.{labels_at, names_at, targets_at, rows_at, site_bytes, label_at, name_at, target_at, row_at}
use Rattle.site.specs.Site.{site_of}
use Rattle.site.proofs.Laws.Read.{functional_in, place_is, place_out}
use Rattle.site_changes.proofs.Laws.Areas.{same_fields, presents_are, marks_are, links_are}
use Rattle.sample_bytes.specs.Write.{up_to, number, set_byte, byte_at, bytes_of}

-- ---- lists and numbers

pub up_to-length : (n : ℕ) (f : ℕ → ℕ) → length (up_to n f) ≡ n
unfolding up_to
up_to-length zero f = refl
up_to-length (suc n) f = ap suc (up_to-length n (λ k. f (suc k)))

up_to-at : (n : ℕ) (f : ℕ → ℕ) (j : ℕ) → j < n → get_or (up_to n f) j 0 ≡ f j
unfolding up_to
up_to-at zero f j h = absurd (omega arith)
up_to-at (suc n) f zero h = refl
up_to-at (suc n) f (suc j) h = up_to-at n (λ k. f (suc k)) j (omega arith)

up_to-all : (n b : ℕ) (f : ℕ → ℕ) → 0 < b → ((j : ℕ) → j < n → f j < b) → (j : ℕ) → get_or (up_to n f) j 0 < b
up_to-all n b f z h j = go (dec_lt j n)
  where
    go : Dec (j < n) → get_or (up_to n f) j 0 < b
    go (yes l) = rw (up_to-at n f j l) (h j l)
    go (no l) =
        let k : length (up_to n f) ≤ j = omega (arith, up_to-length n f) in
        rw (get_or-eq_default (up_to n f) 0 k) z

-- the digits of a number that is made of digits
digit_lt : (b : Bool) → cond {A = ℕ} b 1 0 < 2
digit_lt true = omega arith
digit_lt false = omega arith

digit_first : (b : Bool) (m : ℕ) → bit (cond b 1 0 + 2 * m) 0 ≡ b
unfolding bit
digit_first true m = rw (let e : (1 + 2 * m) / 2 ^ 0 % 2 ≡ 1 = omega arith in e)
digit_first false m = rw (let e : (0 + 2 * m) / 2 ^ 0 % 2 ≡ 0 = omega arith in e)

number_bit : (n : ℕ) (f : ℕ → Bool) (k : ℕ) → k < n → bit (number n f) k ≡ f k
unfolding number
number_bit zero f k h = absurd (omega arith)
number_bit (suc n) f zero h = digit_first (f 0) (number n (λ k. f (suc k)))
number_bit (suc n) f (suc k) h =
    let m : ℕ = number n (λ k. f (suc k)) in
    let half : (cond (f 0) 1 0 + 2 * m) / 2 ≡ m = omega (arith, digit_lt (f 0)) in
    bit-suc (cond (f 0) 1 0 + 2 * m) k ∙ ap (λ (a : ℕ). bit a k) half ∙ number_bit n (λ k. f (suc k)) k (omega arith)

number_lt : (n : ℕ) (f : ℕ → Bool) → number n f < 2 ^ n
unfolding number
number_lt zero f = omega arith
number_lt (suc n) f = omega (arith, digit_lt (f 0), number_lt n (λ k. f (suc k)), two-pow-succ n)

-- ---- each part of a site

pub length-bytes : (M : Model) → length (bytes_of M) ≡ site_bytes
unfolding bytes_of
length-bytes M = up_to-length site_bytes (byte_at M)

module _ (M : Model) where
  byte_is : (j : ℕ) → j < site_bytes → get_or (bytes_of M) j 0 ≡ byte_at M j
  unfolding bytes_of
  byte_is j h = up_to-at site_bytes (byte_at M) j h

  present_byte : (i : ℕ) → i < set_bytes → byte_at M i ≡ set_byte M.present i
  unfolding byte_at
  present_byte i h = rw (below_in i labels_at h)

  label_byte : (p i : ℕ) → p < labels → i < set_bytes → byte_at M (label_at p + i) ≡ set_byte (M.marked p) i
  unfolding byte_at
  label_byte p i hp hi =
      rw (below-not (label_at p + i) labels_at (omega arith), below_in (label_at p + i) names_at (omega arith))
      (ap₂ (λ (q k : ℕ). set_byte (M.marked q) k) (omega arith) (omega arith))

  name_byte : (n : ℕ) → n < names → byte_at M (name_at n) ≡ M.place n
  unfolding byte_at
  name_byte n h =
      rw (below-not (name_at n) labels_at (omega arith), below-not (name_at n) names_at (omega arith), below_in (name_at n) targets_at (omega arith))
      (ap M.place (omega arith))

  target_byte : (f s : ℕ) → general_links ≤ f → f < links → s < set_slots → byte_at M (target_at f s) ≡ target M f s
  unfolding byte_at
  target_byte f s hg hl hs =
      rw (
        below-not (target_at f s) labels_at (omega arith),
        below-not (target_at f s) names_at (omega arith),
        below-not (target_at f s) targets_at (omega arith),
        below_in (target_at f s) rows_at (omega arith),
      )
      (ap₂ (target M) (omega arith) (omega arith))

  row_byte : (m s i : ℕ) → m < general_links → s < set_slots → i < set_bytes → byte_at M (row_at m s + i) ≡ set_byte (M.link m s) i
  unfolding byte_at
  row_byte m s i hm hs hi =
      rw (
        below-not (row_at m s + i) labels_at (omega arith),
        below-not (row_at m s + i) names_at (omega arith),
        below-not (row_at m s + i) targets_at (omega arith),
        below-not (row_at m s + i) rows_at (omega arith),
      )
      (ap₂ (λ (P : Set) (k : ℕ). set_byte P k) (ap₂ M.link (omega arith) (omega arith)) (omega arith))

  -- a set that stands at byte b
  set-has : (b : ℕ) (P : Set) → b + set_bytes ≤ site_bytes → ((i : ℕ) → i < set_bytes → byte_at M (b + i) ≡ set_byte P i)
      → (s : ℕ) → s < slots → has (bytes_of M) (b * 8 + s) ≡ P s
  unfolding slots
  set-has b P fits h s l =
      let i : ℕ = s / 8 in
      let k : ℕ = s % 8 in
      ap (has (bytes_of M)) (let e : b * 8 + s ≡ (b + i) * 8 + k = omega arith in e)
      ∙ has_byte (bytes_of M) (b + i) k (omega arith)
      ∙ ap (λ (x : ℕ). bit x k) (byte_is (b + i) (omega arith) ∙ h i (omega arith))
      ∙ number_bit 8 (λ k. P (i * 8 + k)) k (omega arith)
      ∙ ap P (let e : i * 8 + k ≡ s = omega arith in e)

-- ---- the whole

-- nothing is said of labels, names and links that there are not
pub record InRange (M : Model) : Type 0 where
  pub labels_few : (p s : ℕ) → M.marked p s ≡ true → p < labels
  pub names_few : (n : ℕ) → names ≤ n → M.place n ≡ 0
  pub links_few : (m s t : ℕ) → M.link m s t ≡ true → m < links

module _ (M : Model) (v : Valid M) where
  -- the target by a functional link is nil or one that the link leads to
  target-leads : (f s t : ℕ) → functional f ≡ true → (same (target M f s) t && not (same t 0)) ≡ M.link f s t
  unfolding target
  target-leads f s t o =
      both
      (λ p.
      let e : target M f s ≡ t = same_eq (and_l _ _ p) in
      let n = not_out (same t 0) (and_r (same (target M f s) t) _ p) in
      either
      (find_ends slots (M.link f s))
      (λ q. absurd (n (eq_same (sym e ∙ q.1))))
      (λ q. ap (M.link f s) (sym e) ∙ q))
      (λ p. and_in (eq_same (sym (target_one M v f s t o p))) (not_in (λ q. (v.to f s t p).1 (same_eq q))))

  target_lt : (f s : ℕ) → target M f s < slots
  unfolding target slots
  target_lt f s =
      either
      (find_ends slots (M.link f s))
      (λ q. omega (arith, q.1))
      (λ q. v.small (target M f s) (v.to f s _ q).0)

  byte_lt : (j : ℕ) → byte_at M j < 256
  unfolding byte_at slots
  byte_lt j =
      either (look (below j labels_at)) (λ e. rw e (number_lt 8 _)) (λ e. rw e
      (either (look (below j names_at)) (λ g. rw g (number_lt 8 _)) (λ g. rw g
      (either (look (below j targets_at)) (λ q. rw q (v.small _ (v.named (j - names_at)))) (λ q. rw q
      (either (look (below j rows_at)) (λ t. rw t (target_lt _ _)) (λ t. rw t (number_lt 8 _))))))))

  pub bytes_lt : (j : ℕ) → get_or (bytes_of M) j 0 < 256
  unfolding bytes_of
  bytes_lt = up_to-all site_bytes 256 (byte_at M) (omega arith) (λ j h. byte_lt j)

  present_back : (s : ℕ) → s < slots → has (bytes_of M) s ≡ M.present s
  present_back s h =
      ap (has (bytes_of M)) (let e : s ≡ 0 * 8 + s = omega arith in e)
      ∙ set-has M 0 M.present (omega arith) (λ i hi. ap (byte_at M) (zero-add i) ∙ present_byte M i hi) s h

  module _ (few : InRange M) where
    place_back : (n : ℕ) → (site_of (bytes_of M)).place n ≡ M.place n
    place_back n = go (dec_lt n names)
      where
        go : Dec (n < names) → (site_of (bytes_of M)).place n ≡ M.place n
        go (yes h) = place_is (bytes_of M) n h ∙ byte_is M (name_at n) (omega arith) ∙ name_byte M n h
        go (no h) = place_out (bytes_of M) n (omega arith) ∙ sym (few.names_few n (omega arith))

    target-back : (f s t : ℕ) → general_links ≤ f → f < links → s < slots → t < slots
        → (same (get_or (bytes_of M) (target_at f s) 0) t && not (same t 0)) ≡ M.link f s t
    unfolding slots
    target-back f s t hg hl hs ht =
        ap (λ (x : ℕ). same x t && not (same t 0)) (byte_is M (target_at f s) (omega arith) ∙ target_byte M f s hg hl hs)
        ∙ target-leads f s t (functional_in f hg hl)

    pub read_back : site_of (bytes_of M) ≡ M
    unfolding slots
    read_back = same_fields (record {
      present_same = presents_are (bytes_of M) M.present present_back v.small;
      marked_same = marks_are (bytes_of M) M.marked
          (λ p s hp hs. set-has M (label_at p) (M.marked p) (omega arith) (λ i hi. label_byte M p i hp hi) s hs)
          (λ p s h. (few.labels_few p s h, v.small s (v.labelled p s h).0));
      place_same = place_back;
      link_same = links_are (bytes_of M) M.link
          (λ m s t hm hs ht. set-has M (row_at m s) (M.link m s) (omega arith) (λ i hi. row_byte M m s i hm hs hi) t ht)
          target-back
          (λ m s t h. (few.links_few m s t h, (v.small s (v.from m s t h).0, v.small t (v.to m s t h).0)));
    })
