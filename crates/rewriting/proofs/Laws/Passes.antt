-- The passes of a sheet's edits over a table, the last one first.
use Rattle.std.specs.Prelude.{◌≡◌, Bool, true, false, ℕ, zero, suc, ◌+◌, ◌*◌, ◌-◌, ◌/◌, ◌≤◌, ◌<◌, get_or, take, drop, refl, List, [], ◌∷◌, ◌++◌, length, replicate, IfOk, Result, Ok, Err}
use Rattle.std.proofs.Common.{sym, ◌∙◌, ap, subst, arith, not-suc-le-zero, length-append, drop_of_length-le, length-take-le, take_at, get_or-take, get_or-append-add, ext_get_or, ap₂}
use Rattle.std.proofs.Math.ListN.{get_or-append}
use Rattle.finite.specs.Tests.{below}
use Rattle.finite.proofs.Laws.Bools.{either, look, clash, and_l, and_r, or_none}
use Rattle.finite.proofs.Laws.Below.{below_in, below_out, below-not, not-below}
use Rattle.verdict.specs.Verdict.{Verdict, Accepted, outcome}
use Rattle.verdict.specs.declared.Refusal.{Refusal}
use Rattle.verdict.specs.declared.Refusal.TheVariants.{TableFull}
use Rattle.semantics.specs.Edit.{Edit, DS, legal, sheet_legal}
use Rattle.semantics.specs.Table.{Node, kind_no, nodes_fit}
use Rattle.semantics.specs.Block.{emit, rewrite_table, Pass, passed}
use Rattle.semantics.proofs.Laws.Rewrite.{table_some_lem, table_fits}
use Rattle.through.specs.Through.{own, closing, behind, through_edit, one_true}
use Rattle.through.proofs.Laws.Through.{none_tells, edit_fits_lem}
use Rattle.condition.specs.Bytes.{node_at, nodes, table_of, bytes_of}
use Rattle.condition.proofs.Laws.Bytes.{length-nodes, length-bytes}
use Rattle.sheet.specs.Bytes.{edit_at, edits_of}
use Rattle.sheet.proofs.Laws.Read.{edits-length, edits-at, edits-drop}
use Rattle.limits.specs.Limits.{table_nodes, node_size, table_bytes}
use Rattle.blocks.specs.declared.TooLong.{TooLong}
use Rattle.rewriting.specs.declared.Purpose.{Purpose}
use Rattle.rewriting.specs.declared.Purpose.TheVariants.{Rewrite, GoThrough}
use Rattle.blocks.specs.Write.{puts, Made}
use Rattle.blocks.proofs.Laws.Write.{length-puts}
use Rattle.emitting.proofs.Laws.Puts.{puts_low, puts_in, bytes_append}
use Rattle.own_conditions.specs.Behind.{PutBehind}
use Rattle.rewriting.specs.Answer.{nodes_of}
use Rattle.rewriting.specs.Refusal.{is_too_long, length_verdict}
use Rattle.rewriting.specs.Rewriting.{TableAfter}
use Rattle.rewriting.specs.State.{pass_of, TableMade, Passed, Finished, Rewrote}
use Rattle.rewriting.proofs.Laws.Grow.{through_grows}
use Rattle.rewriting.proofs.Laws.Buffers.{read_table, take_table}

-- each edit of a legal sheet is legal
legal_in : (es : List Edit) (j : ℕ) → sheet_legal es ≡ true → j < length es → legal (get_or es j (DS 0)) ≡ true
unfolding sheet_legal
legal_in [] j l h = absurd (not-suc-le-zero h)
legal_in (e ∷ es) zero l h = and_l _ _ l
legal_in (e ∷ es) (suc j) l h = legal_in es j (and_r (legal e) _ l) (omega arith)

pub legal-at : {e : Edit} (d : ℕ) (s : List ℕ) (j : ℕ) → e ≡ edit_at d s j → j < length s / 4 → sheet_legal (edits_of d s) ≡ true → legal e ≡ true
legal-at d s j q h l =
    rw (q, ← edits-at d s j (DS 0) h) (legal_in (edits_of d s) j l (omega (arith, edits-length d s)))

-- what is not too long at the end is so after no edit
short_drop : (pass : Pass) (es : List Edit) (xs : List Node) (k : ℕ) → is_too_long pass es xs ≡ false → is_too_long pass (drop k es) xs ≡ false
unfolding is_too_long
short_drop pass [] xs zero h = h
short_drop pass [] xs (suc k) h = h
short_drop pass (e ∷ es) xs zero h = h
short_drop pass (e ∷ es) xs (suc k) h = short_drop pass es xs k (or_none (is_too_long pass es xs) _ h).0

-- ---- one pass

-- nodes written behind a table
written_behind : (xs zs : List Node) (o : List ℕ) → take (6 * length xs) o ≡ bytes_of xs → 6 * (length xs + length zs) ≤ length o
    → take (6 * length (xs ++ zs)) (puts o (length xs) 0 zs) ≡ bytes_of (xs ++ zs)
written_behind xs zs o e room =
    let n = length xs in let o' = puts o n 0 zs in let all = length-append xs zs in
    let k : length (take (6 * length (xs ++ zs)) o') ≡ 6 * length (xs ++ zs) =
    length-take-le (6 * length (xs ++ zs)) o' (omega (arith, all, length-puts o n 0 zs)) in
    ext_get_or 0 (take (6 * length (xs ++ zs)) o') (bytes_of (xs ++ zs)) (k ∙ sym (length-bytes (xs ++ zs)))
    (λ p q. let g : p < 6 * length (xs ++ zs) = omega arith in
    get_or-take (6 * length (xs ++ zs)) o' p 0 g
    ∙ either (look (below p (6 * n)))
    (λ b. let h : p < 6 * n = below_out p _ b in
    puts_low o n 0 zs p (omega arith)
    ∙ sym (get_or-take (6 * n) o p 0 h)
    ∙ ap (λ (l : List ℕ). get_or l p 0) e
    ∙ sym (get_or-append (bytes_of xs) (bytes_of zs) 0 p (omega (arith, length-bytes xs))))
    (λ b. let h : 6 * n ≤ p = not-below p _ b in let z : p - 6 * (n + 0) ≡ p - 6 * n = omega arith in
    let w : length (bytes_of xs) + (p - 6 * n) ≡ p = omega (arith, length-bytes xs) in
    puts_in o n 0 zs p (omega arith) (omega (arith, all)) (omega (arith, all))
    ∙ ap (λ (j : ℕ). get_or (bytes_of zs) j 0) z
    ∙ sym (get_or-append-add (bytes_of xs) (bytes_of zs) (p - 6 * n) 0)
    ∙ ap (λ (j : ℕ). get_or (bytes_of xs ++ bytes_of zs) j 0) w)
    ∙ ap (λ (l : List ℕ). get_or l p 0) (sym (bytes_append xs zs)))

-- an edit's own condition is put behind a table that is rewritten
module _ (e : Edit) (xs : List Node) {n : ℕ} (en : n ≡ length (rewrite_table e xs)) where
  pub made_behind : (o o' : List ℕ) (r : Result ℕ TooLong) → take (6 * n) o ≡ bytes_of (rewrite_table e xs) → length o ≡ table_bytes
      → PutBehind (closing n (own e)) n o o' r → TableMade (through_edit e xs) o' r
  unfolding through_edit behind
  made_behind o o' (Ok r) w l p =
      let ys = rewrite_table e xs in let zs = closing (length ys) (own e) in let all = length-append ys zs in let q = rw en at p in
      (q.0 ∙ sym all, q.1, rw q.2 (written_behind ys zs o (rw en at w) (omega (arith, all))))
  made_behind o o' (Err m) w l p =
      let ys = rewrite_table e xs in let all = length-append ys (closing (length ys) (own e)) in let q = rw en at p in (omega (arith, all), q.1)

  pub made_long : (o : List ℕ) {l : TooLong} → table_nodes < length (rewrite_table e xs) → l.0 ≡ length (rewrite_table e xs) → TableMade (through_edit e xs) o (Err l)
  unfolding through_edit behind
  made_long o h el = let ys = rewrite_table e xs in (omega (arith, length-append ys (closing (length ys) (own e))), omega arith)

-- as the code has it, for both purposes
pub pass_long : (purpose : Purpose) (e : Edit) (xs : List Node) (o o' : List ℕ) {l : TooLong} → Made (rewrite_table e xs) o (Err l)
    → TableMade (pass_of purpose e xs) o' (Err l)
pass_long Rewrite e xs o o' m = (m.1, omega (arith, m.0))
pass_long GoThrough e xs o o' m = made_long e xs refl o' m.1 m.0

-- a pass keeps nodes that fit, and leaves at least one
abbrev pub Keeps : Pass → Type 0
Keeps pass = (e : Edit) → legal e ≡ true → (xs : List Node) → 0 < length xs → nodes_fit 0 xs ≡ true → (0 < length (pass e xs)) × (nodes_fit 0 (pass e xs) ≡ true)

pub keeps : (purpose : Purpose) → Keeps (pass_of purpose)
keeps Rewrite e l xs h f = (table_some_lem e l xs f h, table_fits e l xs f)
keeps GoThrough e l xs h f = (omega (arith, through_grows e xs), edit_fits_lem e l xs h f)

-- ---- the passes

-- the edits from k on are done
pub record Passing (pass : Pass) (edition : ℕ) (sheet : List ℕ) (xs : List Node) (o : List ℕ) (count k : ℕ) : Type 0 where
  pub most : k ≤ length sheet / 4
  pub few : count ≤ table_nodes
  pub some : 0 < count
  pub short : is_too_long pass (drop k (edits_of edition sheet)) xs ≡ false
  pub counts : count ≡ length (passed pass (drop k (edits_of edition sheet)) xs)
  pub bytes : take (6 * length (passed pass (drop k (edits_of edition sheet)) xs)) o ≡ bytes_of (passed pass (drop k (edits_of edition sheet)) xs)
  pub fits : nodes_fit 0 (passed pass (drop k (edits_of edition sheet)) xs) ≡ true

pub passing_start : (pass : Pass) (edition : ℕ) (sheet s : List ℕ) (n k : ℕ) → ((i : ℕ) → get_or s i 0 < 256) × (nodes_fit 0 (nodes s n) ≡ true) → 6 * n ≤ length s
    → n ≤ table_nodes → 0 < n → k ≡ length sheet / 4 → Passing pass edition sheet (nodes s n) s n k
unfolding passed is_too_long
passing_start pass edition sheet s n k h g m p d =
    let all : length (edits_of edition sheet) ≤ k = omega (arith, edits-length edition sheet) in
    let e : drop k (edits_of edition sheet) ≡ [] = drop_of_length-le (edits_of edition sheet) all in
    record {
      most = omega arith;
      few = m;
      some = p;
      short = rw e refl;
      counts = rw e (sym (length-nodes s n));
      bytes = rw (e, length-nodes s n) (take_table s n h.0 g);
      fits = rw e h.1;
    }

-- the nodes that the table has by then fit
pub passing_fits : {pass : Pass} {edition : ℕ} {sheet : List ℕ} {xs : List Node} {o : List ℕ} {count k : ℕ} → Passing pass edition sheet xs o count k
    → nodes_fit 0 (nodes o count) ≡ true
passing_fits {pass} {edition} {sheet} {xs} {o} {count} {k} P =
    rw (P.counts, read_table o (passed pass (drop k (edits_of edition sheet)) xs) P.bytes) P.fits

-- one edit more
module _ {pass : Pass} {edition : ℕ} {sheet : List ℕ} {xs : List Node} {o : List ℕ} {count j k : ℕ} {e : Edit}
    (P : Passing pass edition sheet xs o count j) (d : j ≡ suc k) (q : e ≡ edit_at edition sheet k) where
  in_sheet : k < length sheet / 4
  in_sheet = omega (arith, P.most)

  -- the table that is made next
  abbrev next : List Node
  next = passed pass (drop k (edits_of edition sheet)) xs

  next_table : pass e (nodes o count) ≡ next
  unfolding passed
  next_table =
      ap₂ pass q (ap (nodes o) P.counts ∙ read_table o (passed pass (drop j (edits_of edition sheet)) xs) P.bytes)
      ∙ rw (edits-drop edition sheet k in_sheet, d) refl

  next_long : is_too_long pass (drop k (edits_of edition sheet)) xs ≡ below table_nodes (length next)
  unfolding is_too_long
  next_long = rw (edits-drop edition sheet k in_sheet) (rw (rw d at P.short) refl)

  pub passing_more : Keeps pass → (spare : List ℕ) {made : ℕ} {o' : List ℕ} → TableMade (pass e (nodes o count)) spare (Ok made)
      → length spare ≡ table_bytes → o' ≡ take (6 * made) spare ++ drop (6 * made) o → legal e ≡ true → Passing pass edition sheet xs o' made k
  passing_more keeps spare {made} {o'} m l eo lg =
      let n : made ≡ length next = m.0 ∙ ap length next_table in
      let b : take (6 * made) spare ≡ bytes_of next = ap (λ (c : ℕ). take (6 * c) spare) m.0 ∙ m.2 ∙ ap bytes_of next_table in
      let kept = keeps e lg (nodes o count) (omega (arith, P.some, length-nodes o count)) (passing_fits P) in
      record {
        most = omega (arith, P.most);
        few = m.1;
        some = omega (arith, m.0, kept.0);
        short = next_long ∙ below-not table_nodes _ (let le : length next ≤ table_nodes = omega (arith, m.1) in le);
        counts = n;
        bytes = rw (← n, eo) (take_at (take (6 * made) spare) (drop (6 * made) o) (6 * made) (length-take-le (6 * made) spare (omega (arith, m.1))) ∙ b);
        fits = rw (← next_table) kept.1;
      }

  pub passing_long : (o' spare : List ℕ) {l : TooLong} → TableMade (pass e (nodes o count)) spare (Err l) → Passed pass (edits_of edition sheet) xs o' (Err l)
  passing_long o' spare m =
      let lt : table_nodes < length next = omega (arith, m.0, ap length next_table) in
      (either (look (is_too_long pass (edits_of edition sheet) xs)) (λ t. t) (λ f. clash (next_long ∙ below_in table_nodes _ lt) (short_drop pass (edits_of edition sheet) xs k f)), m.1)

pub passing_done : {pass : Pass} {edition : ℕ} {sheet : List ℕ} {xs : List Node} {o : List ℕ} {count k : ℕ} → k ≡ 0 → Passing pass edition sheet xs o count k
    → Passed pass (edits_of edition sheet) xs o (Ok count)
passing_done e P = let z = rw e at P in (z.short, z.counts, z.few, z.bytes)

-- ---- the answer

-- zeros, where the table is too long
pub finished_long : {o result result' : List ℕ} {r : ℕ} → table_nodes < r → result' ≡ replicate (length result) 0 → Finished o r result result' (Err TableFull) 0
finished_long h e = record { long = λ _. (refl, refl, e); short = λ g. absurd (omega arith) }

-- the table is copied into the result, o₁, and zeros follow it
pub finished_short : {o result result' : List ℕ} {r : ℕ} (o₁ : List ℕ) → r ≤ table_nodes → length o ≡ table_bytes → length o₁ ≡ table_bytes
    → o₁ ≡ take (6 * r) o ++ drop (6 * r) result → result' ≡ take (6 * r) o₁ ++ replicate (length o₁ - 6 * r) 0 → Finished o r result result' Accepted r
finished_short {o} {result} {result'} {r} o₁ h l l₁ e₁ e =
    let c : take (6 * r) o₁ ≡ take (6 * r) o = ap (take (6 * r)) e₁ ∙ take_at (take (6 * r) o) (drop (6 * r) result) (6 * r) (length-take-le (6 * r) o (omega arith)) in
    record { long = λ g. absurd (omega arith); short = λ _. (refl, refl, e ∙ rw (l₁, c) refl) }

module _ {pass : Pass} {es : List Edit} {xs : List Node} {o result result' : List ℕ} {n : ℕ} {v : Verdict} where
  pub rewrote_long : {l : TooLong} → Passed pass es xs o (Err l) → Finished o l.0 result result' v n → Rewrote pass es xs result result' v n
  unfolding length_verdict TableAfter
  rewrote_long P F = let x = F.long P.1 in rw (x.0, x.1) (record { verdict = rw P.0 refl; table_after = (refl, x.2) })

  pub rewrote : {r : ℕ} → Passed pass es xs o (Ok r) → Finished o r result result' v n → Rewrote pass es xs result result' v n
  unfolding length_verdict TableAfter
  rewrote P F =
      let x = F.short P.2 in
      rw (x.0, x.1) (record {
        verdict = rw P.0 refl;
        table_after = (P.1, x.2 ∙ rw P.1 (ap (λ (s : List ℕ). s ++ replicate (table_bytes - 6 * length (passed pass es xs)) 0) P.3));
      })

-- ---- what it starts as

-- the same table by another name
pub rewrote_as : {pass : Pass} {es : List Edit} {xs ys : List Node} {result result' : List ℕ} {v : Verdict} {n : ℕ} → xs ≡ ys
    → Rewrote pass es xs result result' v n → Rewrote pass es ys result result' v n
rewrote_as {pass} {es} {result = result} {result'} {v} {n} e R = subst (λ (zs : List Node). Rewrote pass es zs result result' v n) e R

-- the table that an answer gives
pub made_as : {pass : Pass} {es : List Edit} {xs : List Node} {result result' : List ℕ} (r : Result ℕ Refusal)
    → Rewrote pass es xs result result' (outcome r) (nodes_of r) → IfOk r (TableAfter Accepted (passed pass es xs) result result')
made_as (Ok n) w = w.table_after
made_as (Err q) w = tt

-- six zeros are the one node true
pub true_table : {s : List ℕ} → s ≡ replicate node_size 0 → table_of s ≡ one_true
unfolding table_of nodes node_at emit kind_no
true_table e = rw e refl

pub true_fits : nodes_fit 0 one_true ≡ true
true_fits = none_tells.fits
