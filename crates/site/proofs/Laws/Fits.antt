-- The tests by sets say that items 4 to 6 are not met.
use Rattle.std.specs.Prelude.{◌≡◌, refl, ◌≢◌, Bool, true, false, not, ◌&&◌, ◌||◌, List, ℕ, ◌+◌, ◌*◌, ◌≤◌, ◌<◌, get_or}
use Rattle.std.proofs.Common.{sym, ◌∙◌, ap, arith}
use Rattle.std.proofs.Math.Bool.{not-not, or-false}
use Rattle.finite.specs.Tests.{same, any, all, bit}
use Rattle.finite.proofs.Laws.Bools.{either, look, no_true, not_out, or_l, or_r, imp_and}
use Rattle.finite.proofs.Laws.Below.{equal?, same_refl, eq_same, ne_same, all_cong, all_in, any_none}
use Rattle.finite.proofs.Laws.Loops.{all-not}
use Rattle.finite.proofs.Laws.Weights.{no_bits}
use Rattle.finite.proofs.Laws.Dual.{none-all}
use Rattle.bitset.specs.Set.{set_bytes, set_slots, has, Is}
use Rattle.bitset.proofs.Laws.Bytes.{has_byte}
use Rattle.limits.specs.Limits.{slots, labels, names, links, general_links}
use Rattle.semantics.specs.Holds.{Model}
use Rattle.site.specs.Layout.{label_at, target_at, row_at}
use Rattle.site.specs.Site.{site_of}
use Rattle.site.specs.Refusal.{item4, item5, item6, barred, touches}
use Rattle.site.specs.Inside.{OnSite, inside, row_inside, target_inside}
use Rattle.site.proofs.Laws.Read.{marked_is, row_is, target_is}

-- ---- item 4

pub nil_absent : (M : Model) → M.present 0 ≡ false → not (item4 M) ≡ false
unfolding item4
nil_absent M e = rw e

pub nil_elsewhere : (M : Model) → M.place 0 ≢ 0 → not (item4 M) ≡ false
unfolding item4
nil_elsewhere M n = ap not (or_r (not (M.present 0)) _ (or_l (not (same (M.place 0) 0)) _ (ap not (ne_same n))))

pub names_present : (M : Model) → M.present 0 ≡ true → M.place 0 ≡ 0 → not (item4 M) ≡ all names (λ n. M.present (M.place n))
unfolding item4
names_present M p e =
    rw (p, e, same_refl 0, none-all names (λ n. not (M.present (M.place n))))
    (all_cong names (λ n. not (not (M.present (M.place n)))) (λ n. M.present (M.place n)) (λ n h. not-not (M.present (M.place n))))

-- ---- the slots where labels and links may be

-- slot 0 is taken out of the present ones
pub onsite_are : (S X Y : List ℕ) → Is X (site_of S).present → Is Y (λ t. has X t && not (same t 0)) → OnSite S Y
unfolding barred
onsite_are S X Y p h s hs = h s hs ∙ ap (λ (b : Bool). b && not (same s 0)) (p s hs) ∙ swap ((site_of S).present s) (same s 0)
  where
    swap : (a b : Bool) → (a && not b) ≡ not (b || not a)
    swap true true = refl
    swap true false = refl
    swap false true = refl
    swap false false = refl

-- ---- item 5

pub labels-inside : (S E : List ℕ) → OnSite S E → all labels (λ p. inside S (label_at p) E) ≡ not (item5 (site_of S))
unfolding item5 slots
labels-inside S E i = sym (none-all labels _ ∙ all_cong labels _ _ (λ p hp. none-all slots _ ∙ all_cong slots _ _ (λ s hs. point p s hp hs)))
  where
    point : (p s : ℕ) → p < labels → s < slots
        → not ((site_of S).marked p s && barred (site_of S) s) ≡ (not (has S (label_at p * 8 + s)) || has E s)
    point p s hp hs =
        let b : Bool = barred (site_of S) s in
        rw (i s hs, ← (marked_is S p s hp hs))
        (ap (λ x. not ((site_of S).marked p s && x)) (sym (not-not b)) ∙ sym (imp_and ((site_of S).marked p s) (not b)))

-- ---- item 6

-- a row T from which no link may start
pub row-none : (S E T : List ℕ) (b s : ℕ) → Is T (λ t. has S (b * 8 + t)) → has E s ≡ false → not (any set_slots (has T)) ≡ row_inside S b E s
row-none S E T b s i h =
    none-all set_slots (has T)
    ∙ all_cong set_slots _ _ (λ t ht. rw h (ap not (i t ht) ∙ sym (or-false (not (has S (b * 8 + t))))))

-- 32 bytes that are an empty set T are 0; targets that are all none fit
no_bytes : (S T : List ℕ) (b j : ℕ) → j < set_bytes → get_or S (b + j) 0 < 256 → Is T (λ t. has S (b * 8 + t)) → not (any set_slots (has T)) ≡ true → get_or S (b + j) 0 ≡ 0
no_bytes S T b j h small e p = no_bits 8 _ small clear
  where
    clear : (i : ℕ) → i < 8 → bit (get_or S (b + j) 0) i ≡ false
    clear i l =
        let at : (b + j) * 8 + i ≡ b * 8 + (j * 8 + i) = omega arith in
        let none : any set_slots (has T) ≡ false = no_true (not_out _ p) in
        sym (has_byte S (b + j) i l) ∙ ap (has S) at ∙ sym (e (j * 8 + i) (omega arith)) ∙ any_none set_slots (has T) none (j * 8 + i) (omega arith)

pub none_fit : (S E T : List ℕ) (f k b : ℕ) → b ≡ target_at f (set_bytes * k) → ((j : ℕ) → j < set_bytes → get_or S (b + j) 0 < 256) → Is T (λ t. has S (b * 8 + t)) → not (any set_slots (has T)) ≡ true
    → all set_bytes (λ j. target_inside E (set_bytes * k + j) (get_or S (target_at f (set_bytes * k + j)) 0)) ≡ true
none_fit S E T f k b e small i p =
    all_in set_bytes _ (λ j h.
    let at : target_at f (set_bytes * k + j) ≡ b + j = omega (arith, e) in
    or_l _ _ (eq_same (ap (λ i. get_or S i 0) at ∙ no_bytes S T b j h (small j h) i p)))

-- the target v, read as t
pub target_some : (E : List ℕ) (s t v : ℕ) → t ≡ v → t ≢ 0 → (has E s && has E t) ≡ target_inside E s v
target_some E s t v e n = rw (← e, ne_same n)

pub target_no : (E : List ℕ) (s v : ℕ) → 0 ≡ v → true ≡ target_inside E s v
target_no E s v e = rw (eq_same (sym e))

touches-all : (M : Model) (m : ℕ)
    → not (touches M m) ≡ all slots (λ s. all slots (λ t. not (M.link m s t) || (not (barred M s) && not (barred M t))))
unfolding touches
touches-all M m = none-all slots _ ∙ all_cong slots _ _ (λ s hs. none-all slots _ ∙ all_cong slots _ _ (λ t ht. point (M.link m s t) (barred M s) (barred M t)))
  where
    point : (l a b : Bool) → not (l && (a || b)) ≡ (not l || (not a && not b))
    point true true b = refl
    point true false b = refl
    point false a b = refl

-- a general link by its rows
pub link_rows : (S E : List ℕ) (m : ℕ) → m < general_links → OnSite S E
    → all set_slots (λ s. row_inside S (row_at m s) E s) ≡ not (touches (site_of S) m)
unfolding slots
link_rows S E m hm i =
    sym (touches-all (site_of S) m ∙ all_cong slots _ _ (λ s hs. all_cong slots _ _ (λ t ht. rw (row_is S m s t hm hs ht, i s hs, i t ht))))

-- where all but one pass by themselves, that one decides
all_single : (n : ℕ) (f : ℕ → Bool) (v : ℕ) → v < n → ((t : ℕ) → t ≢ v → f t ≡ true) → all n f ≡ f v
all_single n f v hv h =
    either
    (look (f v))
    (λ e. all_in n f (λ t l. either (equal? t v) (λ q. rw q e) (h t)) ∙ sym e)
    (λ e. all-not n f v hv e ∙ sym e)

target-all : (v : ℕ) (a : Bool) (e : ℕ → Bool) → v < slots
    → all slots (λ t. not (same v t && not (same t 0)) || (a && e t)) ≡ (same v 0 || (a && e v))
target-all v a e h =
    all_single slots _ v h (λ t n. rw (ne_same (λ q. n (sym q))))
    ∙ rw (same_refl v, not-not (same v 0))

-- a functional link by its targets
pub link_targets : (S E : List ℕ) (f : ℕ) → general_links ≤ f → f < links → ((s : ℕ) → get_or S (target_at f s) 0 < slots)
    → OnSite S E
    → all set_slots (λ s. target_inside E s (get_or S (target_at f s) 0)) ≡ not (touches (site_of S) f)
unfolding slots
link_targets S E f hg hl b i =
    sym (touches-all (site_of S) f ∙ all_cong slots _ _ (λ s hs. all_cong slots _ _ (λ t ht. rw (target_is S f s t hg hl hs ht)) ∙ single s hs))
  where
    M : Model
    M = site_of S

    single : (s : ℕ) → s < slots
        → all slots (λ t. not (same (get_or S (target_at f s) 0) t && not (same t 0)) || (not (barred M s) && not (barred M t)))
        ≡ target_inside E s (get_or S (target_at f s) 0)
    single s hs =
        target-all (get_or S (target_at f s) 0) (not (barred M s)) (λ t. not (barred M t)) (b s)
        ∙ rw (i s hs, i (get_or S (target_at f s) 0) (b s))

pub links-all : (M : Model) → not (item6 M) ≡ all links (λ m. not (touches M m))
unfolding item6
links-all M = none-all links _

-- what a test's answer r says of the item
pub item_met : (r b : Bool) → r ≡ not b → not r ≡ true → b ≡ true
item_met r true e p = refl
item_met r false e p = sym (ap not e) ∙ p

pub item_unmet : (r b : Bool) → r ≡ not b → not r ≡ false → b ≡ false
item_unmet r true e p = sym (ap not e) ∙ p
item_unmet r false e p = refl
