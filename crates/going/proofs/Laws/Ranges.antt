-- The ranges that the operands of a legal edit are in.
use Rattle.std.specs.Prelude.{◌≡◌, true, not, ◌&&◌, ℕ, ◌≤◌, ◌<◌}
use Rattle.finite.specs.Tests.{same, below}
use Rattle.finite.proofs.Laws.Bools.{and_l, and_r}
use Rattle.finite.proofs.Laws.Below.{below_out}
use Rattle.limits.specs.Limits.{slots, labels, names, links, general_links}
use Rattle.semantics.specs.Edit.{CN1, CN2, AP, DP, AT, DT1, DT2, AS, DS, RT, functional, legal}
use Rattle.site.proofs.Laws.Read.{functional_out}

pub legal-CN1 : (n1 n2 : ℕ) → legal (CN1 n1 n2) ≡ true → (n1 < names) × (n2 < names)
unfolding legal
legal-CN1 n1 n2 p =
    (below_out n1 names (and_l (below n1 names) _ (and_l _ _ p)), below_out n2 names (and_r (below n1 names && not (same n1 0)) _ p))

pub legal-CN2 : (n1 n2 f : ℕ) → legal (CN2 n1 n2 f) ≡ true → (n1 < names) × ((n2 < names) × ((general_links ≤ f) × (f < links)))
unfolding legal
legal-CN2 n1 n2 f p =
    let r : (below n2 names && functional f) ≡ true = and_r (below n1 names && not (same n1 0)) _ p in
    (below_out n1 names (and_l (below n1 names) _ (and_l _ _ p)), (below_out n2 names (and_l _ _ r), functional_out f (and_r (below n2 names) _ r)))

label_range : (n p : ℕ) → (below n names && below p labels) ≡ true → (n < names) × (p < labels)
label_range n p e = (below_out n names (and_l _ _ e), below_out p labels (and_r (below n names) _ e))

pub legal-AP : (n p : ℕ) → legal (AP n p) ≡ true → (n < names) × (p < labels)
unfolding legal
legal-AP n p e = label_range n p e

pub legal-DP : (n p : ℕ) → legal (DP n p) ≡ true → (n < names) × (p < labels)
unfolding legal
legal-DP n p e = label_range n p e

name_range : (n1 n2 : ℕ) → (below n1 names && below n2 names) ≡ true → (n1 < names) × (n2 < names)
name_range n1 n2 e = (below_out n1 names (and_l _ _ e), below_out n2 names (and_r (below n1 names) _ e))

link_range : (m n1 n2 : ℕ) → (below m links && (below n1 names && below n2 names)) ≡ true → (m < links) × ((n1 < names) × (n2 < names))
link_range m n1 n2 e = (below_out m links (and_l _ _ e), name_range n1 n2 (and_r (below m links) _ e))

pub legal-AT : (m n1 n2 : ℕ) → legal (AT m n1 n2) ≡ true → (m < links) × ((n1 < names) × (n2 < names))
unfolding legal
legal-AT m n1 n2 e = link_range m n1 n2 e

pub legal-DT1 : (m n1 n2 : ℕ) → legal (DT1 m n1 n2) ≡ true → (m < links) × ((n1 < names) × (n2 < names))
unfolding legal
legal-DT1 m n1 n2 e = link_range m n1 n2 e

pub legal-DT2 : (f n : ℕ) → legal (DT2 f n) ≡ true → ((general_links ≤ f) × (f < links)) × (n < names)
unfolding legal
legal-DT2 f n e = (functional_out f (and_l _ _ e), below_out n names (and_r (functional f) _ e))

pub legal-AS : (n k : ℕ) → legal (AS n k) ≡ true → (n < names) × (k < slots)
unfolding legal
legal-AS n k e = (below_out n names (and_l (below n names) _ (and_l _ _ e)), below_out k slots (and_r (below n names && not (same n 0)) _ e))

pub legal-DS : (n : ℕ) → legal (DS n) ≡ true → n < names
unfolding legal
legal-DS n e = below_out n names e

pub legal-RT : (f n1 n2 : ℕ) → legal (RT f n1 n2) ≡ true → ((general_links ≤ f) × (f < links)) × ((n1 < names) × (n2 < names))
unfolding legal
legal-RT f n1 n2 e = (functional_out f (and_l _ _ e), name_range n1 n2 (and_r (functional f) _ e))

-- all of them
pub ruleset ranges = (legal-CN1, legal-CN2, legal-AP, legal-DP, legal-AT, legal-DT1, legal-DT2, legal-AS, legal-DS, legal-RT)
