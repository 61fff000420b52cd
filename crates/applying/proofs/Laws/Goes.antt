-- Item 13 accepts a sheet exactly where it goes through.
use Rattle.std.specs.Prelude.{◌≡◌, true, false, List, Err}
use Rattle.std.proofs.Common.{sym}
use Rattle.finite.proofs.Laws.Bools.{either, look}
use Rattle.semantics.specs.Holds.{Model}
use Rattle.semantics.specs.Edit.{Edit, sheet_goes}
use Rattle.verdict.proofs.Laws.{refused}
use Rattle.verdict.specs.Verdict.{Accepted}
use Rattle.verdict.specs.declared.Refusal.{Refusal}
use Rattle.applying.specs.Refusal.{goes_verdict}

-- item 13 accepts a sheet only where it goes through
pub goes_out : (es : List Edit) (M : Model) → goes_verdict es M ≡ Accepted → sheet_goes es M ≡ true
unfolding goes_verdict
goes_out es M e = either (look (sheet_goes es M)) (λ g. g) (λ g. refused (rw g at e))

-- item 13 refuses a sheet only where it does not go through
pub goes-not : (es : List Edit) (M : Model) {r : Refusal} → goes_verdict es M ≡ Err r → sheet_goes es M ≡ false
unfolding goes_verdict
goes-not es M e = either (look (sheet_goes es M)) (λ g. refused (sym (rw g at e))) (λ g. g)
