-- What is known of inputs that are not refused.
use Rattle.std.specs.Prelude.{◌≡◌, List, ℕ}
use Rattle.verdict.specs.Verdict.{Accepted}
use Rattle.site.specs.Refusal.{site_verdict}
use Rattle.refusals.specs.Refusal.{buffer_verdict}
use Rattle.refusals.proofs.Laws.Items.{buffer_out, then_out}
use Rattle.classes_entry.specs.Refusal.{classes_bytes, classes_verdict}

pub record Accepts (classes_len : ℕ) (site : List ℕ) : Type 0 where
  pub classes_size : classes_len ≡ classes_bytes
  pub site_accepted : site_verdict site ≡ Accepted

pub classes_accepts : (classes_len : ℕ) (site : List ℕ) → classes_verdict classes_len site ≡ Accepted → Accepts classes_len site
unfolding classes_verdict
classes_accepts classes_len site e =
    let p = then_out (buffer_verdict classes_len classes_bytes) (site_verdict site) e in
    record { classes_size = buffer_out classes_len classes_bytes p.0; site_accepted = p.1 }
