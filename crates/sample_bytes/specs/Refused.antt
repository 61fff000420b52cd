-- Calls that are refused: the item, W, and zeros.
use Rattle.std.specs.Prelude.{◌≡◌, List, ℕ, replicate}
use Rattle.bitset.specs.Set.{set_bytes}
use Rattle.site.specs.Layout.{site_bytes}
use Rattle.limits.specs.Limits.{table_bytes}
use Rattle.verdict.specs.Verdict.{Accepted}
use Rattle.editions.specs.Edition.{edition_verdict}
use Rattle.trailer.specs.Refusal.{trailer_verdict}
use Rattle.trailer.specs.Pieces.{site_in}
use Rattle.listing.specs.Listed.{found_of}
use Rattle.classes_entry.specs.Refusal.{classes_bytes}
use Rattle.demands.specs.Demand1.{ZeroJob}
use Rattle.demands.specs.Demands.{ApplyCall, RewriteCall, ListCall, ClassCall}
use Rattle.demands.specs.Job.{JobCall}

pub record RefusedWith (reason fault item w : ℕ) : Type 0 where
  pub reason_is : reason ≡ item
  pub fault_is : fault ≡ w

-- with one result buffer, of this size, and a count
pub record NoAnswer (reason fault count size : ℕ) (buffer' : List ℕ) (item w : ℕ) : Type 0 where
  pub refused : RefusedWith reason fault item w
  pub count_none : count ≡ 0
  pub zeros : buffer' ≡ replicate size 0

-- applying has no count
abbrev pub NotApplied : {edition : ℕ} {site sheet : List ℕ} → ApplyCall edition site sheet → (item w : ℕ) → Type 0
NotApplied call = NoAnswer call.reason call.fault 0 site_bytes call.result'

abbrev pub NotRewritten : {edition : ℕ} {table sheet : List ℕ} → RewriteCall edition table sheet → (item w : ℕ) → Type 0
NotRewritten call = NoAnswer call.reason call.fault call.nodes table_bytes call.result'

-- listing has rounds too
pub record NotListed {site table : List ℕ} (call : ListCall site table) (item w : ℕ) : Type 0 where
  pub no_set : NoAnswer call.reason call.fault call.count set_bytes call.set' item w
  pub no_rounds : call.rounds ≡ 0

abbrev pub NotClassed : {site : List ℕ} → ClassCall site → (item w : ℕ) → Type 0
NotClassed call = NoAnswer call.reason call.fault call.count classes_bytes call.classes'

pub record NotRun {file : List ℕ} (call : JobCall file) (item w : ℕ) : Type 0 where
  pub refused : RefusedWith call.reason call.fault item w
  pub zeros : ZeroJob call.lent call.lent' (found_of call.after call.after_rounds) (found_of call.today call.today_rounds) call.nodes
      call.classes

-- each call that is given the site, and a known edition beside a sheet, is refused with the item
pub record SiteRefused (site : List ℕ) (item : ℕ) : Type 0 where
  pub listing : (table : List ℕ) (call : ListCall site table) → NotListed call item 0
  pub applying : (edition : ℕ) (sheet : List ℕ) → edition_verdict edition ≡ Accepted → (call : ApplyCall edition site sheet) → NotApplied call item 0
  pub classes : (call : ClassCall site) → NotClassed call item 0
  pub job : (file : List ℕ) → trailer_verdict file ≡ Accepted → site_in file ≡ site → (call : JobCall file) → NotRun call item 0
