-- What the reader may do while a message waits (this project's own).
use Rattle.std.specs.Prelude.{◌≡◌, Some, None}
use Rattle.language.specs.Lang.{Lang}
use Rattle.hist_lock.specs.declared.view.View.{View}
use Rattle.worker_loop.specs.Held.{held_in}
use Rattle.worker_loop.specs.Stays.{Stays}
use Rattle.document_session.specs.keeping_rules_below.Items.{SessionItem}
use Rattle.document_session.specs.declared.working.Claim.{Claim}
use Rattle.document_session.specs.declared.working.Claim.TheVariants as claim
use Rattle.view_laws.specs.Histories.{IsLegalLog}
use Rattle.view_laws.specs.Idle.{HasNothingToDo}
use Rattle.view_laws.specs.Says.{says}
use Rattle.view_laws.specs.Works.{IsRightWork}

-- it holds the part of a right job; or it holds none, and may wait for another item where it was
-- told so
abbrev pub MayPassTime : {S : Type 0} → Lang S → Claim S → View SessionItem → Type 0
MayPassTime l (claim.Job work flag) v = (held_in says v.mine ≡ Some work.job.part)
    × Stays (IsLegalLog l) v.seen (λ log. IsRightWork l log work)
MayPassTime l claim.Nothing v = (held_in says v.mine ≡ None) × HasNothingToDo l v.seen v.caller
MayPassTime l claim.NoMemory v = held_in says v.mine ≡ None
