-- What the reader knows after its turns, by its own items (this project's own).
use Rattle.std.specs.Prelude.{◌≡◌, ◌≢◌, ℕ, List, [], ◌∷◌, ◌++◌}
use Rattle.std.specs.List.{All}
use Rattle.language.specs.Lang.{Lang}
use Rattle.hist_lock.specs.declared.view.View.{View}
use Rattle.worker_loop.specs.Answers.{Makes}
use Rattle.worker_loop.specs.Rounds.{HasSeen}
use Rattle.worker_loop.specs.Stays.{SeesOn, Stays}
use Rattle.worker_loop.specs.declared.said.Said.TheVariants as said
use Rattle.reply_outbox.specs.declared.item.Item.TheVariants as item
use Rattle.session_rules.specs.declared.entry.Entry.TheVariants as entry
use Rattle.document_session.specs.keeping_rules_below.Items.{SessionItem}
use Rattle.document_session.specs.declared.working.Claim.{Claim}
use Rattle.document_session.specs.declared.working.Claim.TheVariants as claim
use Rattle.thread_serve.specs.declared.taking.Taking.{Taking}
use Rattle.thread_serve.specs.declared.taking.Taking.TheVariants as taking
use Rattle.view_laws.specs.Histories.{IsLegalLog}
use Rattle.view_laws.specs.Idle.{HasNothingToDo}
use Rattle.view_laws.specs.Says.{says}
use Rattle.view_laws.specs.Works.{IsRightWork}

-- none of these items is the end
abbrev pub HasNoEnd : List SessionItem → Type 0
HasNoEnd items = All (λ one. says one ≢ said.Ended) items

module _ {S : Type 0} (l : Lang S) where
  -- the first ready part was claimed, with its job; or the reader may wait for another item
  abbrev pub HasClaimed : View SessionItem → Claim S → View SessionItem → Type 0
  HasClaimed v (claim.Job work flag) w = Makes says v (said.Claimed work.job.part) w
      × Stays (IsLegalLog l) w.seen (λ log. IsRightWork l log work)
  HasClaimed v claim.Nothing w = SeesOn v w × HasNothingToDo l w.seen w.caller
  HasClaimed v claim.NoMemory w = SeesOn v w

  -- the message was called; or it waits, and a part may be claimed; or nothing was made, as the
  -- answer says
  abbrev pub HasTaken : List (List ℕ) → View SessionItem → Taking S → View SessionItem → Type 0
  HasTaken message v taking.Replied w =
      w.mine ≡ v.mine ++ item.Made (entry.Call message) ∷ []
  HasTaken message v (taking.Waits back claim) w = (back ≡ message) × HasClaimed v claim w
  HasTaken message v taking.Lost w = SeesOn v w × HasSeen says w said.Lost
  HasTaken message v taking.NoMemory w = SeesOn v w
