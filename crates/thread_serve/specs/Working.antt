-- What the reader and workers are answered, and what that adds to the list (this project's own).
use Rattle.std.specs.Prelude.{◌≡◌, ◌≢◌, ◌⊎◌, ℕ, ◌≤◌, true, false, List, [], ◌∷◌, ◌++◌, reverse, None}
use Rattle.language.specs.Lang.{Lang}
use Rattle.core_rules.specs.Ready.{first_ready}
use Rattle.core_rules.specs.Standing.{held}
use Rattle.reply_outbox.specs.declared.item.Item.TheVariants as item
use Rattle.reply_outbox.specs.Items.{is_lost}
use Rattle.session_rules.specs.declared.entry.Entry.TheVariants as entry
use Rattle.document_session.specs.keeping_rules_below.Items.{SessionItem}
use Rattle.document_session.specs.declared.taking.Taken.{Taken}
use Rattle.document_session.specs.declared.taking.Taken.TheVariants as taken
use Rattle.document_session.specs.Answers.{ClaimedSo, IsClaimed, IsWaiting}
use Rattle.view_laws.specs.Callers.{service_of, worker_count}
use Rattle.view_laws.specs.Histories.{session_after}
use Rattle.thread_serve.specs.declared.claiming.Claiming.{Claiming}
use Rattle.thread_serve.specs.declared.claiming.Claiming.TheVariants as claiming
use Rattle.thread_serve.specs.declared.taking.Taking.{Taking}
use Rattle.thread_serve.specs.declared.taking.Taking.TheVariants as taking
use Rattle.thread_serve.specs.Contents.{SharedState}
use Rattle.thread_serve.specs.Ends.{HasEnded, IsGoing}
use Rattle.thread_serve.specs.Room.{is_backed_up}

module _ {S : Type 0} (l : Lang S) where
  -- a message is answered by its call, or it waits
  abbrev pub AnswersSo : List (List ℕ) → List SessionItem → Taken → List SessionItem → Type 0
  AnswersSo message old taken.Replied new = new ≡ old ++ item.Made (entry.Call message) ∷ []
  AnswersSo message old (taken.Waits back) new =
      (back ≡ message) × (new ≡ old) × IsWaiting l (service_of old) (reverse old) message

  -- a message waits for its version, or for the writer
  abbrev pub MustWait : List (List ℕ) → SharedState → Type 0
  MustWait message old = IsWaiting l (service_of old.log) (reverse old.log) message
      ⊎ (is_backed_up old ≡ true)

  -- a message is answered by its call, where not too much waits for the writer; or it waits, and the
  -- reader claims a part if one is ready; or it is given up
  abbrev pub TakesSo : List (List ℕ) → SharedState → Taking S → List SessionItem → Type 0
  TakesSo message old taking.Replied new =
      (new ≡ old.log ++ item.Made (entry.Call message) ∷ []) × (is_backed_up old ≡ false)
  TakesSo message old (taking.Waits back claim) new = (back ≡ message) × MustWait message old
      × ClaimedSo l (service_of old.log) 0 (reverse old.log) claim (reverse new)
  TakesSo message old taking.Lost new = (new ≡ old.log) × (is_lost (reverse old.log) ≡ true)
  TakesSo message old taking.NoMemory new = new ≡ old.log

  -- a worker finds nothing to claim: no part is ready, or it holds one
  abbrev pub FindsNoPart : ℕ → List SessionItem → Type 0
  FindsNoPart who old = (first_ready l (session_after l old).events ≡ None)
      ⊎ (held (session_after l old).events who ≢ None)

  -- a worker claims the first ready part, unless all has ended or the sink is lost
  abbrev pub ClaimsSo : ℕ → List SessionItem → Claiming S → List SessionItem → Type 0
  ClaimsSo who old (claiming.Job work flag) new =
      IsClaimed l (service_of old) who (reverse old) work (reverse new)
  ClaimsSo who old claiming.Nothing new =
      (new ≡ old) × (who ≤ worker_count old) × IsGoing l old × FindsNoPart who old
  ClaimsSo who old claiming.Ended new = (new ≡ old) × HasEnded l old
  ClaimsSo who old claiming.Lost new = (new ≡ old) × (is_lost (reverse old) ≡ true)
  ClaimsSo who old claiming.NoMemory new = new ≡ old
