-- What calls of a session answer, and what they add to its list (this project's own).
use Rattle.std.specs.Prelude.{◌≡◌, ◌≢◌, ◌⊎◌, ℕ, Bool, true, false, List, ◌∷◌, Some, None}
use Rattle.pide_base.specs.declared.part.Part.{Part}
use Rattle.message_values.specs.Asked.{asked}
use Rattle.exec_rules.specs.declared.version.Version.{Version}
use Rattle.language.specs.Lang.{Lang}
use Rattle.core_rules.specs.Ready.{first_ready, is_wanted}
use Rattle.core_rules.specs.Standing.{held, has_ended}
use Rattle.reply_outbox.specs.declared.item.Item.TheVariants.{Made}
use Rattle.session_rules.specs.declared.entry.Entry.{Entry}
use Rattle.session_rules.specs.declared.entry.Entry.TheVariants as entry
use Rattle.session_rules.specs.declared.service.Service.{Service}
use Rattle.session_rules.specs.Services.{mode_of}
use Rattle.session_rules.specs.Session.{Session, document}
use Rattle.session_rules.specs.Steps.{Nothing, due}
use Rattle.session_rules.specs.Legal.{awaited}
use Rattle.session_rules.specs.Alone.{IsUnsettled}
use Rattle.keeping_rules.specs.session_replies_below.Works.{Work}
use Rattle.document_session.specs.declared.taking.Taken.{Taken}
use Rattle.document_session.specs.declared.taking.Taken.TheVariants as taken
use Rattle.document_session.specs.declared.working.Claim.{Claim}
use Rattle.document_session.specs.declared.working.Claim.TheVariants as claim
use Rattle.prover_core.specs.declared.finishing.Finish.{Finish}
use Rattle.prover_core.specs.declared.finishing.Finish.TheVariants as finish
use Rattle.document_session.specs.declared.working.GiveUp.{GiveUp}
use Rattle.document_session.specs.declared.working.GiveUp.TheVariants as give_up
use Rattle.keeping_rules.specs.Items.{SessionItem, heard_in, session_in}
use Rattle.keeping_rules.specs.Works.{IsWorkOf}

-- a worker's entry
abbrev pub is_step : Entry → Bool
is_step (entry.Claimed who part) = true
is_step (entry.Finished who part) = true
is_step (entry.Dropped who part) = true
is_step other = false

-- a message is answered: its call is made, and the worker's entry that it calls for, if it does
abbrev pub IsAnswered : {S : Type 0} → Lang S → Service → List SessionItem → List (List ℕ)
    → List SessionItem → Type 0
IsAnswered l service old message new =
    (new ≡ Made (entry.Call message) ∷ old)
    ⊎ ((step : Entry) × (is_step step ≡ true)
    × (due l service (heard_in service (Made (entry.Call message) ∷ old)) ≢ Nothing)
    × (new ≡ Made step ∷ Made (entry.Call message) ∷ old))

-- a message waits for a version that isn't settled
pub record IsWaiting {S : Type 0} (l : Lang S) (service : Service) (items : List SessionItem)
    (message : List (List ℕ)) : Type 0 where
  pub version : Version
  pub waits_for : awaited l service (heard_in service items) (asked (mode_of service) message)
      ≡ Some version
  pub unsettled : IsUnsettled l (session_in l service items) version

-- a message is answered, or it waits and is handed back
abbrev pub TakenSo : {S : Type 0} → Lang S → Service → List (List ℕ) → List SessionItem → Taken
    → List SessionItem → Type 0
TakenSo l service message old taken.Replied new = IsAnswered l service old message new
TakenSo l service message old (taken.Waits back) new =
    (back ≡ message) × (new ≡ old) × IsWaiting l service old message

-- nothing can be taken by this worker: nothing is ready, it holds a part, or all has ended
abbrev pub IsIdle : {S : Type 0} → Lang S → Session → ℕ → Type 0
IsIdle l s who = (first_ready l s.events ≡ None)
    ⊎ ((held s.events who ≢ None) ⊎ (has_ended s.events ≡ true))

-- a worker claims the first ready part, with its job
abbrev pub IsClaimed : {S : Type 0} → Lang S → Service → ℕ → List SessionItem → Work S
    → List SessionItem → Type 0
IsClaimed l service who old work new = (new ≡ Made (entry.Claimed who work.job.part) ∷ old)
    × IsWorkOf l (session_in l service new) who work

-- a claim takes the first ready part; nothing exactly where the worker can't
abbrev pub ClaimedSo : {S : Type 0} → Lang S → Service → ℕ → List SessionItem → Claim S
    → List SessionItem → Type 0
ClaimedSo l service who old (claim.Job work flag) new = IsClaimed l service who old work new
ClaimedSo l service who old claim.Nothing new =
    (new ≡ old) × IsIdle l (session_in l service old) who
ClaimedSo l service who old claim.NoMemory new = new ≡ old

-- a part is finished where its execution is wanted, else it is let go
abbrev pub FinishedSo : {S : Type 0} → Lang S → Service → ℕ → Part → List SessionItem → Finish
    → List SessionItem → Type 0
FinishedSo l service who part old finish.Finished new =
    (is_wanted (document l (session_in l service old)) part.exec ≡ true)
    × (new ≡ Made (entry.Finished who part) ∷ old)
FinishedSo l service who part old finish.Dropped new =
    (is_wanted (document l (session_in l service old)) part.exec ≡ false)
    × (new ≡ Made (entry.Dropped who part) ∷ old)

-- a part is given up where its execution isn't wanted, else the job goes on as it was
abbrev pub GivenUpSo : {S : Type 0} → Lang S → Service → ℕ → Work S → List SessionItem → GiveUp S
    → List SessionItem → Type 0
GivenUpSo l service who work old give_up.Dropped new =
    (is_wanted (document l (session_in l service old)) work.job.part.exec ≡ false)
    × (new ≡ Made (entry.Dropped who work.job.part) ∷ old)
GivenUpSo l service who work old (give_up.GoOn back) new =
    (is_wanted (document l (session_in l service old)) work.job.part.exec ≡ true)
    × (back ≡ work) × (new ≡ old)
