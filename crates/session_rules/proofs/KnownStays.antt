-- What waits goes on waiting while the reader works.
use Rattle.std.proofs.Common.{◌≡◌, zero, suc, List, [], ◌∷◌, Option, None, Some, Result, Ok, Err, refl, ap}
use Rattle.std.specs.Prelude.{if◌then◌else◌}
use Rattle.pide_base.specs.declared.part.Part.{Part}
use Rattle.exec_rules.specs.declared.version.Version.{Version}
use Rattle.language.specs.Lang.{Lang}
use Rattle.message_values.specs.declared.editor_message.EditorMessage.{EditorMessage}
use Rattle.message_values.specs.declared.editor_message.EditorMessage.TheVariants as asks
use Rattle.message_values.specs.declared.refusal.Refusal.{Refusal}
use Rattle.message_values.specs.declared.refusal.Refusal.TheVariants.{StepHeld}
use Rattle.buffer_laws.specs.buffer_rules_below.Trying.{◌>>=◌}
use Rattle.session_rules.specs.declared.service.Service.{Service}
use Rattle.session_rules.specs.declared.service.Service.TheVariants.{Workers, Script}
use Rattle.session_rules.specs.Services.{is_held_by_script}
use Rattle.session_rules.specs.Heard.{Heard, Message, Claimed, Finished, Dropped, Ended}
use Rattle.session_rules.specs.History.{session}
use Rattle.session_rules.specs.Legal.{awaited}
use Rattle.session_rules.specs.Legal.{awaited_by as settled_version}
use Rattle.session_rules.specs.Looking.{version_in}
use Rattle.session_rules.specs.Alone.{IsAlone}

-- a script's workers hold what they held, whatever the reader takes and finishes
script_same : {S : Type 0} (l : Lang S) (service : Service) (h : List Heard) (part : Part)
    → is_held_by_script service (session l service (Finished 0 part ∷ Claimed 0 part ∷ h)).events
    ≡ is_held_by_script service (session l service h).events
script_same l (Workers count) h part = refl
script_same l Script h part = refl

-- a message waits for the same version
pub awaited_stays : {S : Type 0} (l : Lang S) (service : Service) (h : List Heard) (part : Part) (read : Result EditorMessage Refusal)
    → awaited l service (Finished 0 part ∷ Claimed 0 part ∷ h) read ≡ awaited l service h read
awaited_stays l service h part (Err reason) = refl
awaited_stays l service h part (Ok (asks.Update version items blobs)) = refl
awaited_stays l service h part (Ok (asks.Snapshot version node edits)) = refl
awaited_stays l service h part (Ok (asks.Cancel exec)) = refl
awaited_stays l service h part (Ok (asks.RemoveVersions versions)) = refl
awaited_stays l service h part (Ok (asks.Settle id)) =
    ap (λ b. settled_version (version_in l (session l service h) id >>= λ version. if b then Err StepHeld else Ok version)) (script_same l service h part)
awaited_stays l service h part (Ok (asks.Protocol protocol)) = refl
awaited_stays l service h part (Ok (asks.Claim w)) = refl
awaited_stays l service h part (Ok (asks.Finish w)) = refl
awaited_stays l service h part (Ok (asks.Theory node text)) = refl

-- a session that waits for nothing may be one that waits
pub may_wait : {S : Type 0} (l : Lang S) (service : Service) (o : Option Version) (h : List Heard) → IsAlone l service None h → IsAlone l service o h
may_wait l service None h a = a
may_wait l service (Some version) [] a = a
may_wait l service (Some version) (Message read ∷ h) a = a
may_wait l service (Some version) (Ended ∷ h) a = a
may_wait l service (Some version) (Claimed (suc w) p ∷ h) a = a
may_wait l service (Some version) (Finished (suc w) p ∷ h) a = a
may_wait l service (Some version) (Dropped (suc w) p ∷ h) a = a
may_wait l service (Some version) (Claimed zero p ∷ h) a = absurd (a)
may_wait l service (Some version) (Finished zero p ∷ h) a = absurd (a)
may_wait l service (Some version) (Dropped zero p ∷ h) a = absurd (a)
