-- Which replies small editors don't expect, computed (this project's own).
use Rattle.std.specs.Prelude.{◌≡◌, List, [], ◌∷◌, codes, Option, Some, None}
use Rattle.byte_message.specs.declared.frame_fault.FrameFault.TheVariants as frame
use Rattle.report_markup.specs.declared.kind.ReportKind.TheVariants as report
use Rattle.message_values.specs.declared.editor_message.EditorMessage.TheVariants as asks
use Rattle.message_values.specs.declared.mode.Mode.TheVariants.{Replay}
use Rattle.message_values.specs.declared.refusal.Refusal.TheVariants.{VersionNotHigher}
use Rattle.reply_messages.specs.declared.told.Told.TheVariants as tells
use Rattle.mirror_rules.specs.declared.fault.MirrorFault.{MirrorFault}
use Rattle.mirror_rules.specs.declared.fault.MirrorFault.TheVariants.{Frame, Unexpected}
use Rattle.mirror_rules.specs.Moves.{Move, Heard, Broken, mirrored}
use Rattle.mirror_rules.specs.Small.{said, eval, update, rows, sends, hears, exchange, fault_in, fault}
use Rattle.mirror_rules.specs.Worked.{opened, in_symbols}

-- the reply that was heard last is unexpected
abbrev pub unexpected : Option MirrorFault
unexpected = Some (Unexpected 7)

-- no reply; one that answers nothing; another than the message has; of another version; reports of
-- what no command has, and behind a command's end; rows for an update that is refused; and rows of
-- another node and of another command
pub record Faults : Type 0 where
  pub unread : fault (Heard 7 None ∷ []) ≡ unexpected
  pub nothing : fault (hears [] (tells.Settled 1 [])) ≡ unexpected
  pub another : fault (exchange opened (asks.Settle 1) (tells.Removed (1 ∷ []))) ≡ unexpected
  pub version : fault (exchange opened (asks.Settle 1) (tells.Settled 2 [])) ≡ unexpected
  pub nowhere : fault (hears opened (tells.Report (eval 9) [])) ≡ unexpected
  pub outside : fault (hears opened (tells.Report (eval 3) (said report.Command 0 5 ∷ [])))
      ≡ unexpected
  pub uncounted : fault (hears in_symbols (tells.Report (eval 2) (said report.Formula 0 1 ∷ [])))
      ≡ unexpected
  pub refused : fault (exchange opened (update 1 []) (tells.Assign 1 [])) ≡ unexpected
  pub node : fault (exchange opened (update 2 []) (tells.Assign 2 (rows (codes "Z") [] ∷ [])))
      ≡ unexpected
  pub command : fault (exchange opened (update 2 [])
      (tells.Assign 2 (rows (codes "A") ((9, []) ∷ []) ∷ []))) ≡ unexpected

-- what is no fault: reports and dropped parts before an answer, and a refusal of any message
pub record NoFaults : Type 0 where
  pub report : fault (hears (sends opened (asks.Settle 1)) (tells.Report (eval 1) [])) ≡ None
  pub dropped : fault (hears (sends opened (asks.Settle 1)) (tells.Dropped (eval 1))) ≡ None
  pub refusal : fault (exchange opened (update 1 []) (tells.Refused VersionNotHigher)) ≡ None

-- a finish that waits for its step
abbrev pub finishing : List Move
finishing = sends (exchange opened (asks.Claim 1) (tells.Claimed 1 (eval 1))) (asks.Finish 1)

-- in a script a report answers a finish, and one behind it nothing
pub record AScript : Type 0 where
  pub finished : fault_in (mirrored Replay
      (exchange (hears finishing (tells.Report (eval 1) [])) (asks.Settle 1) (tells.Settled 1 [])))
      ≡ None
  pub waits : fault_in (mirrored Replay
      (exchange finishing (asks.Settle 1) (tells.Settled 1 []))) ≡ unexpected

-- the first fault stays
pub record TheFirstFault : Type 0 where
  pub broken : fault (Broken (frame.BadHeader 0) ∷ []) ≡ Some (Frame (frame.BadHeader 0))
  pub first : fault (Broken (frame.BadHeader 0) ∷ Heard 7 None ∷ []) ≡ unexpected
