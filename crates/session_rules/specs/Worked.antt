-- What small sessions come to, computed (this project's own).
use Rattle.std.specs.Prelude.{◌≡◌, ℕ, true, false, List, [], ◌∷◌, codes, Ok, Err}
use Rattle.report_markup.specs.declared.kind.ReportKind.TheVariants as report
use Rattle.report_markup.specs.declared.report.Report.{Report}
use Rattle.text_edits.specs.declared.edit.Edit.TheVariants.{Insert}
use Rattle.message_values.specs.declared.editor_message.EditorMessage.TheVariants as asks
use Rattle.message_values.specs.declared.protocol.Protocol.TheVariants.{Symbols}
use Rattle.message_values.specs.declared.refusal.Refusal.TheVariants as refusal
use Rattle.reply_messages.specs.declared.told.NodeRows.{NodeRows}
use Rattle.reply_messages.specs.declared.told.Told.TheVariants as tells
use Rattle.core_rules.specs.Small.{eval}
use Rattle.session_rules.specs.Heard.{Heard, Message, Claimed, Finished, Dropped}
use Rattle.session_rules.specs.Small.{update, settle, snapshot, cancel, remove, claim, finish, two_commands, alone, scripted}

-- a node `A` of two commands, each with its evaluation
abbrev pub rows : ℕ → ℕ → List NodeRows
rows one other = record {
  node = codes "A";
  rows = record { command = 1; executions = one ∷ [] }
      ∷ record { command = 2; executions = other ∷ [] } ∷ [];
} ∷ []

-- a command that is said at a range
abbrev pub said : ℕ → ℕ → Report
said start stop = record {
  range = record { start = start; stop = stop };
  kind = report.Command;
  properties = [];
  text = [];
}

-- a version is made
abbrev pub made : List Heard
made = update 1 (two_commands ∷ []) ∷ []

-- the reader has evaluated its first command
abbrev pub begun : List Heard
begun = Finished 0 (eval 1) ∷ Claimed 0 (eval 1) ∷ made

-- and its second
abbrev pub whole : List Heard
whole = Finished 0 (eval 2) ∷ Claimed 0 (eval 2) ∷ begun

-- what is told: the assignment, reports, the settle, what is shown then and before, and what of it
-- pending edits leave
pub record AFirstVersion : Type 0 where
  pub assigned : alone [] (update 1 (two_commands ∷ [])) ≡ tells.Assign 1 (rows 1 2) ∷ []
  pub claimed : alone made (Claimed 0 (eval 1)) ≡ []
  pub reported : alone (Claimed 0 (eval 1) ∷ made) (Finished 0 (eval 1))
      ≡ tells.Report (eval 1) (said 0 14 ∷ []) ∷ []
  pub pending : alone begun (snapshot 1 (codes "A") [])
      ≡ tells.Markup 1 (codes "A") (said 0 14 ∷ []) (2 ∷ []) false ∷ []
  pub settled : alone whole (settle 1) ≡ tells.Settled 1 [] ∷ []
  pub shown : alone whole (snapshot 1 (codes "A") [])
      ≡ tells.Markup 1 (codes "A") (said 0 14 ∷ said 15 18 ∷ []) [] false ∷ []
  pub edited : alone whole (snapshot 1 (codes "A") (Insert 14 (codes "  ") ∷ []))
      ≡ tells.Markup 1 (codes "A") (said 0 16 ∷ said 17 20 ∷ []) [] true ∷ []

-- a worker takes a part by a message
abbrev pub taken : List Heard
taken = Claimed 1 (eval 1) ∷ claim 1 ∷ made

-- its execution is cancelled, and the part is let go
abbrev pub let_go : List Heard
let_go = Dropped 1 (eval 1) ∷ finish 1 ∷ cancel 1 ∷ taken

-- what is told of it; what is stuck then; and the next version has new executions
pub record ACancelledClaim : Type 0 where
  pub asked : scripted made (claim 1) ≡ []
  pub claimed : scripted (claim 1 ∷ made) (Claimed 1 (eval 1))
      ≡ tells.Claimed 1 (eval 1) ∷ []
  pub cancelled : scripted taken (cancel 1) ≡ tells.Cancelled 1 ∷ []
  pub again : scripted (cancel 1 ∷ taken) (cancel 1) ≡ tells.Idle 1 ∷ []
  pub dropped : scripted (finish 1 ∷ cancel 1 ∷ taken)
      (Dropped 1 (eval 1)) ≡ tells.Dropped (eval 1) ∷ []
  pub settled : scripted let_go (settle 1) ≡ tells.Settled 1 (1 ∷ 2 ∷ []) ∷ []
  pub renewed : scripted let_go (update 2 []) ≡ tells.Assign 2 (rows 3 4) ∷ []

-- refusals, each in its place
pub record Refusals : Type 0 where
  pub read : alone [] (Message (Err refusal.BadData)) ≡ tells.Refused refusal.BadData ∷ []
  pub version : alone made (update 1 []) ≡ tells.Refused refusal.VersionNotHigher ∷ []
  pub unknown : alone made (settle 9) ≡ tells.Refused refusal.UnknownVersion ∷ []
  pub tip : alone made (remove (1 ∷ [])) ≡ tells.Refused refusal.TipVersion ∷ []
  pub node : alone made (snapshot 1 (codes "Z") []) ≡ tells.Refused refusal.UnknownNode ∷ []
  pub execution : alone made (cancel 99) ≡ tells.Refused refusal.UnknownExecution ∷ []
  pub nothing : scripted made (finish 1)
      ≡ tells.Refused refusal.NothingToStep ∷ []
  pub held : scripted taken (settle 1) ≡ tells.Refused refusal.StepHeld ∷ []
  pub protocol : alone made (Message (Ok (asks.Protocol Symbols)))
      ≡ tells.Refused refusal.ProtocolFixed ∷ []
