-- What a session shows of a node, and an editor sees (after `Document.Snapshot` of Isabelle/Scala).
use Rattle.std.specs.Prelude.{◌≡◌, ℕ, List, Result, Ok}
use Rattle.text_edits.specs.declared.edit.Edit.{Edit}
use Rattle.language.specs.Lang.{Lang}
use Rattle.message_values.specs.declared.refusal.Refusal.{Refusal}
use Rattle.buffer_rules.specs.Trying.{◌>>=◌}
use Rattle.core_rules.specs.Shown.{pending}
use Rattle.session_rules.specs.declared.entry.Entry.{Entry}
use Rattle.session_rules.specs.declared.service.Service.{Service}
use Rattle.session_rules.specs.Heard.{all_heard}
use Rattle.session_rules.specs.History.{session}
use Rattle.session_rules.specs.Looking.{looked_at}
use Rattle.session_rules.specs.Replies.{is_outdated}
use Rattle.session_rules.specs.Services.{mode_of}
use Rattle.session_rules.specs.Session.{Session, document}
use Rattle.session_rules.specs.Shown.{finished_reports}
use Rattle.session_rules.specs.Steps.{Nothing, due}
use Rattle.mirror_rules.specs.Answers.{Read}
use Rattle.mirror_rules.specs.Images.{Mirror}
use Rattle.mirror_rules.specs.Looking.{View, view_in}
use Rattle.mirror_rules.specs.Moves.{Move, Going, mirrored}

-- what is shown and pending of the node of a name in a version, or why nothing is
abbrev pub view_shown : {S : Type 0} → Lang S → Session → ℕ → List ℕ → List Edit
    → Result View Refusal
view_shown l s version name edits = looked_at l s version name edits >>= λ looked. Ok (record {
  reports = finished_reports l s.events looked.version name edits;
  pending = pending l s.events (document l s) looked.version name;
  outdated = is_outdated edits;
})

-- an editor's doings met no fault, and what it sees of each node of each version is what the
-- session shows after this history
pub record SeesSo {S : Type 0} (l : Lang S) (service : Service) (h : List Entry)
    (moves : List Move) : Type 0 where
  pub mirror : Mirror
  pub going : mirrored (mode_of service) moves ≡ Going mirror
  pub sees : (version : ℕ) (name : List ℕ) (edits : List Edit) → view_in mirror version name edits
      ≡ view_shown l (session l service (all_heard service h)) version name edits

-- they met no fault, and where nothing is called for, the messages that are unanswered are those
-- sent ahead
pub record WaitsSo {S : Type 0} (l : Lang S) (service : Service) (h : List Entry)
    (sent : List Read) (moves : List Move) : Type 0 where
  pub mirror : Mirror
  pub going : mirrored (mode_of service) moves ≡ Going mirror
  pub waits : due l service (all_heard service h) ≡ Nothing → mirror.unanswered ≡ sent
