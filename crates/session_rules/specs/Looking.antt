-- What the messages look at that change nothing, or why they are refused (this project's own).
use Rattle.std.specs.Prelude.{ℕ, ◌||◌, is_some, if◌then◌else◌, List, Result, Ok, Err}
use Rattle.std.specs.Option.{is_none}
use Rattle.text_edits.specs.declared.edit.Edit.{Edit}
use Rattle.core_tables.specs.Live.{version_of}
use Rattle.exec_rules.specs.declared.version.Version.{Version}
use Rattle.language.specs.Lang.{Lang}
use Rattle.message_values.specs.declared.refusal.Refusal.{Refusal}
use Rattle.message_values.specs.declared.refusal.Refusal.TheVariants.{UnknownVersion, UnknownNode, NothingToStep, StepHeld}
use Rattle.message_values.specs.Asked.{or_refused}
use Rattle.buffer_laws.specs.buffer_rules_below.Trying.{◌>>=◌}
use Rattle.buffer_laws.specs.buffer_rules_below.Texts.{edit_all}
use Rattle.core_rules.specs.Standing.{held}
use Rattle.core_rules.specs.Ready.{first_ready}
use Rattle.core_rules.specs.Updates.{node_in}
use Rattle.session_rules.specs.declared.service.Service.{Service}
use Rattle.session_rules.specs.Services.{is_held_by_script}
use Rattle.session_rules.specs.Session.{Session, document}

-- the live version of an id
abbrev pub version_in : {S : Type 0} → Lang S → Session → ℕ → Result Version Refusal
version_in l s id = or_refused UnknownVersion (version_of (document l s).live id)

-- the version that a snapshot is of, and the node's text after the pending edits
pub record Looked : Type 0 where
  pub version : Version
  pub text : List ℕ

-- what a look at a node of a version finds, or why it is refused
abbrev pub looked_at : {S : Type 0} → Lang S → Session → ℕ → List ℕ → List Edit
    → Result Looked Refusal
looked_at l s id name edits = version_in l s id >>= λ version.
    or_refused UnknownNode (node_in version name) >>= λ node.
    edit_all edits node.text >>= λ text. Ok (record { version = version; text = text })

-- a version can settle where it is live, and no worker holds a part that only messages can end
abbrev pub settles : {S : Type 0} → Lang S → Service → Session → ℕ → Result Version Refusal
settles l service s id = version_in l s id >>= λ version.
    if is_held_by_script service s.events then Err StepHeld else Ok version

-- a worker can take a part where it holds none and one is ready
abbrev pub claims : {S : Type 0} → Lang S → Session → ℕ → Result Session Refusal
claims l s w = if is_some (held s.events w) || is_none (first_ready l s.events)
    then Err NothingToStep else Ok s

-- it can finish a part where it holds one
abbrev pub finishes : Session → ℕ → Result Session Refusal
finishes s w = if is_some (held s.events w) then Ok s else Err NothingToStep
