-- What serving with a mirror rests on (this project's own).
use Rattle.std.specs.Prelude.{◌≡◌, ◌↔◌, ℕ, List, ◌++◌, Some, None, Ok}
use Rattle.std.specs.List.{AllByRecursion}
use Rattle.language.specs.Lang.{Lang}
use Rattle.message_values.specs.declared.editor_message.EditorMessage.{EditorMessage}
use Rattle.message_values.specs.declared.mode.Mode.{Mode}
use Rattle.message_values.specs.Asked.{asked}
use Rattle.message_values.specs.Fits.{Fits}
use Rattle.message_values.specs.Functions.{word, function_named}
use Rattle.message_values.specs.Spelled.{IsSpelled, function_of}
use Rattle.reply_messages.specs.FoundReplies.{IsReply}
use Rattle.session_rules.specs.declared.entry.Entry.{Entry}
use Rattle.session_rules.specs.declared.service.Service.{Service}
use Rattle.session_rules.specs.declared.service.Service.TheVariants.{Script}
use Rattle.session_rules.specs.Alone.{IsAlone}
use Rattle.session_rules.specs.Heard.{all_heard}
use Rattle.session_rules.specs.Legal.{IsLegal}
use Rattle.document_serve.specs.Laws.{ListLaws}
use Rattle.mirror_rules.specs.Answers.{Read}
use Rattle.mirror_rules.specs.Events.{AreMoves, MirrorEvent}
use Rattle.mirror_rules.specs.Moves.{Move}
use Rattle.mirror_rules.specs.Telling.{IsTold}
use Rattle.editor_laws.specs.Follows.{Follows}
use Rattle.editor_laws.specs.Shown.{SeesSo, WaitsSo}
use Rattle.editor_laws.specs.Streams.{all_replies}
use Rattle.editor_laws.proofs.KnownReadings.{StreamLaws}
use Rattle.editor_laws.specs.Heard.{AreMessages}
use Rattle.editor_laws.specs.Tellable.{IsTellable}

-- lists tell histories; each reply of a legal one can be read; and streams are read, and what is
-- sent and heard is told, in one way
pub record HearingLaws {S : Type 0} (l : Lang S) : Type 0 where
  pub lists : ListLaws l
  pub readable : (service : Service) (history : List Entry) → IsTellable l
      → IsLegal l service (all_heard service history) → AreMessages history
      → AllByRecursion IsReply (all_replies l service history)
  pub streams : StreamLaws
  pub moves : (mode : Mode) (events : List MirrorEvent) (moves others : List Move)
      → AreMoves mode events moves → AreMoves mode events others → moves ≡ others

-- an editor that follows a history sees what the session shows, and where nothing is called for,
-- what it sent ahead is unanswered; and what chunks ask is what they spell
pub record MirrorLaws {S : Type 0} (l : Lang S) : Type 0 where
  pub hearing : HearingLaws l
  pub sees : (service : Service) (ahead h : List Entry) (sent : List Read) (moves : List Move)
      → IsTold l → IsLegal l service (all_heard service h)
      → (service ≡ Script → IsAlone l service None (all_heard service (ahead ++ h)))
      → Follows l service ahead h sent moves → SeesSo l service h moves
  pub waits : (service : Service) (ahead h : List Entry) (sent : List Read) (moves : List Move)
      → IsTold l → IsLegal l service (all_heard service h)
      → (service ≡ Script → IsAlone l service None (all_heard service (ahead ++ h)))
      → Follows l service ahead h sent moves → WaitsSo l service h sent moves
  pub asks : (mode : Mode) (chunks : List (List ℕ)) (message : EditorMessage)
      → (asked mode chunks ≡ Ok message) ↔ (Fits message × IsSpelled message chunks
      × (function_named mode (word (function_of message)) ≡ Some (function_of message)))
