-- What serving rests on (this project's own).
use Rattle.std.specs.Prelude.{◌≡◌, ◌↔◌, ℕ, true, List, length, slice_get, flat_map, Some, None, Ok}
use Rattle.pide_base.specs.declared.part.Part.{Part}
use Rattle.core_tables.specs.declared.versions.Live.{Live}
use Rattle.exec_rules.specs.declared.version.Version.{Version}
use Rattle.language.specs.Lang.{Lang}
use Rattle.message_values.specs.declared.editor_message.EditorMessage.{EditorMessage}
use Rattle.message_values.specs.declared.mode.Mode.{Mode}
use Rattle.message_values.specs.Asked.{asked}
use Rattle.message_values.specs.Fits.{Fits}
use Rattle.message_values.specs.Functions.{word, function_named}
use Rattle.message_values.specs.Spelled.{IsSpelled, function_of}
use Rattle.core_rules.specs.declared.event.Event.{Event}
use Rattle.core_rules.specs.Alone.{alone}
use Rattle.core_rules.specs.Doc.{doc}
use Rattle.core_rules.specs.Legal.{IsLegal as IsLegalList}
use Rattle.core_rules.specs.Ready.{IsFirst, all_parts, first_ready}
use Rattle.core_rules.specs.Standing.{held}
use Rattle.core_rules.specs.Stuck.{is_settled}
use Rattle.session_rules.specs.declared.service.Service.{Service}
use Rattle.session_rules.specs.Heard.{Heard}
use Rattle.session_rules.specs.Legal.{IsLegal}
use Rattle.session_rules.specs.Replies.{replies}
use Rattle.document_session.specs.keeping_rules_below.Items.{SessionItem, heard_in, session_in}
use Rattle.document_session.specs.keeping_rules_below.Legal.{AreLegal}
use Rattle.document_session.specs.keeping_rules_below.Pieces.{pieces}
use Rattle.document_session.specs.keeping_rules_below.Sent.{IsFrontSent}

-- the history of a legal list is legal, and what it tells as sent is a front of the replies,
-- which one by one are all that is written
pub record ListLaws {S : Type 0} (l : Lang S) : Type 0 where
  pub legal : (service : Service) (items : List SessionItem) → AreLegal l service items
      → IsLegal l service (heard_in service items)
  pub sends : (service : Service) (items : List SessionItem) → AreLegal l service items
      → IsFrontSent l service items
  pub join : (service : Service) (h : List Heard)
      → flat_map (λ bytes. bytes) (pieces l service h) ≡ replies l service h

-- the first ready part is what is taken; where none is ready and none held, all is settled; a
-- worker that goes on comes to rest; and what chunks ask is what they spell
pub record WorkLaws {S : Type 0} (l : Lang S) : Type 0 where
  pub lists : ListLaws l
  pub events : (service : Service) (items : List SessionItem) → AreLegal l service items
      → IsLegalList l (session_in l service items).events
  pub first : (h : List Event) (p : Part) → IsFirst l h p → first_ready l h ≡ Some p
  pub rests : (h : List Event) (k : ℕ) (one : Live Version) → IsLegalList l h
      → first_ready l h ≡ None → ((who : ℕ) → held h who ≡ None)
      → slice_get (doc l h).live k ≡ Some one
      → is_settled l h (doc l h) one.version ≡ true
  pub ends : (h : List Event)
      → first_ready l (alone l 0 (length (all_parts l (doc l h).homes)) h) ≡ None
  pub asks : (mode : Mode) (chunks : List (List ℕ)) (message : EditorMessage)
      → (asked mode chunks ≡ Ok message) ↔ (Fits message × IsSpelled message chunks
      × (function_named mode (word (function_of message)) ≡ Some (function_of message)))
