-- What messages are told, by what the core answers.
use Rattle.std.proofs.Common.{◌≡◌, ℕ, Bool, true, false, not, ◌&&◌, List, [], ◌∷◌, map, Some, Result, Ok, Err, refl, ap, sym, ◌∙◌}
use Rattle.std.specs.Prelude.{if◌then◌else◌}
use Rattle.text_words.specs.Members.{has}
use Rattle.text_edits.specs.declared.edit.Edit.{Edit}
use Rattle.doc_nodes.specs.declared.node.Node.{Node}
use Rattle.core_tables.specs.Live.{version_of}
use Rattle.exec_rules.specs.declared.version.Version.{Version}
use Rattle.core_tables.specs.declared.execs.Cancelling.{Cancelling}
use Rattle.core_tables.specs.declared.execs.Cancelling.TheVariants as answer
use Rattle.language.specs.Lang.{Lang}
use Rattle.message_values.specs.declared.editor_message.EditorMessage.TheVariants as asks
use Rattle.message_values.specs.declared.refusal.Refusal.{Refusal}
use Rattle.message_values.specs.declared.refusal.Refusal.TheVariants.{UnknownVersion, UnknownNode, UnknownExecution}
use Rattle.message_values.specs.Asked.{or_refused}
use Rattle.buffer_rules.specs.Trying.{◌>>=◌}
use Rattle.buffer_rules.specs.Texts.{edit_all}
use Rattle.reply_messages.specs.declared.told.Told.TheVariants as tells
use Rattle.core_rules.specs.declared.event.Event.{Event}
use Rattle.core_rules.specs.declared.event.Event.TheVariants as event
use Rattle.core_rules.specs.Assigned.{is_assigned}
use Rattle.core_rules.specs.Legal.{IsLegal}
use Rattle.core_rules.specs.Shown.{pending}
use Rattle.core_rules.specs.Standing.{is_open}
use Rattle.core_rules.specs.Updates.{node_in}
use Rattle.core_jobs.specs.declared.results.NodeResults.{NodeResults}
use Rattle.core_jobs.specs.Parts.{told_part}
use Rattle.prover_core.specs.Answers.{CancelledSo}
use Rattle.prover_core.specs.Results.{AreResultsIn}
use Rattle.session_rules.specs.declared.service.Service.{Service}
use Rattle.session_rules.specs.Session.{Session, document, with_event}
use Rattle.session_rules.specs.Looking.{Looked, looked_at}
use Rattle.session_rules.specs.Shown.{protocol_reports}
use Rattle.session_rules.specs.Replies.{cancelling, is_outdated, markup, or_refusal, told_to}
use Rattle.session_replies.specs.Marked.{marked}
use Rattle.session_replies.specs.Cancelled.{cancelling_told}
use Rattle.session_replies.proofs.ShownParts.{ShownLaw, shown_is}

module _ {S : Type 0} (l : Lang S) (service : Service) (s : Session) where
  -- a snapshot of a node that is found, whose text takes the edits
  looked_is : (id : ℕ) (name : List ℕ) (edits : List Edit) (version : Version) (node : Node) (text : List ℕ)
      → version_of (document l s).live id ≡ Some version → node_in version name ≡ Some node → edit_all edits node.text ≡ Ok text
      → looked_at l s id name edits ≡ Ok (record { version = version; text = text })
  looked_is id name edits version node text live at edited =
      ap (λ o. or_refused UnknownVersion o >>= λ v. or_refused UnknownNode (node_in v name) >>= λ n.
      edit_all edits n.text >>= λ t. Ok (record { version = v; text = t })) live
      ∙ ap (λ o. or_refused UnknownNode o >>= λ n. edit_all edits n.text >>= λ t. Ok (record { version = version; text = t })) at
      ∙ ap (λ r. r >>= λ t. Ok (record { version = version; text = t })) edited

  looked_told : (id : ℕ) (name : List ℕ) (edits : List Edit) (looked : Looked) → looked_at l s id name edits ≡ Ok looked
      → told_to l service s (Ok (asks.Snapshot id name edits)) ≡ markup l s id name edits looked ∷ []
  looked_told id name edits looked is =
      ap (λ (r : Result Looked Refusal). or_refusal ((r >>= λ looked. Ok s) >>= λ after. r >>= λ k. Ok (markup l s id name edits k ∷ []))) is

  pub snapshot_told : ShownLaw l → (id : ℕ) (name : List ℕ) (edits : List Edit) (results : NodeResults) (node : Node) (text : List ℕ)
      → IsLegal l s.events → (found : AreResultsIn l s.events id name results)
      → node_in found.version name ≡ Some node → edit_all edits node.text ≡ Ok text
      → told_to l service s (Ok (asks.Snapshot id name edits))
      ≡ tells.Markup id name (marked s.protocol text edits (map told_part results.parts.items)) results.pending.items (is_outdated edits) ∷ []
  snapshot_told law id name edits results node text legal found at edited =
      looked_told id name edits _ (looked_is id name edits found.version node text found.live at edited)
      ∙ ap (λ reports. tells.Markup id name (protocol_reports s.protocol text reports)
      (pending l s.events (document l s) found.version name) (is_outdated edits) ∷ [])
      (sym (shown_is l s.events id name results found law legal edits))
      ∙ ap (λ execs. tells.Markup id name (marked s.protocol text edits (map told_part results.parts.items)) execs (is_outdated edits) ∷ [])
      (sym found.pending_is)

  unknown_told : (exec : ℕ) → is_assigned (document l s).live exec ≡ false
      → told_to l service s (Ok (asks.Cancel exec)) ≡ tells.Refused UnknownExecution ∷ []
  unknown_told exec unknown = ap
      (λ (b : Bool). or_refusal ((if b then Ok (with_event s (event.Cancel exec)) else Err UnknownExecution) >>= λ after.
      Ok (cancelling l s exec ∷ []))) unknown

  known_told : (exec : ℕ) (b : Bool) → is_assigned (document l s).live exec ≡ true
      → ((is_assigned (document l s).live exec && not (has (document l s).cancelled exec)) && is_open l s.events (document l s).homes exec) ≡ b
      → told_to l service s (Ok (asks.Cancel exec)) ≡ (if b then tells.Cancelled exec else tells.Idle exec) ∷ []
  known_told exec b known so =
      ap (λ (a : Bool). or_refusal ((if a then Ok (with_event s (event.Cancel exec)) else Err UnknownExecution) >>= λ after.
      Ok (cancelling l s exec ∷ []))) known
      ∙ ap (λ (a : Bool). (if a then tells.Cancelled exec else tells.Idle exec) ∷ [])
      (swapped (is_assigned (document l s).live exec) (not (has (document l s).cancelled exec))
      (is_open l s.events (document l s).homes exec) known ∙ so)
    where
      swapped : (a c o : Bool) → a ≡ true → (o && c) ≡ ((a && c) && o)
      swapped true true true is = refl
      swapped true true false is = refl
      swapped true false true is = refl
      swapped true false false is = refl
      swapped false c o is = absurd (cc)

  pub cancelling_is : (exec : ℕ) (given : Cancelling) (after : List Event) → CancelledSo l exec s.events given after
      → told_to l service s (Ok (asks.Cancel exec)) ≡ cancelling_told exec given ∷ []
  cancelling_is exec answer.Unknown after so = unknown_told exec so.0
  cancelling_is exec answer.Idle after so = known_told exec false so.0 so.1
  cancelling_is exec answer.Cancelled after so = known_told exec true so.0 so.1
