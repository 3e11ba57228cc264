-- An update that was prepared, as the core plans and makes it.
use Rattle.std.proofs.Common.{◌≡◌, ℕ, ◌+◌, ◌<◌, ◌≤◌, Bool, true, false, List, [], ◌∷◌, ◌++◌, length, Option, Result, Ok, Err, refl, sym, ap, subst, ◌∙◌}
use Rattle.pide_base.specs.Ids.{id_end}
use Rattle.doc_nodes.specs.Imports.{NodeList}
use Rattle.exec_rules.specs.Kept.{BlobList}
use Rattle.exec_rules.specs.Listed.{Told}
use Rattle.language.specs.Lang.{Lang}
use Rattle.message_values.specs.declared.editor_message.EditorMessage.{EditorMessage}
use Rattle.message_values.specs.declared.editor_message.EditorMessage.TheVariants as asks
use Rattle.message_values.specs.declared.refusal.Refusal.{Refusal}
use Rattle.message_values.specs.declared.refusal.Refusal.TheVariants.{Limit}
use Rattle.message_values.specs.Asked.{asked}
use Rattle.buffer_rules.specs.Updates.{Asked}
use Rattle.buffer_rules.specs.Preparing.{Buffer, prepared}
use Rattle.buffer_laws.specs.Fitting.{Agrees}
use Rattle.reply_messages.specs.declared.told.NodeRows.{NodeRows}
use Rattle.reply_messages.specs.declared.told.Told.TheVariants as tells
use Rattle.core_rules.specs.declared.event.Event.{Event}
use Rattle.core_rules.specs.declared.event.Event.TheVariants as event
use Rattle.core_rules.specs.Doc.{Doc, assignment_of}
use Rattle.core_rules.specs.Standing.{has_ended}
use Rattle.core_rules.specs.Updates.{FitsUpdate}
use Rattle.exec_assign.specs.Untouched.{AreChanged}
use Rattle.update_plans.specs.Alive.{HaveCommands}
use Rattle.editor_buffer.specs.NameSets.{NameSet}
use Rattle.editor_buffer.specs.NameSets.{AreChanged as AreOthers}
use Rattle.buffer_rules.specs.Nodes.{AreKept}
use Rattle.editor_buffer.specs.Preparation.{Preparation}
use Rattle.prover_core.specs.Plans.{PlanState, IsPlanOf}
use Rattle.reply_outbox.specs.declared.item.Item.TheVariants.{Made}
use Rattle.reply_outbox.specs.Waiting.{Log}
use Rattle.session_rules.specs.declared.entry.Entry.{Entry}
use Rattle.session_rules.specs.declared.entry.Entry.TheVariants.{Call}
use Rattle.session_rules.specs.declared.service.Service.{Service}
use Rattle.session_rules.specs.Services.{mode_of}
use Rattle.session_rules.specs.Session.{Session, document}
use Rattle.session_rules.specs.Accepting.{taken}
use Rattle.keeping_rules.specs.session_replies_below.Spelling.{reply_spelling}
use Rattle.keeping_rules.specs.session_replies_below.Assigned.{nodes_told}
use Rattle.keeping_rules.specs.session_replies_below.Works.{Work}
use Rattle.keeping_rules.specs.Kept.{session_of, IsKept}
use Rattle.keeping_rules.specs.Messages.{UpdateLaw}
use Rattle.document_session.specs.Makes.{IsMade}
use Rattle.document_session.proofs.Refusals.{limit_passed}
use Rattle.document_session.proofs.Rooms.{state, replied_by}
use Rattle.prover_core.proofs.KnownPrepared.{changed, commands, fits, same_update}
use Rattle.document_session.proofs.Planned.{plan_told, ids_suffice, updated_kept}

-- what was prepared is what is to be made
pub made_so : {S : Type 0} (l : Lang S) (s : Session) (id : ℕ) (read : Result EditorMessage Refusal) (wanted : Asked) (made : Preparation) (live : ℕ)
    → read ≡ Ok (asks.Update id wanted.items wanted.blobs) → (document l s).last < id → live ≡ length (document l s).live
    → prepared s.buffer live wanted ≡ Ok made.after → AreKept s.buffer.nodes made.untouched made.after.nodes
    → AreOthers made.changed s.buffer.document.blobs made.after.document.blobs → IsMade l s id read made
made_so l s id read wanted made live asks_it newer live_is after kept others = record {
  wanted = wanted;
  asks_it = asks_it;
  newer = newer;
  after = subst (λ (n : ℕ). prepared s.buffer n wanted ≡ Ok made.after) live_is after;
  kept = kept;
  changed = others;
}

module _ {S : Type 0} (l : Lang S) (service : Service) (s : Session) (id : ℕ) (read : Result EditorMessage Refusal) (made : Preparation)
    (is : IsMade l s id read made) (nodes : NodeList) (blobs : BlobList) (nodes_are : nodes ≡ made.after.nodes)
    (blobs_are : blobs ≡ made.after.document.blobs) where
  -- the update fits
  pub plan_fits : ((b b' : Buffer) (d : Doc) (live id : ℕ) (wanted : Asked) → Agrees b d → prepared b live wanted ≡ Ok b' → d.last < id
      → (assignment_of d b'.nodes b'.document.blobs).next ≤ id_end → FitsUpdate d id b'.nodes b'.document.blobs) → Agrees s.buffer (document l s)
      → (assignment_of (document l s) nodes blobs).next ≤ id_end → FitsUpdate (document l s) id nodes blobs
  plan_fits law agrees = fits (document l s) id nodes made.after.nodes blobs made.after.document.blobs nodes_are blobs_are
      (law s.buffer made.after (document l s) (length (document l s).live) id is.wanted agrees is.after is.newer)

  -- the blobs that differ are those that are told
  pub plan_changed : (document l s).tip.blobs ≡ s.buffer.document.blobs → (set : NameSet) → set ≡ made.changed
      → AreChanged set (document l s).tip.blobs blobs
  plan_changed same set set_is = changed set s.buffer.document.blobs (document l s).tip.blobs blobs same
      (subst (λ (xs : NameSet). AreOthers xs s.buffer.document.blobs blobs) (sym set_is)
      (subst (λ (bs : BlobList). AreOthers made.changed s.buffer.document.blobs bs) (sym blobs_are) is.changed))

  -- nodes that are marked have their commands
  pub plan_commands : Agrees s.buffer (document l s) → (marks : List Bool) → marks ≡ made.untouched
      → HaveCommands (document l s).tip nodes marks
  plan_commands agrees marks marks_are = commands (document l s).tip s.buffer.nodes nodes marks agrees.nodes
      (subst (λ (ms : List Bool). AreKept s.buffer.nodes ms nodes) (sym marks_are)
      (subst (λ (ns : NodeList). AreKept s.buffer.nodes made.untouched ns) (sym nodes_are) is.kept))

  -- ids run out
  pub plan_limit : id_end < (assignment_of (document l s) nodes blobs).next → taken l service s read ≡ Err Limit
  plan_limit over = ap (λ (r : Result EditorMessage Refusal). taken l service s r) is.asks_it
      ∙ limit_passed l service s id is.wanted is.newer made.after is.after
      (subst (λ (bs : BlobList). id_end < (assignment_of (document l s) made.after.nodes bs).next) blobs_are
      (subst (λ (ns : NodeList). id_end < (assignment_of (document l s) ns blobs).next) nodes_are over))

module _ {S : Type 0} (l : Lang S) (service : Service) (old : Log Service Entry) (s : Session) (last holding : ℕ)
    (jobs : ℕ → Option (Work S)) (k : IsKept l service old s last holding jobs) (law : UpdateLaw l)
    (message : List (List ℕ)) (version : ℕ) (made : Preparation) (is : IsMade l s version (asked (mode_of service) message) made)
    (p : PlanState) (planned : IsPlanOf l s.events p) (nodes : p.nodes ≡ made.after.nodes) (blobs : p.blobs ≡ made.after.document.blobs) where
  -- the version was made, as it was planned
  pub made_kept : (mid new : Log Service Entry) (bytes : List ℕ) (told : List (List ℕ × List Told)) → told ≡ p.told
      → bytes ≡ reply_spelling (tells.Assign version (nodes_told told)) → has_ended s.events ≡ false → mid.items ≡ old.items → mid.waiting ≡ old.waiting
      → holding + 1 + 1 ≤ mid.free → new.items ≡ Made (Call message) ∷ mid.items → new.waiting ≡ mid.waiting ++ bytes ∷ [] → new.free + 1 ≡ mid.free
      → (newest : ℕ) (now : Buffer) (past : List Event) → newest ≡ version → now ≡ made.after → p.version ≡ version
      → past ≡ event.Update p.version p.nodes p.blobs ∷ s.events → IsKept l service new (session_of now past s.protocol true) newest holding jobs
  made_kept mid new bytes told told_is says going items waiting room more tells_it less newest now past newest_is now_is id_is past_is =
      updated_kept l service new s version newest holding made.after now past jobs
      (law service (state old s last holding jobs) message version is.wanted made.after new
      (replied_by l service old s last holding jobs k mid new (Call message) bytes _
      (says ∙ ap (λ (rows : List NodeRows). reply_spelling (tells.Assign version rows)) (plan_told l s version made.after p planned nodes blobs told told_is))
      going items waiting room more tells_it less)
      is.asks_it is.newer is.after (ids_suffice l s version made.after p planned nodes blobs))
      (past_is ∙ same_update p.version version p.nodes made.after.nodes p.blobs made.after.document.blobs s.events s.events id_is nodes blobs refl)
      now_is newest_is
