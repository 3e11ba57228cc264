-- What the mirror knows where the session rests and a snapshot comes.
use Rattle.std.proofs.Common.{◌≡◌, ◌≢◌, ℕ, List, [], ◌∷◌, ◌++◌, Some, None, Result, Ok, Err, inl, inr, refl, sym, ap, ◌∙◌}
use Rattle.text_edits.specs.declared.edit.Edit.{Edit}
use Rattle.language.specs.Lang.{Lang}
use Rattle.message_values.specs.declared.editor_message.EditorMessage.TheVariants as asks
use Rattle.message_values.specs.declared.mode.Mode.TheVariants.{Serve}
use Rattle.message_values.specs.declared.refusal.Refusal.{Refusal}
use Rattle.message_values.specs.Asked.{asked}
use Rattle.reply_messages.specs.declared.told.Told.TheVariants as tells
use Rattle.reply_outbox.specs.declared.item.Item.TheVariants.{Made}
use Rattle.reply_outbox.specs.Items.{entries}
use Rattle.session_rules.specs.declared.entry.Entry.{Entry}
use Rattle.session_rules.specs.declared.entry.Entry.TheVariants as entry
use Rattle.session_rules.specs.declared.service.Service.{Service}
use Rattle.session_rules.specs.declared.service.Service.TheVariants.{Script, Workers}
use Rattle.session_rules.specs.Accepting.{accepted}
use Rattle.session_rules.specs.Alone.{IsAlone}
use Rattle.session_rules.specs.Heard.{all_heard, heard}
use Rattle.session_rules.specs.History.{session}
use Rattle.session_rules.specs.Legal.{IsLegal, awaited_of}
use Rattle.session_rules.specs.Replies.{entry_replies}
use Rattle.session_rules.specs.Services.{mode_of}
use Rattle.session_rules.specs.Session.{Session}
use Rattle.session_rules.specs.Steps.{Nothing, due, due_by, due_of}
use Rattle.document_session.specs.keeping_rules_below.Items.{SessionItem}
use Rattle.document_session.specs.Answers.{TakenSo}
use Rattle.document_session.specs.Contents.{SessionState}
use Rattle.document_session.specs.declared.taking.Taken.{Taken}
use Rattle.document_session.specs.declared.taking.Taken.TheVariants as taking
use Rattle.mirror_rules.specs.Answers.{Read}
use Rattle.mirror_rules.specs.Images.{Mirror}
use Rattle.mirror_rules.specs.Looking.{view_in}
use Rattle.mirror_rules.specs.Moves.{Going, Move, mirrored}
use Rattle.mirror_rules.specs.Telling.{IsTold}
use Rattle.editor_laws.specs.Follows.{Follows}
use Rattle.editor_laws.specs.Shown.{SeesSo, WaitsSo, view_shown}
use Rattle.mirror_serve.specs.Laws.{MirrorLaws}
use Rattle.mirror_serve.specs.Resting.{IsImageOf, Rests}
use Rattle.mirror_serve.specs.declared.ear.Ear.{Ear}
use Rattle.mirror_serve.proofs.ShownBy.{going, image_refused, image_shown, known, seen}
use Rattle.report_markup.specs.declared.report.Report.{Report}
use Rattle.std.proofs.Common.{Bool}

-- what waits is what was sent ahead
abbrev pub WaitsLaw : {S : Type 0} → Lang S → Type 0
WaitsLaw l = (service : Service) (ahead h : List Entry) (sent : List Read) (moves : List Move) → IsTold l → IsLegal l service (all_heard service h)
    → (service ≡ Script → IsAlone l service None (all_heard service (ahead ++ h))) → Follows l service ahead h sent moves → WaitsSo l service h sent moves

module _ {S : Type 0} (l : Lang S) (laws : MirrorLaws l) (law : WaitsLaw l) (s : SessionState) (ear : Ear) (r : Rests l s ear)
    (none : due l s.service (all_heard s.service (entries s.items)) ≡ Nothing)
    (message : List (List ℕ)) (version : ℕ) (node : List ℕ) (edits : List Edit) (read : asked Serve message ≡ Ok (asks.Snapshot version node edits)) where
  abbrev pub service : Service
  service = s.service

  abbrev pub h : List Entry
  h = entries s.items

  abbrev pub now : Session
  now = session l service (all_heard service h)

  free : service ≢ Script
  free is = let no : Workers 0 ≡ Script = sym r.service ∙ is in let never : ⊥ = cc in never

  pub read_so : asked (mode_of service) message ≡ Ok (asks.Snapshot version node edits)
  read_so = ap (λ (v : Service). asked (mode_of v) message) r.service ∙ read

  sees : (ahead h : List Entry) (sent : List Read) (moves : List Move) → IsLegal l service (all_heard service h) → Follows l service ahead h sent moves
      → SeesSo l service h moves
  sees ahead h sent moves legal f = laws.sees service ahead h sent moves r.tellable.told legal (λ is. absurd (free is)) f

  waits : (ahead h : List Entry) (sent : List Read) (moves : List Move) → IsLegal l service (all_heard service h) → Follows l service ahead h sent moves
      → WaitsSo l service h sent moves
  waits ahead h sent moves legal f = law service ahead h sent moves r.tellable.told legal (λ is. absurd (free is)) f

  legal : IsLegal l service (all_heard service h)
  legal = laws.hearing.lists.legal service s.items r.session.going.legal

  -- what it knows
  pub m : Mirror
  m = known l service free sees waits h legal none ear.mirror r.image

  pub knows : mirrored ear.mirror.mode ear.mirror.moves ≡ Going m
  unfolding m
  knows = ap (λ mode. mirrored mode ear.mirror.moves) r.image.between.mode_is ∙ going l service free sees waits h legal none ear.mirror r.image

  pub same_view : (es : List Edit) → view_in m version node es ≡ view_shown l now version node es
  unfolding m
  same_view es = seen l service free sees waits h legal none ear.mirror r.image version node es

  -- what a message that only looks comes to
  pub taken_call : (new : List SessionItem) (t : Taken) → TakenSo l service message s.items t new → new ≡ Made (entry.Call message) ∷ s.items
  taken_call new taking.Replied (inl is) = is
  taken_call new taking.Replied (inr (step, stepping, called, is)) = absurd (called (ap (due_of l service now) read_so ∙ by (accepted l service now (asks.Snapshot version node edits))))
    where
      by : (x : Result Session Refusal) → due_by x Nothing ≡ Nothing
      by (Ok after) = refl
      by (Err reason) = refl
  taken_call new (taking.Waits back) (same, is, waits) =
      let none : None ≡ Some waits.version = ap (awaited_of l service now) (sym read_so) ∙ waits.waits_for in
      let never : ⊥ = cc in absurd never

  -- the mirror knows what an editor knows that hears the reply
  module _ (later : IsLegal l service (all_heard service (entry.Call message ∷ h))) where
    pub after_markup : (reports : List Report) (pending : List ℕ) (outdated : Bool)
        → entry_replies l service (all_heard service h) (heard service (entry.Call message)) ≡ tells.Markup version node reports pending outdated ∷ []
        → IsImageOf l service [] (entry.Call message ∷ h) [] ear.mirror
    after_markup = image_shown l service free sees waits h legal none ear.mirror r.image message version node edits read_so later

    pub after_refusal : (reason : Refusal) → entry_replies l service (all_heard service h) (heard service (entry.Call message)) ≡ tells.Refused reason ∷ []
        → IsImageOf l service [] (entry.Call message ∷ h) [] ear.mirror
    after_refusal = image_refused l service free sees waits h legal none ear.mirror r.image message version node edits read_so later
