-- What the mirror answers to a snapshot is the session's own, and it stays what an editor knows.
use Rattle.std.proofs.Common.{◌≡◌, ℕ, List, [], ◌∷◌, Result, Ok, Err, refl, sym, ap, subst, ◌∙◌, append-nil}
use Rattle.std.specs.List.{flat_map}
use Rattle.text_edits.specs.declared.edit.Edit.{Edit}
use Rattle.language.specs.Lang.{Lang}
use Rattle.message_values.specs.declared.editor_message.EditorMessage.TheVariants as asks
use Rattle.message_values.specs.declared.mode.Mode.TheVariants.{Serve}
use Rattle.message_values.specs.declared.protocol.Protocol.{Protocol}
use Rattle.message_values.specs.declared.refusal.Refusal.{Refusal}
use Rattle.message_values.specs.Asked.{asked}
use Rattle.reply_messages.specs.declared.told.Told.{Told}
use Rattle.reply_messages.specs.declared.told.Told.TheVariants as tells
use Rattle.reply_outbox.specs.declared.item.Item.TheVariants.{Made}
use Rattle.reply_outbox.specs.Items.{entries}
use Rattle.session_rules.specs.declared.entry.Entry.{Entry}
use Rattle.session_rules.specs.declared.entry.Entry.TheVariants as entry
use Rattle.session_rules.specs.declared.service.Service.{Service}
use Rattle.session_rules.specs.Accepting.{taken}
use Rattle.session_rules.specs.Heard.{all_heard, heard}
use Rattle.session_rules.specs.History.{session}
use Rattle.session_rules.specs.Legal.{IsLegal}
use Rattle.session_rules.specs.Replies.{entry_replies, told_to}
use Rattle.session_rules.specs.Services.{mode_of}
use Rattle.session_rules.specs.Session.{Session}
use Rattle.session_rules.specs.Shown.{protocol_reports}
use Rattle.session_rules.specs.Steps.{Nothing, due}
use Rattle.document_session.specs.keeping_rules_below.Items.{SessionItem}
use Rattle.document_session.specs.keeping_rules_below.Legal.{AreLegal}
use Rattle.document_session.specs.keeping_rules_below.Looks.{IsLook}
use Rattle.document_session.specs.session_replies_below.Spelling.{reply_spelling}
use Rattle.document_session.specs.Contents.{SessionState}
use Rattle.mirror_rules.specs.Images.{Mirror}
use Rattle.mirror_rules.specs.Looking.{view_in}
use Rattle.mirror_rules.specs.Moves.{mirrored}
use Rattle.editor_laws.specs.Shown.{view_shown}
use Rattle.pide_mirror.specs.Looking.{Answers, LooksSo}
use Rattle.pide_mirror.specs.declared.look_error.LookError.{LookError}
use Rattle.pide_mirror.specs.declared.look_error.LookError.TheVariants as look
use Rattle.mirror_serve.specs.Laws.{MirrorLaws}
use Rattle.mirror_serve.specs.LongReplies.{HasShortReplies, too_long, too_long_in}
use Rattle.mirror_serve.specs.Looks.{in_bytes, markup_in, markup_told}
use Rattle.mirror_serve.specs.Resting.{IsImageOf, Rests}
use Rattle.mirror_serve.specs.declared.ear.Ear.{Ear}
use Rattle.mirror_serve.proofs.LongOnes.{long_behind}
use Rattle.mirror_serve.proofs.Looked.{looks_so, refuses_so}
use Rattle.mirror_serve.proofs.Marking.{markup_is, reply_refused, reply_told}
use Rattle.mirror_serve.proofs.ShortRefusals.{refusal_short}
use Rattle.mirror_serve.proofs.Sees as sees

module _ {S : Type 0} (l : Lang S) (laws : MirrorLaws l) (law : sees.WaitsLaw l) (s : SessionState) (ear : Ear) (r : Rests l s ear)
    (none : due l s.service (all_heard s.service (entries s.items)) ≡ Nothing)
    (message : List (List ℕ)) (version : ℕ) (node : List ℕ) (edits : List Edit) (read : asked Serve message ≡ Ok (asks.Snapshot version node edits)) where
  abbrev service : Service
  service = s.service

  abbrev h : List Entry
  h = entries s.items

  abbrev now : Session
  now = session l service (all_heard service h)

  abbrev m : Mirror
  m = sees.m l laws law s ear r none message version node edits read

  asks_look : asked (mode_of service) message ≡ Ok (asks.Snapshot version node edits)
  asks_look = sees.read_so l laws law s ear r none message version node edits read

  same_view : (es : List Edit) → view_in m version node es ≡ view_shown l now version node es
  same_view = sees.same_view l laws law s ear r none message version node edits read

  -- what the mirror answers
  module _ {A : Type 0} (result : Result A LookError) (bytes : A → List ℕ) (protocol : Protocol) (same : protocol ≡ now.protocol)
      (so : LooksSo bytes (λ k. in_bytes (markup_in protocol version node edits k)) (mirrored ear.mirror.mode ear.mirror.moves) result) where
    at_known : Answers bytes (in_bytes (markup_in now.protocol version node edits m)) result
    at_known = subst (λ p. Answers bytes (in_bytes (markup_in p version node edits m)) result) same
        (subst (λ x. LooksSo bytes (λ k. in_bytes (markup_in protocol version node edits k)) x result) (sees.knows l laws law s ear r none message version node edits read) so)

    -- the reply is what the session would tell
    reply_so : (reply : A) → result ≡ Ok reply → (told : Told) × (markup_in now.protocol version node edits m ≡ Ok told) × (reply_spelling told ≡ bytes reply)
    reply_so reply is = reply_told (markup_in now.protocol version node edits m) (bytes reply)
        (subst (Answers bytes (in_bytes (markup_in now.protocol version node edits m))) is at_known)

    pub is_look : (reply : A) → result ≡ Ok reply → IsLook l service now (asked (mode_of service) message) (bytes reply)
    is_look reply is =
        let t = reply_so reply is in
        subst (λ x. IsLook l service now x (bytes reply)) (sym asks_look)
        (subst (IsLook l service now (Ok (asks.Snapshot version node edits))) t.2 (looks_so l service now m version node same_view edits t.0 t.1).0)

    -- or it refuses it
    refused_so : (reason : Refusal) → result ≡ Err (look.Refused reason) → markup_in now.protocol version node edits m ≡ Err reason
    refused_so reason is = reply_refused (markup_in now.protocol version node edits m) reason
        (subst (Answers bytes (in_bytes (markup_in now.protocol version node edits m))) is at_known)

    pub is_refused : (reason : Refusal) → result ≡ Err (look.Refused reason) → taken l service now (asked (mode_of service) message) ≡ Err reason
    is_refused reason is = ap (taken l service now) asks_look ∙ (refuses_so l service now m version node same_view edits reason (refused_so reason is)).0

    -- the call is the newest entry
    module _ (new : SessionState) (stays : new.service ≡ service) (legal_new : AreLegal l new.service new.items) (is : new.items ≡ Made (entry.Call message) ∷ s.items) where
      later : IsLegal l service (all_heard service (entry.Call message ∷ h))
      later = laws.hearing.lists.legal service (Made (entry.Call message) ∷ s.items)
          (subst (λ v. AreLegal l v (Made (entry.Call message) ∷ s.items)) stays (subst (AreLegal l new.service) is legal_new))

      at_new : (P : Service → List Entry → Type 0) → P service (entry.Call message ∷ h) → P new.service (entries new.items)
      at_new P p = subst (λ v. P v (entries new.items)) (sym stays) (subst (P service) (ap (λ (is : List SessionItem). entries is) (sym is)) p)

      one : (told : Told) → told_to l service now (Ok (asks.Snapshot version node edits)) ≡ told ∷ []
          → entry_replies l service (all_heard service h) (heard service (entry.Call message)) ≡ told ∷ []
      one told replies = ap (told_to l service now) asks_look ∙ replies

      still_short : (told : Told) → told_to l service now (Ok (asks.Snapshot version node edits)) ≡ told ∷ [] → too_long told ≡ [] → HasShortReplies l new
      still_short told replies short = at_new (λ v es. too_long_in l v es ≡ [])
          (long_behind l service (entry.Call message ∷ []) h r.short ∙ ap (flat_map too_long) (one told replies) ∙ append-nil (too_long told) ∙ short)

      -- the mirror knows what an editor knows that hears the reply
      pub image_after : (reply : A) → result ≡ Ok reply → IsImageOf l new.service [] (entries new.items) [] ear.mirror × HasShortReplies l new
      image_after reply made =
          let t = reply_so reply made in
          let marks = markup_is now.protocol version node edits m t.0 t.1 in
          let view = marks.0 in
          let replies = (looks_so l service now m version node same_view edits t.0 t.1).1 ∙ ap (λ (told : Told). told ∷ []) marks.2 in (
            at_new (λ v es. IsImageOf l v [] es [] ear.mirror)
                (sees.after_markup l laws law s ear r none message version node edits read later
                (protocol_reports now.protocol marks.1 view.reports) view.pending view.outdated (one (markup_told now.protocol version node view marks.1) replies)),
            still_short (markup_told now.protocol version node view marks.1) replies refl,
          )

      pub image_refusing : (reason : Refusal) → result ≡ Err (look.Refused reason) → IsImageOf l new.service [] (entries new.items) [] ear.mirror × HasShortReplies l new
      image_refusing reason made =
          let replies = (refuses_so l service now m version node same_view edits reason (refused_so reason made)).1 in (
            at_new (λ v es. IsImageOf l v [] es [] ear.mirror)
                (sees.after_refusal l laws law s ear r none message version node edits read later reason (one (tells.Refused reason) replies)),
            still_short (tells.Refused reason) replies (refusal_short reason),
          )
