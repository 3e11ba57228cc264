-- A snapshot is answered by what the mirror knows, and the mirror is as before.
use Rattle.std.proofs.Common.{◌≡◌, ◌≢◌, ℕ, Bool, List, [], ◌∷◌, Ok, refl, sym, ap, ◌∙◌}
use Rattle.text_edits.specs.declared.edit.Edit.{Edit}
use Rattle.language.specs.Lang.{Lang}
use Rattle.message_values.specs.Asked.{asked}
use Rattle.message_values.specs.declared.editor_message.EditorMessage.TheVariants as asks
use Rattle.message_values.specs.declared.refusal.Refusal.{Refusal}
use Rattle.report_markup.specs.declared.report.Report.{Report}
use Rattle.reply_messages.specs.declared.told.Told.{Told}
use Rattle.reply_messages.specs.declared.told.Told.TheVariants as tells
use Rattle.session_rules.specs.declared.entry.Entry.{Entry}
use Rattle.session_rules.specs.declared.entry.Entry.TheVariants as entry
use Rattle.session_rules.specs.declared.service.Service.{Service}
use Rattle.session_rules.specs.declared.service.Service.TheVariants.{Script}
use Rattle.session_rules.specs.Heard.{all_heard, heard}
use Rattle.session_rules.specs.History.{session}
use Rattle.session_rules.specs.Legal.{IsLegal}
use Rattle.session_rules.specs.Replies.{entry_replies}
use Rattle.session_rules.specs.Services.{mode_of}
use Rattle.session_rules.specs.Steps.{Nothing, due}
use Rattle.mirror_rules.specs.Answers.{Read}
use Rattle.mirror_rules.specs.Images.{Mirror}
use Rattle.mirror_rules.specs.Looking.{view_in}
use Rattle.mirror_rules.specs.Moves.{Going, Move, mirrored}
use Rattle.mirror_rules.specs.Replies.{after_answer, after_first_answer, after_reply}
use Rattle.editor_laws.specs.Follows.{Follows}
use Rattle.editor_laws.specs.Shown.{SeesSo, WaitsSo, view_shown}
use Rattle.pide_mirror.specs.Hearing.{Hearing}
use Rattle.mirror_serve.specs.Resting.{IsImageOf}
use Rattle.mirror_serve.proofs.Image.{follows_look, image_look}

module _ {S : Type 0} (l : Lang S) (service : Service) (free : service ≢ Script)
    (sees : (ahead h : List Entry) (sent : List Read) (moves : List Move) → IsLegal l service (all_heard service h)
    → Follows l service ahead h sent moves → SeesSo l service h moves)
    (waits : (ahead h : List Entry) (sent : List Read) (moves : List Move) → IsLegal l service (all_heard service h)
    → Follows l service ahead h sent moves → WaitsSo l service h sent moves)
    (h : List Entry) (legal : IsLegal l service (all_heard service h)) (none : due l service (all_heard service h) ≡ Nothing)
    (now : Hearing) (i : IsImageOf l service [] h [] now) where
  s : SeesSo l service h i.did
  s = sees [] h [] i.did legal i.follows

  w : WaitsSo l service h [] i.did
  w = waits [] h [] i.did legal i.follows

  -- the mirror met no fault, and it sees what the session shows
  pub known : Mirror
  known = s.mirror

  pub going : mirrored (mode_of service) now.moves ≡ Going known
  unfolding known
  going = i.same ∙ s.going

  pub seen : (version : ℕ) (name : List ℕ) (edits : List Edit) → view_in known version name edits
      ≡ view_shown l (session l service (all_heard service h)) version name edits
  unfolding known
  seen = s.sees

  nothing_waits : s.mirror.unanswered ≡ []
  nothing_waits =
      let same : s.mirror ≡ w.mirror = (let both : Going s.mirror ≡ Going w.mirror = sym s.going ∙ w.going in cc) in
      ap (λ (m : Mirror). m.unanswered) same ∙ w.waits none

  module _ (message : List (List ℕ)) (version : ℕ) (node : List ℕ) (edits : List Edit) (read : asked (mode_of service) message ≡ Ok (asks.Snapshot version node edits))
      (later : IsLegal l service (all_heard service (entry.Call message ∷ h))) where
    by_reply : (told : Told) → entry_replies l service (all_heard service h) (heard service (entry.Call message)) ≡ told ∷ []
        → ((k : Mirror) → after_reply (mode_of service) k told ≡ after_first_answer k k.unanswered told)
        → ((k : Mirror) → after_answer k (Ok (asks.Snapshot version node edits)) told ≡ k)
        → IsImageOf l service [] (entry.Call message ∷ h) [] now
    by_reply told one answers keeps =
        let after = sees [] (entry.Call message ∷ h) [] _ later (follows_look l service message h told now i s.mirror s.mirror one) in
        image_look l service message h told now i s.mirror after.mirror one s.going after.going nothing_waits answers
        (λ k. ap (λ r. after_answer k r told) read ∙ keeps k)

    -- where the reply is its markup
    pub image_shown : (reports : List Report) (pending : List ℕ) (outdated : Bool)
        → entry_replies l service (all_heard service h) (heard service (entry.Call message)) ≡ tells.Markup version node reports pending outdated ∷ []
        → IsImageOf l service [] (entry.Call message ∷ h) [] now
    image_shown reports pending outdated one = by_reply (tells.Markup version node reports pending outdated) one (λ k. refl) (λ k. refl)

    -- or a refusal
    pub image_refused : (reason : Refusal) → entry_replies l service (all_heard service h) (heard service (entry.Call message)) ≡ tells.Refused reason ∷ []
        → IsImageOf l service [] (entry.Call message ∷ h) [] now
    image_refused reason one = by_reply (tells.Refused reason) one (λ k. refl) (λ k. refl)
