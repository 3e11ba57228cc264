-- A message is answered by the session, and the mirror has heard all of its replies.
use Rattle.std.proofs.Common.{◌≡◌, List, ℕ, [], ◌∷◌, ◌++◌, map, refl, sym, ap, subst, ◌∙◌, append-nil}
use Rattle.std.proofs.lemmas.List.{append_cancel_left}
use Rattle.std.specs.List.{AllByRecursion}
use Rattle.text_words.proofs.KnownLists.{each-part}
use Rattle.language.specs.Lang.{Lang}
use Rattle.message_values.specs.Asked.{asked}
use Rattle.reply_messages.specs.FoundReplies.{IsReply}
use Rattle.session_rules.specs.declared.entry.Entry.{Entry}
use Rattle.session_rules.specs.declared.entry.Entry.TheVariants as entry
use Rattle.session_rules.specs.declared.service.Service.{Service}
use Rattle.session_rules.specs.Heard.{all_heard, heard}
use Rattle.session_rules.specs.Replies.{entry_replies}
use Rattle.session_rules.specs.Services.{mode_of}
use Rattle.document_session.specs.keeping_rules_below.Pieces.{pieces}
use Rattle.mirror_rules.specs.Answers.{Read}
use Rattle.mirror_rules.specs.Moves.{Move, Sent}
use Rattle.editor_laws.specs.Follows.{AreFirst, Follows, call_of, calls}
use Rattle.editor_laws.specs.Streams.{all_replies}
use Rattle.editor_laws.proofs.KnownWalking.{calls_both}
use Rattle.pide_mirror.specs.Hearing.{Hearing}
use Rattle.mirror_serve.specs.Heard.{HearsAll}
use Rattle.mirror_serve.specs.Resting.{IsBetween, IsImageOf}
use Rattle.mirror_serve.proofs.Image.{image_sent}
use Rattle.mirror_serve.proofs.LongOnes.{all_news}
use Rattle.mirror_serve.proofs.OneHeard.{IsWritten, OneWay}
use Rattle.mirror_serve.proofs.Walk.{image_all, map_both, news, spelling}

module _ {S : Type 0} (l : Lang S) (service : Service) where
  -- these entries are no calls
  abbrev pub NoCalls : List Entry → Type 0
  NoCalls es = AllByRecursion (λ e. call_of service e ≡ []) es

  none_called : (es : List Entry) → NoCalls es → calls service es ≡ []
  none_called [] all = refl
  none_called (e ∷ es) all = ap (λ rs. rs ++ call_of service e) (none_called es all.1) ∙ all.0

  abbrev pub added_by : List Entry → List (List ℕ) → List Entry → List Entry
  added_by after message worked = after ++ entry.Call message ∷ worked

  calls_added : (message : List (List ℕ)) (after worked : List Entry) → NoCalls after → NoCalls worked
      → calls service (added_by after message worked) ≡ asked (mode_of service) message ∷ []
  calls_added message after worked x y =
      calls_both service after (entry.Call message ∷ worked)
      ∙ ap (λ rs. (calls service worked ++ asked (mode_of service) message ∷ []) ++ rs) (none_called after x)
      ∙ append-nil (calls service worked ++ asked (mode_of service) message ∷ [])
      ∙ ap (λ rs. rs ++ asked (mode_of service) message ∷ []) (none_called worked y)

  -- what is ahead may be other entries with the same calls
  follows_same : (h ahead other : List Entry) (sent : List Read) (moves : List Move) → calls service ahead ≡ calls service other
      → Follows l service ahead h sent moves → Follows l service other h sent moves
  follows_same [] ahead other sent moves same (is, first) = (is, subst (AreFirst sent) same first)
  follows_same (e ∷ h) ahead other sent moves same (before, after, older, newer, f, hears, is, split, first) = (
    before,
    after,
    older,
    newer,
    follows_same h (ahead ++ e ∷ []) (other ++ e ∷ []) (call_of service e ++ before) older
        (calls_both service ahead (e ∷ []) ∙ ap (λ rs. calls service (e ∷ []) ++ rs) same ∙ sym (calls_both service other (e ∷ []))) f,
    hears,
    is,
    split,
    subst (AreFirst sent) same first,
  )

  image_ahead : (h ahead other : List Entry) (sent : List Read) (now : Hearing) → calls service ahead ≡ calls service other
      → IsImageOf l service ahead h sent now → IsImageOf l service other h sent now
  image_ahead h ahead other sent now same i = record {
    between = i.between;
    did = i.did;
    follows = follows_same h ahead other sent i.did same i.follows;
    same = i.same;
  }

  -- replies one by one are those that are told
  pub pieces_are : (h : List Entry) → pieces l service (all_heard service h) ≡ map spelling (all_replies l service h)
  pieces_are [] = refl
  pieces_are (e ∷ h) =
      let own = entry_replies l service (all_heard service h) (heard service e) in
      ap (λ bs. bs ++ map spelling own) (pieces_are h) ∙ sym (map_both (all_replies l service h) own)

  -- those that are new are the ones that the new entries have
  pub heard_news : (added h : List Entry) (replies : List (List ℕ)) → pieces l service (all_heard service (added ++ h)) ≡ pieces l service (all_heard service h) ++ replies
      → replies ≡ map spelling (news l service added h)
  heard_news added h replies split = append_cancel_left (map spelling (all_replies l service h)) replies (map spelling (news l service added h))
      (ap (λ bs. bs ++ replies) (sym (pieces_are h)) ∙ sym split ∙ pieces_are (added ++ h)
      ∙ ap (map spelling) (all_news l service added h) ∙ map_both (all_replies l service h) (news l service added h))

  -- they can be read, where all can
  pub fit_news : (added h : List Entry) → AllByRecursion IsReply (all_replies l service (added ++ h)) → AllByRecursion IsReply (news l service added h)
  fit_news added h all =
      (each-part IsReply (all_replies l service h) (news l service added h) (subst (AllByRecursion IsReply) (all_news l service added h) all)).1

  module _ (message : List (List ℕ)) (h after worked : List Entry) (x : NoCalls after) (y : NoCalls worked) where
    abbrev added : List Entry
    added = added_by after message worked

    module _ (old sent : Hearing) (i : IsImageOf l service [] h [] old) (moves : sent.moves ≡ Sent (asked (mode_of service) message) ∷ old.moves)
        (between : IsBetween (mode_of service) sent) where
      -- before any of the replies is heard
      pub image_begun : IsImageOf l service added h (calls service added ++ []) sent
      image_begun =
          let called = calls_added message after worked x y in
          let first = image_ahead h (entry.Call message ∷ []) added (asked (mode_of service) message ∷ []) sent (sym called)
          (image_sent l service message h old sent i moves between) in
          subst (λ rs. IsImageOf l service added h rs sent) (sym called ∙ sym (append-nil (calls service added))) first

      pub image_passed : (one : OneWay) (written : IsWritten) (new : Hearing) → AllByRecursion IsReply (news l service added h)
          → HearsAll sent (map spelling (news l service added h)) new → IsImageOf l service [] (added ++ h) [] new
      image_passed one written new fits all = image_all l service one written added [] h [] sent new image_begun fits all
