-- The session is at rest behind a message that it answered, and the mirror has heard its replies.
use Rattle.std.proofs.Common.{◌≡◌, ℕ, List, [], ◌∷◌, ◌++◌, length, map, take, refl, sym, ap, subst, ◌∙◌, append-nil, append_assoc, arith}
use Rattle.std.proofs.lemmas.List.{take_all}
use Rattle.std.specs.List.{AllByRecursion}
use Rattle.byte_message.specs.Stream.{IsMessage}
use Rattle.language.specs.Lang.{Lang}
use Rattle.message_values.specs.Asked.{asked}
use Rattle.reply_outbox.specs.Items.{entries}
use Rattle.reply_messages.specs.FoundReplies.{IsReply}
use Rattle.session_rules.specs.declared.entry.Entry.{Entry}
use Rattle.session_rules.specs.declared.entry.Entry.TheVariants as entry
use Rattle.session_rules.specs.declared.service.Service.{Service}
use Rattle.session_rules.specs.Heard.{all_heard, heard}
use Rattle.session_rules.specs.Legal.{IsLegal}
use Rattle.session_rules.specs.Services.{mode_of}
use Rattle.document_session.specs.keeping_rules_below.Items.{SessionItem, heard_in}
use Rattle.document_session.specs.keeping_rules_below.Pieces.{pieces}
use Rattle.document_serve.specs.Listening.{replies_sent}
use Rattle.document_serve.specs.Served.{AllSent, HasAnswered}
use Rattle.document_serve.specs.Served as served
use Rattle.mirror_rules.specs.Answers.{Read}
use Rattle.mirror_rules.specs.Moves.{Move, Sent}
use Rattle.editor_laws.specs.Follows.{Follows}
use Rattle.editor_laws.specs.Shown.{SeesSo}
use Rattle.editor_laws.specs.Streams.{all_replies}
use Rattle.editor_laws.proofs.KnownReadings.{StreamLaws}
use Rattle.editor_laws.specs.Heard.{AreMessages}
use Rattle.pide_mirror.specs.Hearing.{Hearing}
use Rattle.mirror_serve.specs.Heard.{HearsAll, IsFirstLong, MeetsFault}
use Rattle.mirror_serve.specs.LongReplies.{too_long_in}
use Rattle.mirror_serve.specs.Looks.{IsNoLook}
use Rattle.mirror_serve.specs.Resting.{IsBetween, IsImageOf}
use Rattle.mirror_serve.proofs.Faultless.{faultless}
use Rattle.mirror_serve.proofs.LongOnes.{long_behind, long_news, news_plain, short_news}
use Rattle.mirror_serve.proofs.PlainOnes.{IsOther}
use Rattle.mirror_serve.proofs.OneHeard.{IsWritten, OneWay}
use Rattle.mirror_serve.proofs.Passed.{NoCalls, added_by, fit_news, heard_news, image_begun, image_passed}
use Rattle.mirror_serve.proofs.Walk.{news, spelling}

-- a list that ends is not empty
call_last : (ms : List (List (List ℕ))) (m : List (List ℕ)) → ms ++ m ∷ [] ≡ [] → ⊥
call_last [] m e = let no : ⊥ = cc in no
call_last (n ∷ ms) m e = let no : ⊥ = cc in no

-- so all calls are byte messages, and none is a snapshot
none_spelled : (es more : List Entry) → served.calls es ≡ [] → AreMessages more → AreMessages (es ++ more)
none_spelled [] more none all = all
none_spelled (entry.Call m ∷ es) more none all = absurd (call_last (served.calls es) m none)
none_spelled (entry.Claimed who part ∷ es) more none all = (tt, none_spelled es more none all)
none_spelled (entry.Finished who part ∷ es) more none all = (tt, none_spelled es more none all)
none_spelled (entry.Dropped who part ∷ es) more none all = (tt, none_spelled es more none all)
none_spelled (entry.Ended ∷ es) more none all = (tt, none_spelled es more none all)

module _ {S : Type 0} (l : Lang S) (service : Service) where
  no_calls : (es : List Entry) → served.calls es ≡ [] → NoCalls l service es
  no_calls [] none = tt
  no_calls (entry.Call m ∷ es) none = absurd (call_last (served.calls es) m none)
  no_calls (entry.Claimed who part ∷ es) none = (refl, no_calls es none)
  no_calls (entry.Finished who part ∷ es) none = (refl, no_calls es none)
  no_calls (entry.Dropped who part ∷ es) none = (refl, no_calls es none)
  no_calls (entry.Ended ∷ es) none = (refl, no_calls es none)

  none_looked : (es more : List Entry) → served.calls es ≡ [] → AllByRecursion (λ e. IsOther l service (heard service e)) more
      → AllByRecursion (λ e. IsOther l service (heard service e)) (es ++ more)
  none_looked [] more none all = all
  none_looked (entry.Call m ∷ es) more none all = absurd (call_last (served.calls es) m none)
  none_looked (entry.Claimed who part ∷ es) more none all = (tt, none_looked es more none all)
  none_looked (entry.Finished who part ∷ es) more none all = (tt, none_looked es more none all)
  none_looked (entry.Dropped who part ∷ es) more none all = (tt, none_looked es more none all)
  none_looked (entry.Ended ∷ es) more none all = (tt, none_looked es more none all)

  -- all replies are sent
  whole_sent : (items : List SessionItem) → AllSent l service items → replies_sent l service items ≡ pieces l service (heard_in service items)
  whole_sent items all = ap (λ n. take n (pieces l service (heard_in service items))) all
      ∙ take_all (length (pieces l service (heard_in service items))) (pieces l service (heard_in service items)) (omega arith)

  module _ (items later : List SessionItem) (message : List (List ℕ)) (answered : HasAnswered message (entries items) (entries later)) where
    abbrev h : List Entry
    h = entries items

    abbrev worked : List Entry
    worked = answered.works.worked

    abbrev after : List Entry
    after = answered.done.worked

    abbrev added : List Entry
    added = added_by l service after message worked

    whole : entries later ≡ added ++ h
    whole = answered.done.is ∙ ap (λ es. after ++ entry.Call message ∷ es) answered.works.is
        ∙ sym (append_assoc after (entry.Call message ∷ worked) h)

    pub all_messages : AreMessages h → IsMessage message → AreMessages (entries later)
    all_messages calls is = subst AreMessages (sym answered.done.is)
        (none_spelled after (entry.Call message ∷ answered.before) answered.done.none_called
        (is, subst AreMessages (sym answered.works.is) (none_spelled worked h answered.works.none_called calls)))

    module _ (replies : List (List ℕ)) (sent : AllSent l service items) (all : AllSent l service later)
        (split : replies_sent l service later ≡ replies_sent l service items ++ replies) where
      replies_are : replies ≡ map spelling (news l service added h)
      replies_are = heard_news l service added h replies
          (ap (λ es. pieces l service (all_heard service es)) (sym whole) ∙ sym (whole_sent later all) ∙ split
          ∙ ap (λ bs. bs ++ replies) (whole_sent items sent))

      module _ (a b : Hearing) (hears : HearsAll a replies b) where
        told : HearsAll a (map spelling (news l service added h)) b
        told = subst (λ bs. HearsAll a bs b) replies_are hears

        -- the mirror knows what the editor of the longer history knows
        pub image_later : (one : OneWay) (written : IsWritten) (old : Hearing) → AllByRecursion IsReply (all_replies l service (entries later))
            → IsImageOf l service [] h [] old → a.moves ≡ Sent (asked (mode_of service) message) ∷ old.moves → IsBetween (mode_of service) a
            → IsImageOf l service [] (entries later) [] b
        image_later one written old fits i moves between =
            subst (λ es. IsImageOf l service [] es [] b) (sym whole)
            (image_passed l service message h after worked (no_calls after answered.done.none_called)
            (no_calls worked answered.works.none_called) old a i moves between one written b
            (fit_news l service added h (subst (λ es. AllByRecursion IsReply (all_replies l service es)) whole fits)) told)

        -- no reply was too long
        pub short_later : too_long_in l service h ≡ [] → too_long_in l service (entries later) ≡ []
        short_later none = ap (too_long_in l service) whole ∙ long_behind l service added h none ∙ short_news (news l service added h) a b told

      -- none was at fault
      pub never_faults : (streams : StreamLaws) (one : OneWay) (sees : (ahead g : List Entry) (calls : List Read) (moves : List Move)
          → IsLegal l service (all_heard service g) → Follows l service ahead g calls moves → SeesSo l service g moves)
          (old a : Hearing) → AllByRecursion IsReply (all_replies l service (entries later)) → IsLegal l service (heard_in service later)
          → IsImageOf l service [] h [] old → a.moves ≡ Sent (asked (mode_of service) message) ∷ old.moves → IsBetween (mode_of service) a
          → MeetsFault a replies → ⊥
      never_faults streams one sees old a fits legal i moves between f =
          faultless l service streams one sees added [] h [] a
          (image_begun l service message h after worked (no_calls after answered.done.none_called) (no_calls worked answered.works.none_called) old a i moves between)
          (subst (λ es. IsLegal l service (all_heard service es)) whole legal)
          (fit_news l service added h (subst (λ es. AllByRecursion IsReply (all_replies l service es)) whole fits))
          (subst (MeetsFault a) replies_are f)

      -- or one was too long
      pub long_later : (len : ℕ) → IsNoLook (asked (mode_of service) message) → IsFirstLong replies len → too_long_in l service h ≡ []
          → (more : List ℕ) × (too_long_in l service (entries later) ≡ len ∷ more)
      long_later len other first none =
          let plain = news_plain l service added h (none_looked after (entry.Call message ∷ worked) answered.done.none_called (
            other,
            subst (λ es. AllByRecursion (λ e. IsOther l service (heard service e)) es) (append-nil worked)
                (none_looked worked [] answered.works.none_called tt),
          )) in
          let found = long_news len (news l service added h) plain (subst (λ bs. IsFirstLong bs len) replies_are first) in
          (found.0, ap (too_long_in l service) whole ∙ long_behind l service added h none ∙ found.1)
