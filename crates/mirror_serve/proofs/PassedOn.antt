-- A session and a mirror, behind a message that the session answered.
use Rattle.std.proofs.Common.{◌≡◌, ℕ, ◌≤◌, List, [], ◌∷◌, ◌++◌, Option, Some, None, refl, sym, ap, subst, ◌∙◌, append-nil}
use Rattle.std.specs.List.{AllByRecursion, flat_map}
use Rattle.byte_message.specs.Stream.{IsMessage}
use Rattle.language.specs.Lang.{Lang}
use Rattle.message_values.specs.declared.mode.Mode.TheVariants.{Serve}
use Rattle.message_values.specs.Asked.{asked}
use Rattle.message_input.specs.declared.answering.Halt.TheVariants as halt
use Rattle.reply_outbox.specs.Items.{entries}
use Rattle.reply_messages.specs.FoundReplies.{IsReply}
use Rattle.session_rules.specs.declared.entry.Entry.{Entry}
use Rattle.session_rules.specs.declared.entry.Entry.TheVariants as entry
use Rattle.session_rules.specs.declared.service.Service.{Service}
use Rattle.session_rules.specs.declared.service.Service.TheVariants.{Script, Workers}
use Rattle.session_rules.specs.Legal.{IsLegal}
use Rattle.session_rules.specs.Services.{mode_of}
use Rattle.document_session.specs.Contents.{SessionState}
use Rattle.document_session.specs.keeping_rules_below.Items.{SessionItem, heard_in}
use Rattle.document_session.specs.keeping_rules_below.Legal.{AreLegal}
use Rattle.document_serve.specs.Listening.{HearsOn, replies_sent}
use Rattle.document_serve.specs.Runs.{GoesOn, IsEnded}
use Rattle.document_serve.specs.Served.{AllSent, HasAnswered}
use Rattle.editor_laws.specs.Heard.{AreMessages}
use Rattle.editor_laws.specs.Streams.{all_replies}
use Rattle.mirror_rules.specs.Events.{MirrorEvent, Given}
use Rattle.mirror_rules.specs.Moves.{Sent}
use Rattle.pide_mirror.specs.Hearing.{HasHeard, Hearing}
use Rattle.mirror_serve.specs.declared.ear.Ear.{Ear}
use Rattle.mirror_serve.specs.declared.ear.Unheard.TheVariants.{LongChunk, Fault}
use Rattle.mirror_serve.specs.Heard.{HearsAll, HearsSo, IsFirstLong}
use Rattle.mirror_serve.specs.Laws.{HearingLaws, MirrorLaws}
use Rattle.mirror_serve.specs.LongReplies.{too_long, too_long_in}
use Rattle.mirror_serve.specs.Looks.{IsNoLook}
use Rattle.mirror_serve.specs.Resting.{IsBetween, IsImageOf, Rests}
use Rattle.mirror_serve.proofs.EarHears.{all_heard, fault_heard, long_heard}
use Rattle.mirror_serve.proofs.Halting.{HaltsIn}
use Rattle.mirror_serve.proofs.OneHeard.{between_sent}
use Rattle.mirror_serve.proofs.Rested.{all_messages, image_later, long_later, never_faults, short_later}

-- an end has no reply
long_ended : {S : Type 0} (l : Lang S) (service : Service) (h : List Entry) → too_long_in l service (entry.Ended ∷ h) ≡ too_long_in l service h
long_ended l service h = ap (flat_map too_long) (append-nil (all_replies l service h))

module _ {S : Type 0} (l : Lang S) (laws : MirrorLaws l) (message : List (List ℕ)) (is : IsMessage message) (held held' : Option (List ℕ))
    (old new : SessionState) (ear told now : Ear) (rests : Rests l old ear) (same : told.unheard ≡ ear.unheard)
    (sent : told.mirror ≡ record ear.mirror { moves = Sent (asked ear.mirror.mode message) ∷ ear.mirror.moves })
    (given : (events : List MirrorEvent) → HasHeard events ear.mirror → HasHeard (Given message ∷ events) told.mirror)
    (goes : GoesOn l held held' old new (message ∷ [])) (answered : HasAnswered message (entries old.items) (entries new.items))
    (hears : HearsOn l (λ (a : Ear) replies (b : Ear). HearsSo a.unheard a.mirror replies b.unheard b.mirror) old new told now) where
  abbrev service : Service
  service = old.service

  abbrev hearing : HearingLaws l
  hearing = laws.hearing

  -- it is served as before
  as_before : (P : Service → Type 0) → P new.service → P service
  as_before P p = subst P goes.service p

  split : replies_sent l service new.items ≡ replies_sent l service old.items ++ hears.heard
  split = as_before (λ v. replies_sent l v new.items ≡ replies_sent l service old.items ++ hears.heard) hears.sent

  all : AllSent l service new.items
  all = as_before (λ v. AllSent l v new.items) goes.rests.sent

  called : AreMessages (entries new.items)
  called = all_messages l service old.items new.items message answered rests.calls is

  legal : IsLegal l service (heard_in service new.items)
  legal = hearing.lists.legal service new.items (as_before (λ v. AreLegal l v new.items) goes.rests.going.legal)

  fits : AllByRecursion IsReply (all_replies l service (entries new.items))
  fits = hearing.readable service (entries new.items) rests.tellable legal called

  between : IsBetween (mode_of service) told.mirror
  between = between_sent hearing.moves (mode_of service) ear.mirror told.mirror rests.image.between message sent given

  moves : told.mirror.moves ≡ Sent (asked (mode_of service) message) ∷ ear.mirror.moves
  moves = ap (λ (m : Hearing). m.moves) sent ∙ ap (λ m. Sent (asked m message) ∷ ear.mirror.moves) rests.image.between.mode_is

  -- it goes on
  pub rests_behind : now.unheard ≡ None → Rests l new now
  rests_behind fine =
      let heard : HearsAll told.mirror hears.heard now.mirror = all_heard told.unheard now.unheard told.mirror now.mirror hears.heard fine hears.hears in
      record {
        session = goes.rests;
        service = goes.service ∙ rests.service;
        tellable = rests.tellable;
        calls = called;
        image = subst (λ (v : Service). IsImageOf l v [] (entries new.items) [] now.mirror) (sym goes.service)
            (image_later l service old.items new.items message answered hears.heard rests.session.sent all split told.mirror now.mirror heard
            hearing.moves hearing.streams.spelled ear.mirror fits rests.image moves between);
        fine = fine;
        short = ap (λ (v : Service). too_long_in l v (entries new.items)) goes.service
            ∙ short_later l service old.items new.items message answered hears.heard rests.session.sent all split told.mirror now.mirror heard rests.short;
      }

  -- or it ends behind a long reply
  pub long_behind : (last : SessionState) (before after len : ℕ) → IsNoLook (asked Serve message) → now.unheard ≡ Some (LongChunk len)
      → IsEnded l new last → before ≤ after → HaltsIn l held held' before after old (message ∷ []) (halt.BadReply len) last
  long_behind last before after len other is_long ends steady =
      let no_look = subst (λ (v : Service). IsNoLook (asked (mode_of v) message)) (sym rests.service) other in
      let first : IsFirstLong hears.heard len = long_heard told.unheard now.unheard told.mirror now.mirror hears.heard len (same ∙ rests.fine) is_long hears.hears in
      let long = long_later l service old.items new.items message answered hears.heard rests.session.sent all split len no_look first rests.short in
      record {
        first = message ∷ [];
        rest = [];
        parts = refl;
        halts = (
          record {
            last = new;
            goes = goes;
            ends = ends;
            more = long.0;
            long = ap (λ (v : Service). too_long_in l v (entries last.items)) (ends.service ∙ goes.service)
                ∙ ap (λ (items : List SessionItem). too_long_in l service (entries items)) ends.items
                ∙ long_ended l service (entries new.items) ∙ long.1;
          },
          steady,
        );
      }

  -- no reply is at fault
  pub no_fault : now.unheard ≡ Some Fault → ⊥
  no_fault is_fault = never_faults l service old.items new.items message answered hears.heard rests.session.sent all split hearing.streams hearing.moves
      (λ ahead g calls ms legal follows. laws.sees service ahead g calls ms rests.tellable.told legal (λ script. free script) follows)
      ear.mirror told.mirror fits legal rests.image moves between
      (fault_heard told.unheard now.unheard told.mirror now.mirror hears.heard (same ∙ rests.fine) is_fault hears.hears)
    where
      free : {X : Type 0} → service ≡ Script → X
      free script = let no : Workers 0 ≡ Script = sym rests.service ∙ script in let never : ⊥ = cc in absurd never
