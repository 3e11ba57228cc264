-- Where an editor stands in a history that it follows by bytes.
use Rattle.std.proofs.Common.{◌≡◌, ◌⊎◌, inl, inr, ℕ, ◌+◌, ◌≤◌, List, [], ◌∷◌, ◌++◌, length, refl, ap, sym, subst, ◌∙◌, append_assoc, arith}
use Rattle.std.proofs.lemmas.List.{length-append, append_cancel_left}
use Rattle.std.proofs.lemmas.Grind.{flat_map-append}
use Rattle.std.specs.List.{AllByRecursion}
use Rattle.byte_message.specs.Stream.{Ending, IsReadAs, plain_spelling}
use Rattle.byte_message.specs.Stream.Ending.{Bad}
use Rattle.byte_message.specs.declared.frame_fault.FrameFault.{FrameFault}
use Rattle.language.specs.Lang.{Lang}
use Rattle.message_values.specs.Asked.{asked}
use Rattle.reply_messages.specs.declared.told.Told.{Told}
use Rattle.reply_messages.specs.Replies.{reply_chunks}
use Rattle.session_rules.specs.declared.entry.Entry.{Entry}
use Rattle.session_rules.specs.declared.service.Service.{Service}
use Rattle.session_rules.specs.Heard.{all_heard, heard}
use Rattle.session_rules.specs.Replies.{bytes_of, replies, entry_replies}
use Rattle.session_rules.specs.Services.{mode_of}
use Rattle.mirror_rules.specs.Answers.{Read}
use Rattle.mirror_rules.specs.Events.{AreHeard, AreMoves, MirrorEvent, Given, Fed, heard_moves, stream}
use Rattle.mirror_rules.specs.Moves.{Move, Sent, Heard, Broken}
use Rattle.editor_laws.specs.Follows.{calls}
use Rattle.editor_laws.specs.Streams.{AreInTime, CanBeHeard, IsInTime, all_replies, reads_given}
use Rattle.mirror_rules.proofs.KnownMoves.{heard_both}
use Rattle.editor_laws.proofs.HeardMoves.{heard_same, next_of}
use Rattle.editor_laws.proofs.NextReply.{IsLate, walk}
use Rattle.editor_laws.proofs.HeardReplies.{HeardTold, heard_told}
use Rattle.editor_laws.proofs.KnownReadings.{HeardAs, StreamLaws, first_read, heard_read, never_bad, read_all}
use Rattle.editor_laws.proofs.KnownWalking.{StandsAt, ahead_of, calls_both, follows_send, whole_is}

module _ {S : Type 0} (l : Lang S) (service : Service) where
  -- the bytes of a history's replies
  pub replies_are : (h : List Entry) → replies l service (all_heard service h) ≡ bytes_of (all_replies l service h)
  replies_are [] = refl
  replies_are (e ∷ h) =
      let own = entry_replies l service (all_heard service h) (heard service e) in
      ap (λ bs. bs ++ bytes_of own) (replies_are h) ∙ sym (flat_map-append (λ t. plain_spelling (reply_chunks t)) (all_replies l service h) own)

  module _ (laws : StreamLaws) (history : List Entry) (all : AllByRecursion CanBeHeard (all_replies l service history)) where
    -- an editor stands behind the replies that it heard, which are all that are whole
    pub record Stands (events : List MirrorEvent) (moves : List Move) : Type 0 where
      pub ts : List Told
      pub at : StandsAt l service history (reads_given service events) ts moves
      pub heard : HeardTold (heard_moves moves) ts
      pub reads : (messages : List (List (List ℕ))) (ending : Ending) → IsReadAs (stream events) messages ending → length messages ≡ length ts

    begins : Stands [] []
    begins =
        let r = next_of history in
        record {
          ts = [];
          at = record {
            next = r.0;
            h = [];
            sent = [];
            is = r.1;
            follows = (refl, (calls service (ahead_of r.0), refl));
            tells = refl;
            calls_are = refl;
            newest = λ e older is. absurd (cc);
          };
          heard = refl;
          reads = λ messages ending read. ap length (laws.one [] messages [] ending _ read (read_all laws [] tt)).0;
        }

    sends_on : (events : List MirrorEvent) (chunks : List (List ℕ)) (moves : List Move) → IsInTime l service history (Given chunks ∷ events)
        → Stands events moves → Stands (Given chunks ∷ events) (Sent (asked (mode_of service) chunks) ∷ moves)
    sends_on events chunks moves time s =
        let a = s.at in
        let read = asked (mode_of service) chunks in
        let parts : calls service history ≡ calls service a.h ++ calls service (ahead_of a.next) =
        ap (calls service) (a.is ∙ whole_is a.next a.h) ∙ calls_both service (ahead_of a.next) a.h in
        let first : calls service a.h ++ calls service (ahead_of a.next) ≡ calls service a.h ++ ((a.sent ++ read ∷ []) ++ time.order.0) =
        sym parts ∙ time.order.1 ∙ ap (λ rs. (rs ++ read ∷ []) ++ time.order.0) a.calls_are
        ∙ ap (λ rs. rs ++ time.order.0) (append_assoc (calls service a.h) a.sent (read ∷ []))
        ∙ append_assoc (calls service a.h) (a.sent ++ read ∷ []) time.order.0 in
        record {
          ts = s.ts;
          at = record {
            next = a.next;
            h = a.h;
            sent = a.sent ++ read ∷ [];
            is = a.is;
            follows = follows_send l service (ahead_of a.next) a.h a.sent moves read a.follows
                (time.order.0, append_cancel_left (calls service a.h) (calls service (ahead_of a.next)) ((a.sent ++ read ∷ []) ++ time.order.0) first);
            tells = a.tells;
            calls_are = ap (λ rs. rs ++ read ∷ []) a.calls_are ∙ append_assoc (calls service a.h) a.sent (read ∷ []);
            newest = a.newest;
          };
          heard = s.heard;
          reads = s.reads;
        }

    -- new replies, one after the other
    hears_on : (reads : List Read) (n : ℕ) → IsLate l service history reads n → (before : List Move) (f : List Told) → HeardTold (heard_moves before) f
        → StandsAt l service history reads f before → (new : List Move) (ts rest : List Told) → HeardTold (new ++ heard_moves before) ts
        → all_replies l service history ≡ ts ++ rest → length ts ≤ n → StandsAt l service history reads ts (new ++ before)
    hears_on reads n late before f heard a [] ts rest now tells most =
        subst (λ us. StandsAt l service history reads us before) (heard_same (heard_moves before) f ts heard now) a
    hears_on reads n late before f heard a (Sent read ∷ new) ts rest now tells most = absurd now
    hears_on reads n late before f heard a (Broken fault ∷ new) ts rest now tells most = absurd now
    hears_on reads n late before f heard a (Heard at reply ∷ new) ts rest (us, t, split, is, older) tells most =
        let long : length ts ≡ length us + 1 = ap length split ∙ length-append us (t ∷ []) in
        let told_so : all_replies l service history ≡ us ++ t ∷ rest = tells ∙ ap (λ xs. xs ++ rest) split ∙ append_assoc us (t ∷ []) rest in
        let b = hears_on reads n late before f heard a new us (t ∷ rest) older told_so (omega (arith, long, most)) in
        subst (λ xs. StandsAt l service history reads xs (Heard at reply ∷ (new ++ before))) (sym split)
        (subst (λ o. StandsAt l service history reads (us ++ t ∷ []) (Heard at o ∷ (new ++ before))) (sym is)
        (walk l service history reads n late us rest t (new ++ before) at told_so (omega (arith, long, most)) b.next b.h b.sent b.is b.follows b.calls_are b.tells))

    feeds_on : (events : List MirrorEvent) (piece : List ℕ) (before new : List Move) → heard_moves new ≡ new
        → AreHeard (stream events ++ piece) (heard_moves (new ++ before)) → IsInTime l service history (Fed piece ∷ events)
        → Stands events before → Stands (Fed piece ∷ events) (new ++ before)
    feeds_on events piece before new new_heard spelled time s = go (heard_read (stream events ++ piece) (heard_moves (new ++ before)) spelled)
      where
        front : bytes_of (all_replies l service history) ≡ (stream events ++ piece) ++ time.bytes.0
        front = sym (replies_are history) ∙ time.bytes.1

        go : ((messages : List (List (List ℕ))) × (ending : Ending) × IsReadAs (stream events ++ piece) messages ending
            × HeardAs (heard_moves (new ++ before)) messages)
            ⊎ ((messages : List (List (List ℕ))) × (fault : FrameFault) × IsReadAs (stream events ++ piece) messages (Bad fault)) → Stands (Fed piece ∷ events) (new ++ before)
        go (inr (messages, fault, read)) =
            absurd (never_bad laws (all_replies l service history) all (stream events ++ piece) time.bytes.0 front messages fault read)
        go (inl (messages, ending, read, heard_as)) =
            let more = first_read laws (all_replies l service history) all (stream events ++ piece) time.bytes.0 front messages ending read in
            let t = heard_told laws (heard_moves (new ++ before)) messages more.0 (all_replies l service history) all heard_as more.1 in
            let split : heard_moves (new ++ before) ≡ new ++ heard_moves before = heard_both new before ∙ ap (λ ms. ms ++ heard_moves before) new_heard in
            let late : IsLate l service history (reads_given service events) (length messages) = λ next h chunks is few.
            time.sent (ahead_of next) h chunks messages ending (is ∙ whole_is next _) few read in
            record {
              ts = t.0;
              at = hears_on (reads_given service events) (length messages) late before s.ts s.heard s.at new t.0 t.1
                  (subst (λ ms. HeardTold ms t.0) split t.3) t.2 (omega (arith, t.4));
              heard = t.3;
              reads = λ others end read_too. ap length (laws.one (stream events ++ piece) others messages end ending read_too read).0 ∙ t.4;
            }

    -- at each moment
    pub stands : (events : List MirrorEvent) (moves : List Move) → AreInTime l service history events → AreMoves (mode_of service) events moves → Stands events moves
    stands [] moves time are = subst (Stands []) (sym are) begins
    stands (Given chunks ∷ events) moves time (before, split, older) =
        subst (Stands (Given chunks ∷ events)) (sym split) (sends_on events chunks before time.1 (stands events before time.0 older))
    stands (Fed piece ∷ events) moves time (before, new, split, new_heard, older, spelled) =
        subst (Stands (Fed piece ∷ events)) (sym split)
        (feeds_on events piece before new new_heard (subst (λ ms. AreHeard (stream events ++ piece) (heard_moves ms)) split spelled) time.1
        (stands events before time.0 older))
