-- By bytes there is no fault, and where a reply ends, what is seen is what the session shows.
use Rattle.std.proofs.Common.{◌≡◌, ◌⊎◌, inl, inr, ◌<◌, ◌≤◌, List, [], ◌∷◌, ◌++◌, length, map, None, refl, ap, sym, subst, ◌∙◌, append_assoc, append-nil, arith}
use Rattle.std.proofs.lemmas.List.{length-append, length-map}
use Rattle.std.specs.Prelude.{◌≢◌}
use Rattle.std.specs.List.{AllByRecursion}
use Rattle.byte_message.specs.Stream.{IsReadAs}
use Rattle.byte_message.specs.Stream.Ending.{Whole}
use Rattle.language.specs.Lang.{Lang}
use Rattle.reply_messages.specs.declared.told.Told.{Told}
use Rattle.reply_messages.specs.Replies.{reply_chunks}
use Rattle.session_rules.specs.declared.entry.Entry.{Entry}
use Rattle.session_rules.specs.declared.service.Service.{Service}
use Rattle.session_rules.specs.declared.service.Service.TheVariants.{Script}
use Rattle.session_rules.specs.Alone.{IsAlone}
use Rattle.session_rules.specs.Heard.{all_heard, heard}
use Rattle.session_rules.specs.Legal.{IsLegal}
use Rattle.session_rules.specs.Replies.{entry_replies}
use Rattle.session_rules.specs.Services.{mode_of}
use Rattle.mirror_rules.specs.Answers.{Read}
use Rattle.mirror_rules.specs.Events.{MirrorEvent, stream}
use Rattle.mirror_rules.specs.Images.{Mirror}
use Rattle.mirror_rules.specs.Moves.{Going, Move, mirrored}
use Rattle.editor_laws.specs.Follows.{Follows}
use Rattle.editor_laws.specs.Shown.{SeesSo}
use Rattle.editor_laws.specs.Streams.{CanBeHeard, EndsWith, FollowsBytes, all_replies}
use Rattle.editor_laws.proofs.BytesStand.{Stands, replies_are, stands}
use Rattle.editor_laws.proofs.HeardReplies.{all_front}
use Rattle.editor_laws.proofs.KnownReadings.{StreamLaws, read_all}
use Rattle.editor_laws.proofs.KnownWalking.{ahead_of, whole, whole_is}

-- of two backs of a list one is a back of the other
comparable : (a b h g : List Entry) → a ++ h ≡ b ++ g → ((x : List Entry) × (h ≡ x ++ g)) ⊎ ((x : List Entry) × (g ≡ x ++ h))
comparable [] b h g e = inl (b, e)
comparable (x ∷ a) [] h g e = inr (x ∷ a, sym e)
comparable (x ∷ a) (y ∷ b) h g e = comparable a b h g (cc)

module _ {S : Type 0} (l : Lang S) (service : Service) where
  -- the law over moves
  abbrev pub MovesLaw : Type 0
  MovesLaw = (ahead h : List Entry) (sent : List Read) (moves : List Move) → IsLegal l service (all_heard service h)
      → (service ≡ Script → IsAlone l service None (all_heard service (ahead ++ h))) → Follows l service ahead h sent moves → SeesSo l service h moves

  legal_front : (next h : List Entry) → IsLegal l service (all_heard service (whole next h)) → IsLegal l service (all_heard service h)
  legal_front [] h legal = legal
  legal_front (e ∷ next) h legal = (legal_front next (e ∷ h) legal).0

  told_both : (a h : List Entry) → (more : List Told) × (all_replies l service (a ++ h) ≡ all_replies l service h ++ more)
  told_both [] h = ([], sym (append-nil (all_replies l service h)))
  told_both (e ∷ a) h =
      let r = told_both a h in
      let own = entry_replies l service (all_heard service (a ++ h)) (heard service e) in
      (r.0 ++ own, ap (λ ts. ts ++ own) r.1 ∙ append_assoc (all_replies l service h) r.0 own)

  told_least : (a h : List Entry) → length (all_replies l service h) ≤ length (all_replies l service (a ++ h))
  told_least a h =
      let r = told_both a h in
      let long : length (all_replies l service (a ++ h)) ≡ length (all_replies l service h ++ r.0) = ap length r.1 in
      let both = length-append (all_replies l service h) r.0 in omega (arith, long, both)

  some_told : (ts : List Told) → ts ≢ [] → 0 < length ts
  some_told [] some = absurd (some refl)
  some_told (t ∷ ts) some = omega arith

  -- backs that tell as much, and begin with what tells, are the same
  same_back : (h older : List Entry) (e : Entry) → ((x : Entry) (rest : List Entry) → h ≡ x ∷ rest → 0 < length (entry_replies l service (all_heard service rest) (heard service x)))
      → entry_replies l service (all_heard service older) (heard service e) ≢ [] → length (all_replies l service h) ≡ length (all_replies l service (e ∷ older))
      → ((x : List Entry) × (h ≡ x ++ e ∷ older)) ⊎ ((x : List Entry) × (e ∷ older ≡ x ++ h)) → h ≡ e ∷ older
  same_back h older e newest some count (inl ([], is)) = is
  same_back h older e newest some count (inl (x ∷ a, is)) =
      let tells = newest x (a ++ e ∷ older) is in
      let least = told_least a (e ∷ older) in
      let both = length-append (all_replies l service (a ++ e ∷ older)) (entry_replies l service (all_heard service (a ++ e ∷ older)) (heard service x)) in
      let long : length (all_replies l service h) ≡ length (all_replies l service (x ∷ (a ++ e ∷ older))) = ap (λ hs. length (all_replies l service hs)) is in
      absurd (omega (arith, tells, least, both, long, count))
  same_back h older e newest some count (inr ([], is)) = sym is
  same_back h older e newest some count (inr (x ∷ a, is)) =
      let rest : older ≡ a ++ h = cc in
      let least = told_least a h in
      let long : length (all_replies l service older) ≡ length (all_replies l service (a ++ h)) = ap (λ hs. length (all_replies l service hs)) rest in
      let tells = some_told (entry_replies l service (all_heard service older) (heard service e))
      some in
      let both = length-append (all_replies l service older) (entry_replies l service (all_heard service older) (heard service e)) in
      absurd (omega (arith, least, long, tells, both, count))

  module _ (laws : StreamLaws) (law : MovesLaw) (history : List Entry) (events : List MirrorEvent) (moves : List Move)
      (f : FollowsBytes l service history events moves) where
    at : Stands l service laws history f.replies events moves
    at = stands l service laws history f.replies events moves f.time f.heard

    sees_here : SeesSo l service at.at.h moves
    sees_here = law (ahead_of at.at.next) at.at.h at.at.sent moves
        (legal_front at.at.next at.at.h (subst (λ hs. IsLegal l service (all_heard service hs)) at.at.is f.legal))
        (λ script. subst (λ hs. IsAlone l service None (all_heard service hs)) (at.at.is ∙ whole_is at.at.next at.at.h) (f.alone script)) at.at.follows

    pub going : (m : Mirror) × (mirrored (mode_of service) moves ≡ Going m)
    going = (sees_here.mirror, sees_here.going)

    pub sees : (ahead h : List Entry) (e : Entry) → history ≡ ahead ++ e ∷ h → EndsWith l service h e (stream events) → SeesSo l service (e ∷ h) moves
    sees ahead h e split ends =
        let more = told_both ahead (e ∷ h) in
        let all : AllByRecursion CanBeHeard (all_replies l service (e ∷ h)) =
        (all_front (all_replies l service (e ∷ h)) more.0 (subst (AllByRecursion CanBeHeard) (ap (all_replies l service) split ∙ more.1) f.replies)).0 in
        let read : IsReadAs (stream events) (map reply_chunks (all_replies l service (e ∷ h))) Whole =
        subst (λ bs. IsReadAs bs (map reply_chunks (all_replies l service (e ∷ h))) Whole) (sym (ends.all ∙ replies_are l service (e ∷ h)))
        (read_all laws (all_replies l service (e ∷ h)) all) in
        let count : length (all_replies l service at.at.h) ≡ length (all_replies l service (e ∷ h)) =
        ap length at.at.tells ∙ sym (at.reads (map reply_chunks (all_replies l service (e ∷ h))) Whole read) ∙ length-map (all_replies l service (e ∷ h)) reply_chunks in
        subst (λ hs. SeesSo l service hs moves) (same_back at.at.h h e at.at.newest ends.reply count
        (comparable (ahead_of at.at.next) ahead at.at.h (e ∷ h) (sym (at.at.is ∙ whole_is at.at.next at.at.h) ∙ split))) sees_here
