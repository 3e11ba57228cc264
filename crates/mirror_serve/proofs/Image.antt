-- What a mirror knows, entry by entry.
use Rattle.std.proofs.Common.{◌≡◌, ℕ, Bool, true, false, List, [], ◌∷◌, ◌++◌, Option, Some, None, refl, sym, ap, subst, ◌∙◌, append_assoc}
use Rattle.std.specs.Prelude.{if◌then◌else◌}
use Rattle.std.proofs.lemmas.List.{append_cancel_left}
use Rattle.language.specs.Lang.{Lang}
use Rattle.message_values.specs.Asked.{asked}
use Rattle.message_values.specs.declared.mode.Mode.{Mode}
use Rattle.reply_messages.specs.declared.told.Told.{Told}
use Rattle.session_rules.specs.declared.entry.Entry.{Entry}
use Rattle.session_rules.specs.declared.entry.Entry.TheVariants as entry
use Rattle.session_rules.specs.declared.service.Service.{Service}
use Rattle.session_rules.specs.Heard.{all_heard, heard}
use Rattle.session_rules.specs.Replies.{entry_replies}
use Rattle.session_rules.specs.Services.{mode_of}
use Rattle.mirror_rules.specs.Answers.{Read}
use Rattle.mirror_rules.specs.Images.{Mirror}
use Rattle.mirror_rules.specs.Moves.{Move, Sent, Heard, Going, mirrored, next_reflection, reflection_by}
use Rattle.mirror_rules.specs.Replies.{after_answer, after_first_answer, after_reply, mirror_after}
use Rattle.mirror_rules.specs.Unexpected.{is_unexpected}
use Rattle.editor_laws.specs.Follows.{AreFirst, AreHeard, Follows, call_of, calls}
use Rattle.editor_laws.proofs.KnownWalking.{calls_both, first_of, follows_ahead, follows_entry, follows_send}
use Rattle.pide_mirror.specs.Hearing.{Hearing}
use Rattle.mirror_serve.specs.Resting.{IsBetween, IsImageOf}

module _ {S : Type 0} (l : Lang S) (service : Service) where
  abbrev mode : Mode
  mode = mode_of service

  -- a message is sent ahead
  pub follows_call : (message : List (List ℕ)) (h : List Entry) (did : List Move) → Follows l service [] h [] did
      → Follows l service (entry.Call message ∷ []) h (asked mode message ∷ []) (Sent (asked mode message) ∷ did)
  follows_call message h did f = follows_send l service (entry.Call message ∷ []) h [] did (asked mode message)
      (follows_ahead l service (entry.Call message) [] h [] did f) ([], refl)

  pub image_sent : (message : List (List ℕ)) (h : List Entry) (old new : Hearing) → IsImageOf l service [] h [] old
      → new.moves ≡ Sent (asked mode message) ∷ old.moves → IsBetween mode new
      → IsImageOf l service (entry.Call message ∷ []) h (asked mode message ∷ []) new
  image_sent message h old new i moves between = record {
    between = between;
    did = Sent (asked mode message) ∷ i.did;
    follows = follows_call message h i.did i.follows;
    same = ap (mirrored mode) moves ∙ ap (λ r. next_reflection mode r (Sent (asked mode message))) i.same;
  }

  -- what is sent ahead of an entry is its call, and then what is sent ahead of the next
  pub first_behind : (e : Entry) (ahead : List Entry) (sent : List Read) → AreFirst (call_of service e ++ sent) (calls service (ahead ++ e ∷ []))
      → AreFirst sent (calls service ahead)
  first_behind e ahead sent f = (
    f.0,
    append_cancel_left (call_of service e) (calls service ahead) (sent ++ f.0)
        (sym (calls_both service ahead (e ∷ [])) ∙ f.1 ∙ append_assoc (call_of service e) sent f.0),
  )

  module _ (e : Entry) (ahead h : List Entry) (sent : List Read) (old : Hearing) (i : IsImageOf l service (ahead ++ e ∷ []) h (call_of service e ++ sent) old) where
    first : AreFirst sent (calls service ahead)
    first = first_behind e ahead sent (first_of l service (ahead ++ e ∷ []) h (call_of service e ++ sent) i.did i.follows)

    -- an entry has no reply
    pub image_silent : entry_replies l service (all_heard service h) (heard service e) ≡ [] → IsImageOf l service ahead (e ∷ h) sent old
    image_silent none = record {
      between = i.between;
      did = i.did;
      follows = follows_entry l service ahead h e sent i.did i.did i.follows (subst (λ us. AreHeard us i.did i.did) (sym none) refl) first;
      same = i.same;
    }

    -- or one that is heard
    pub image_heard : (told : Told) (at : ℕ) (new : Hearing) → entry_replies l service (all_heard service h) (heard service e) ≡ told ∷ []
        → new.moves ≡ Heard at (Some told) ∷ old.moves → IsBetween mode new → IsImageOf l service ahead (e ∷ h) sent new
    image_heard told at new one moves between = record {
      between = between;
      did = Heard at (Some told) ∷ i.did;
      follows = follows_entry l service ahead h e sent i.did (Heard at (Some told) ∷ i.did) i.follows
          (subst (λ us. AreHeard us i.did (Heard at (Some told) ∷ i.did)) (sym one) (at, refl)) first;
      same = ap (mirrored mode) moves ∙ ap (λ r. next_reflection mode r (Heard at (Some told))) i.same;
    }

-- a reply that was expected left something
by_place : (at : ℕ) (o : Option Mirror) (n : Mirror) → reflection_by at o ≡ Going n → o ≡ Some n
by_place at (Some m) n is = cc
by_place at None n is = let no : ⊥ = cc in absurd no

by_test : (b : Bool) (m n : Mirror) → (if b then None else Some m) ≡ Some n → m ≡ n
by_test true m n is = let no : ⊥ = cc in absurd no
by_test false m n is = cc

module _ {S : Type 0} (l : Lang S) (service : Service) (message : List (List ℕ)) (h : List Entry) (told : Told) (now : Hearing) (i : IsImageOf l service [] h [] now)
    (m n : Mirror) where
  abbrev did : List Move
  did = Heard 0 (Some told) ∷ Sent (asked (mode_of service) message) ∷ i.did

  pub follows_look : entry_replies l service (all_heard service h) (heard service (entry.Call message)) ≡ told ∷ []
      → Follows l service [] (entry.Call message ∷ h) [] did
  follows_look one = follows_entry l service [] h (entry.Call message) [] (Sent (asked (mode_of service) message) ∷ i.did) did
      (follows_call l service message h i.did i.follows)
      (subst (λ us. AreHeard us (Sent (asked (mode_of service) message) ∷ i.did) did) (sym one) (0, refl)) ([], refl)

  -- a reply that changes nothing, heard alone behind its message, is as none was
  module _ (one : entry_replies l service (all_heard service h) (heard service (entry.Call message)) ≡ told ∷ [])
      (before : mirrored (mode_of service) i.did ≡ Going m) (after : mirrored (mode_of service) did ≡ Going n) (none : m.unanswered ≡ [])
      (answers : (k : Mirror) → after_reply (mode_of service) k told ≡ after_first_answer k k.unanswered told)
      (keeps : (k : Mirror) → after_answer k (asked (mode_of service) message) told ≡ k) where
    abbrev read : Read
    read = asked (mode_of service) message

    abbrev waits : Mirror
    waits = record m { unanswered = m.unanswered ++ read ∷ [] }

    steps : mirrored (mode_of service) did ≡ reflection_by 0 (mirror_after (mode_of service) waits (Some told))
    steps = ap (λ r. next_reflection (mode_of service) (next_reflection (mode_of service) r (Sent read)) (Heard 0 (Some told))) before

    left : after_reply (mode_of service) waits told ≡ n
    left = by_test (is_unexpected waits (Some told)) (after_reply (mode_of service) waits told) n
        (by_place 0 (mirror_after (mode_of service) waits (Some told)) n (sym steps ∙ after))

    kept : after_reply (mode_of service) waits told ≡ m
    kept = answers waits ∙ ap (λ rs. after_first_answer waits rs told) (ap (λ rs. rs ++ read ∷ []) none)
        ∙ keeps (record waits { unanswered = [] }) ∙ ap (λ rs. record m { unanswered = rs }) (sym none)

    pub image_look : IsImageOf l service [] (entry.Call message ∷ h) [] now
    image_look = record {
      between = i.between;
      did = did;
      follows = follows_look one;
      same = i.same ∙ before ∙ ap Going (sym kept ∙ left) ∙ sym after;
    }
