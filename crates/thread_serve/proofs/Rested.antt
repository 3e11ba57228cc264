-- The reader after its turns.
use Rattle.std.proofs.Common.{◌≡◌, ℕ, List, [], ◌∷◌, ◌++◌, Option, None, Result, Ok, Err, IfErr, IsErrAnd, refl, sym, ap, subst, ◌∙◌}
use Rattle.pide_base.specs.declared.part.Part.{Part}
use Rattle.language.specs.Lang.{Lang}
use Rattle.hist_lock.specs.declared.state.State.{Ghosts}
use Rattle.hist_lock.specs.declared.view.View.{View}
use Rattle.hist_lock.specs.declared.pass.Pass.{Pass}
use Rattle.hist_lock.specs.declared.shared.Shared.{Shared}
use Rattle.hist_lock.specs.Known.{IsSameCaller}
use Rattle.hist_lock.specs.Passes.{view, IsPassOf}
use Rattle.worker_loop.specs.Held.{held_in}
use Rattle.worker_loop.specs.Rounds.{GoesOn}
use Rattle.worker_loop.specs.Stays.{SeesOn}
use Rattle.worker_loop.specs.declared.said.Said.TheVariants as said
use Rattle.worker_loop.proofs.KnownHeld.{held_made}
use Rattle.worker_loop.proofs.KnownRounds.{goes_held}
use Rattle.reply_outbox.specs.declared.item.Item.TheVariants as item
use Rattle.session_rules.specs.declared.entry.Entry.TheVariants as entry
use Rattle.document_session.specs.keeping_rules_below.Items.{SessionItem}
use Rattle.document_session.specs.declared.working.Claim.{Claim}
use Rattle.message_input.specs.declared.answering.Halt.{Halt}
use Rattle.message_input.specs.declared.answering.Halt.TheVariants as halt
use Rattle.view_laws.specs.Says.{says}
use Rattle.thread_serve.specs.Reading.{HasClaimed}
use Rattle.thread_serve.specs.Joins.{answers_then, made_nothing}
use Rattle.thread_serve.specs.Reader.{Answers, IsAtRest, IsReader, SeesWhy}
use Rattle.thread_serve.proofs.Answered.{claim_answers, made_call, rounds_answer, still_open}

module _ {T : Type 0} {g : Ghosts T SessionItem} (lock : Shared T SessionItem) where
  stands_then : (p q : Pass T SessionItem g) (messages : List (List (List ℕ))) → IsReader lock p → IsPassOf lock q → Answers (view p) messages (view q) → IsReader lock q
  stands_then p q messages r own a = record {
    own = own;
    reader = ap (λ (z : View SessionItem). z.caller) a.same ∙ r.reader;
    going = still_open (view p) (view q) messages r.going a;
  }

  module _ (start p q : Pass T SessionItem g) (rests : IsAtRest lock p) (before : Answers (view start) [] (view p)) (own : IsPassOf lock q)
      (same : IsSameCaller (view p) (view q)) where
    -- the message was called
    pub after_call : (message : List (List ℕ)) → (view q).mine ≡ (view p).mine ++ item.Made (entry.Call message) ∷ []
        → IsAtRest lock q × Answers (view start) (message ∷ []) (view q)
    after_call message made =
        let one = made_call (view p) (view q) same message made in (
          record {
            stands = stands_then p q (message ∷ []) rests.stands own one;
            free = held_made says (view p).mine (view q).mine (item.Made (entry.Call message)) said.Other refl made ∙ rests.free;
          },
          answers_then (view start) (view p) (view q) [] (message ∷ []) before one,
        )

    -- nothing was made
    pub after_nothing : (why : Halt) → SeesOn (view p) (view q) → SeesWhy why (view q)
        → IsReader lock q × Answers (view start) [] (view q) × SeesWhy why (view q)
    after_nothing why sees saw =
        let one = made_nothing (view p) (view q) same sees.1 in
        (stands_then p q [] rests.stands own one, answers_then (view start) (view p) (view q) [] [] before one, saw)

  -- the message waits
  module _ {S : Type 0} (l : Lang S) (start p q r : Pass T SessionItem g) (rests : IsAtRest lock p) (before : Answers (view start) [] (view p))
      (own : IsPassOf lock r) (same : IsSameCaller (view p) (view q)) (later : IsSameCaller (view q) (view r)) (c : Claim S) (claimed : HasClaimed l (view p) c (view q)) where
    waited : (after : Option Part) → GoesOn says (view q) (held_in says (view q).mine) (view r) after → Answers (view p) [] (view r)
    waited after went = answers_then (view p) (view q) (view r) [] [] (claim_answers l (view p) (view q) same c claimed)
        (rounds_answer (view q) (view r) (held_in says (view q).mine) after later went)

    pub after_wait : GoesOn says (view q) (held_in says (view q).mine) (view r) None → IsAtRest lock r × Answers (view start) [] (view r)
    after_wait went =
        let one = waited None went in (
          record {
            stands = stands_then p r [] rests.stands own one;
            free = goes_held says (view q) (view r) (held_in says (view q).mine) None refl went;
          },
          answers_then (view start) (view p) (view r) [] [] before one,
        )

    pub after_short : (why : Halt) → why ≡ halt.NoMemory → (after : Option Part) → GoesOn says (view q) (held_in says (view q).mine) (view r) after
        → IsReader lock r × Answers (view start) [] (view r) × SeesWhy why (view r)
    after_short why is after went =
        let one = waited after went in
        (stands_then p r [] rests.stands own one, answers_then (view start) (view p) (view r) [] [] before one, subst (λ (h : Halt). SeesWhy h (view r)) (sym is) tt)

-- what holds for want of memory holds of an error that tells it
pub of_error : {A : Type 0} (r : Result A Halt) (P : Halt → Type 0) → IsErrAnd r (λ why. why ≡ halt.NoMemory) → P halt.NoMemory → IfErr r P
of_error (Ok a) P is p = tt
of_error (Err why) P is p = subst P (sym is) p
