-- What came of an input.
use Rattle.std.proofs.Common.{◌≡◌, ◌≢◌, [], ◌++◌, List, ℕ, Option, refl, sym, ap, subst, ◌∙◌, inl}
use Rattle.std.specs.Io.KnownBytes.{Appends, Consumes}
use Rattle.pide_base.specs.Faults.{Rose}
use Rattle.pide_base.specs.Moves.{AppendsFront}
use Rattle.pide_base.specs.declared.status.Status.{Status}
use Rattle.pide_base.specs.declared.status.Status.TheVariants as status
use Rattle.byte_message.specs.Stream.{Ending, IsReadAs}
use Rattle.byte_message.specs.Stream.Ending.{Whole}
use Rattle.language.specs.Lang.{Lang}
use Rattle.message_input.specs.Answers.{AnswersSome}
use Rattle.message_input.specs.Inputs.{AnswersSo, IsAnswered}
use Rattle.message_input.specs.declared.answering.Halt.{Halt}
use Rattle.message_input.specs.declared.answering.Halt.TheVariants as halt
use Rattle.pide_build.specs.Answers.{GoesOn, Stops}
use Rattle.pide_build.specs.Joins.{refusals_both}
use Rattle.pide_build.specs.Replies.{refusals}
use Rattle.pide_build.specs.Runs.{IsBuild}
use Rattle.pide_build.specs.Theories.{TheoryList, theories_after}
use Rattle.pide_base.proofs.Known.{front_more}

-- all messages of an input that ends between them were answered: these are the theories
pub record CameWhole (left left' held held' : Option (List ℕ)) (theories : TheoryList) : Type 0 where
  pub taken : List ℕ
  pub consumes : Consumes left left' taken
  pub messages : List (List (List ℕ))
  pub read : IsReadAs taken messages Whole
  pub writes : Appends held held' (refusals messages [])
  pub theories_are : theories ≡ theories_after messages []

-- whatever answers by theories and a sink
module _ {S A : Type 0} (l : Lang S) (theories_of : A → TheoryList) (held_of : A → Option (List ℕ)) (faults_of : A → ℕ) where
  abbrev pub Goes : A → List (List (List ℕ)) → A → Type 0
  Goes x messages y = GoesOn (held_of x) (held_of y) (faults_of x) (faults_of y) (theories_of x) (theories_of y) messages

  abbrev pub Halts : A → List (List (List ℕ)) → Halt → List (List (List ℕ)) → A → Type 0
  Halts x first h rest y = Stops (held_of x) (held_of y) (faults_of x) (faults_of y) (theories_of x) first h

  abbrev pub Ends : A → A → Type 0
  Ends x y = y ≡ x

  module _ (a b : A) (new : theories_of a ≡ []) (left left' : Option (List ℕ)) where
    wrote : (last : A) (messages : List (List (List ℕ))) → Goes a messages last → b ≡ last → Appends (held_of a) (held_of b) (refusals messages [])
    wrote last messages goes is =
        subst (λ x. Appends (held_of a) (held_of x) (refusals messages [])) (sym is)
        (subst (λ ts. Appends (held_of a) (held_of last) (refusals messages ts)) new goes.writes)

    -- a front of the refusals is written where it halted
    halted : (taken : List ℕ) (h : Halt) → AnswersSome Halts a taken h b → (messages : List (List (List ℕ))) × (ending : Ending)
        × IsReadAs taken messages ending × AppendsFront (held_of a) (held_of b) (refusals messages [])
    halted taken h some =
        let first = some.halted.first in let rest = some.halted.rest in
        let written = subst (λ ts. AppendsFront (held_of a) (held_of b) (refusals first ts)) new some.halted.halts.writes in
        let more = front_more (held_of a) (held_of b) (refusals first []) (refusals rest (theories_after first [])) written in
        let all : refusals first [] ++ refusals rest (theories_after first []) ≡ refusals some.messages [] =
        sym (refusals_both first rest []) ∙ ap (λ ms. refusals ms []) (sym some.halted.parts) in
        (some.messages, some.ending, some.read, subst (AppendsFront (held_of a) (held_of b)) all more)

    -- what is written where the input did not end between messages
    pub unbuilt : (how : Status) → how ≢ status.Done → IsAnswered Goes Halts Ends how left left' a b
        → IsBuild l how left left' (held_of a) (held_of b)
    unbuilt status.Done other (taken, consumes, r) = absurd (other refl)
    unbuilt status.WriteFault other (taken, consumes, r) =
        let some = halted taken halt.WriteFault r in
        record { taken = taken; consumes = consumes; messages = some.0; ending = some.1; read = some.2; writes = inl some.3 }
    unbuilt status.NoMemory other (taken, consumes, r) =
        let some = halted taken halt.NoMemory r in
        record { taken = taken; consumes = consumes; messages = some.0; ending = some.1; read = some.2; writes = inl some.3 }
    unbuilt status.Usage other (taken, consumes, r) =
        record {
          taken = taken;
          consumes = consumes;
          messages = r.answers.messages;
          ending = r.ending;
          read = r.answers.read;
          writes = wrote r.last r.answers.messages r.answers.goes r.ends;
        }
    unbuilt status.ReadFault other (taken, consumes, r) =
        record {
          taken = taken;
          consumes = consumes;
          messages = r.answers.messages;
          ending = r.ending;
          read = r.answers.read;
          writes = wrote r.last r.answers.messages r.answers.goes r.ends;
        }
    unbuilt status.LongInput other (taken, consumes, r) =
        record {
          taken = taken;
          consumes = consumes;
          messages = r.answers.messages;
          ending = r.ending;
          read = r.answers.read;
          writes = wrote r.last r.answers.messages r.answers.goes r.ends;
        }
    unbuilt (status.BadFrame at) other (taken, consumes, r) =
        record {
          taken = taken;
          consumes = consumes;
          messages = r.answers.messages;
          ending = r.ending;
          read = r.answers.read;
          writes = wrote r.last r.answers.messages r.answers.goes r.ends;
        }
    unbuilt (status.Truncated at) other (taken, consumes, r) =
        record {
          taken = taken;
          consumes = consumes;
          messages = r.answers.messages;
          ending = r.ending;
          read = r.answers.read;
          writes = wrote r.last r.answers.messages r.answers.goes r.ends;
        }
    unbuilt (status.BadText at) other (taken, consumes, r) =
        record {
          taken = taken;
          consumes = consumes;
          messages = r.answers.messages;
          ending = r.ending;
          read = r.answers.read;
          writes = wrote r.last r.answers.messages r.answers.goes r.ends;
        }
    unbuilt (status.BadReply len) other (taken, consumes, r) = absurd (r.halted.halts.counts)

    -- it never halts for a long reply
    pub never_long : (how : Status) (len : ℕ) → how ≡ status.BadReply len → IsAnswered Goes Halts Ends how left left' a b → ⊥
    never_long how len is answered =
        let long : AnswersSo Goes Halts Ends (status.BadReply len) a answered.0 b =
        subst (λ (s : Status). AnswersSo Goes Halts Ends s a answered.0 b) is answered.2 in
        long.halted.halts.counts

    -- where writing failed a count rose
    pub fault_rose : (how : Status) → how ≡ status.WriteFault → IsAnswered Goes Halts Ends how left left' a b → Rose (faults_of a) (faults_of b)
    fault_rose how is answered =
        let failed : AnswersSo Goes Halts Ends status.WriteFault a answered.0 b =
        subst (λ (s : Status). AnswersSo Goes Halts Ends s a answered.0 b) is answered.2 in
        failed.halted.halts.counts

    -- where the input ends between messages, all theories are there
    pub came_whole : IsAnswered Goes Halts Ends status.Done left left' a b
        → CameWhole left left' (held_of a) (held_of b) (theories_of b)
    came_whole (taken, consumes, r) = record {
      taken = taken;
      consumes = consumes;
      messages = r.answers.messages;
      read = subst (IsReadAs taken r.answers.messages) r.tells r.answers.read;
      writes = wrote r.last r.answers.messages r.answers.goes r.ends;
      theories_are = ap theories_of r.ends ∙ r.answers.goes.theories ∙ ap (theories_after r.answers.messages) new;
    }
