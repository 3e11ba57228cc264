-- How an input ends.
use Rattle.std.proofs.Common.{◌≡◌, ◌≢◌, ◌<◌, ◌≤◌, List, ℕ, Option, length, refl, subst}
use Rattle.std.specs.Io.KnownBytes.{Consumes, IsAtEnd}
use Rattle.pide_base.specs.declared.status.Status.{Status}
use Rattle.pide_base.specs.declared.status.Status.TheVariants as status
use Rattle.byte_message.proofs.KnownEndings.{one-reading}
use Rattle.byte_message.specs.Feeding.{ending_of}
use Rattle.byte_message.specs.Kept.{Framing}
use Rattle.byte_message.specs.Stream.{Ending, IsReadAs}
use Rattle.byte_message.specs.Stream.Ending.{Bad}
use Rattle.byte_message.specs.declared.frame_fault.FrameFault.{FrameFault}
use Rattle.message_input.specs.declared.answering.Halt.{Halt}
use Rattle.message_input.specs.Answers.{AnswersAll, AnswersSome, KeepsUp}
use Rattle.message_input.specs.Causes.{BadFrameSo, DoneSo, HasCause, TakesSo, Tells, TruncatedSo, fault_place}
use Rattle.message_input.specs.Inputs.{AnswersToEnd, IsAnswered, IsHalted, IsRead}
use Rattle.message_input.specs.Steps.{EndsWith}
use Rattle.message_input.proofs.Decoding.{all_read, ends_fine}

-- the source ended, where the status says so
abbrev pub AtEnd : Status → Option (List ℕ) → Type 0
AtEnd status.Done left = IsAtEnd left
AtEnd (status.Truncated at) left = IsAtEnd left
AtEnd _ left = Unit {0}

module _ (limit : ℕ) (left left' : Option (List ℕ)) (taken : List ℕ) (took : Consumes left left' taken) where
  -- a halt has no cause in the bytes
  pub fault_cause : length taken ≤ limit → HasCause limit status.WriteFault left left'
  fault_cause few = record {
    bad_frame = λ at e. cc;
    truncated = λ at e. cc;
    long_input = (taken, took, few);
    done = λ e. cc;
    no_text = λ at e. cc;
    no_words = λ e. cc;
  }

  pub short_cause : length taken ≤ limit → HasCause limit status.NoMemory left left'
  short_cause few = record {
    bad_frame = λ at e. cc;
    truncated = λ at e. cc;
    long_input = (taken, took, few);
    done = λ e. cc;
    no_text = λ at e. cc;
    no_words = λ e. cc;
  }

  pub reply_cause : (len : ℕ) → length taken ≤ limit → HasCause limit (status.BadReply len) left left'
  reply_cause len few = record {
    bad_frame = λ at e. cc;
    truncated = λ at e. cc;
    long_input = (taken, took, few);
    done = λ e. cc;
    no_text = λ at e. cc;
    no_words = λ e. cc;
  }

module _ {A : Type 0} (Goes : A → List (List (List ℕ)) → A → Type 0) (limit : ℕ) (left left' : Option (List ℕ)) (taken : List ℕ) (took : Consumes left left' taken)
    (old new : A) where
  module _ (ending : Ending) (answers : AnswersAll Goes old taken ending new) where
    bad_so : (at : ℕ) → Tells (status.BadFrame at) ending → BadFrameSo at left left'
    bad_so at t = (taken, took, (t.0, (answers.messages, subst (IsReadAs taken answers.messages) t.1 answers.read), t.2))

    short_so : (at : ℕ) → Tells (status.Truncated at) ending → IsAtEnd left' → TruncatedSo at left left'
    short_so at t e = (taken, took, e, (answers.messages, subst (IsReadAs taken answers.messages) t answers.read))

    done_so : Tells status.Done ending → IsAtEnd left' → DoneSo left left'
    done_so t e = (taken, took, e, (answers.messages, subst (IsReadAs taken answers.messages) t answers.read))

    -- an input that was taken to its end
    pub read_of : (how : Status) → Tells how ending → AtEnd how left' → TakesSo limit how taken → ((at : ℕ) → how ≢ status.BadText at) → how ≢ status.Usage
        → how ≢ status.WriteFault → how ≢ status.NoMemory → ((len : ℕ) → how ≢ status.BadReply len) → IsRead Goes limit how left left' old new
    read_of how tells ended takes no_text no_words writes has_memory replies = record {
      taken = taken;
      consumes = took;
      ending = ending;
      tells = tells;
      answers = answers;
      cause = record {
        bad_frame = λ at e. bad_so at (subst (λ (t : Status). Tells t ending) e tells);
        truncated = λ at e. short_so at (subst (λ (t : Status). Tells t ending) e tells) (subst (λ (t : Status). AtEnd t left') e ended);
        long_input = (taken, took, takes);
        done = λ e. done_so (subst (λ (t : Status). Tells t ending) e tells) (subst (λ (t : Status). AtEnd t left') e ended);
        no_text = no_text;
        no_words = no_words;
      };
      writes = writes;
      has_memory = has_memory;
      replies = replies;
    }

  -- at a line at fault
  pub bad_read : (fault : FrameFault) (at : ℕ) → at ≡ fault_place fault → AnswersAll Goes old taken (Bad fault) new → length taken ≤ limit
      → IsRead Goes limit (status.BadFrame at) left left' old new
  bad_read fault at place answers few = read_of (Bad fault) answers (status.BadFrame at) (fault, refl, place) tt few (λ at e. cc) (λ e. cc) (λ e. cc) (λ e. cc) (λ len e. cc)

  module _ (frames : Framing) (k : KeepsUp Goes old taken new frames) where
    read_all : IsReadAs taken k.messages (ending_of frames)
    read_all = all_read taken k.messages frames k.stands k.none_waits

    all : AnswersAll Goes old taken (ending_of frames) new
    all = record { messages = k.messages; read = read_all; goes = k.goes }

    -- at the source's end
    pub end_read : (how : Status) → EndsWith how (ending_of frames) → IsAtEnd left' → length taken < limit → IsRead Goes limit how left left' old new
    end_read status.Done ends at_end few = read_of (ending_of frames) all status.Done ends at_end few (λ at e. cc) (λ e. cc) (λ e. cc) (λ e. cc) (λ len e. cc)
    end_read (status.Truncated at) ends at_end few = read_of (ending_of frames) all (status.Truncated at) ends at_end few (λ at e. cc) (λ e. cc) (λ e. cc) (λ e. cc) (λ len e. cc)
    end_read (status.BadFrame at) ends at_end few = absurd (ends)
    end_read status.WriteFault ends at_end few = absurd (ends)
    end_read status.Usage ends at_end few = absurd (ends)
    end_read status.ReadFault ends at_end few = absurd (ends)
    end_read status.LongInput ends at_end few = absurd (ends)
    end_read status.NoMemory ends at_end few = absurd (ends)
    end_read (status.BadText at) ends at_end few = absurd (ends)
    end_read (status.BadReply len) ends at_end few = absurd (ends)

    -- at a fault of the source
    pub fault_read : length taken < limit → IsRead Goes limit status.ReadFault left left' old new
    fault_read few = read_of (ending_of frames) all status.ReadFault tt tt few (λ at e. cc) (λ e. cc) (λ e. cc) (λ e. cc) (λ len e. cc)

    -- where too much came
    fine : (fault : FrameFault) → ending_of frames ≡ Bad fault → ⊥
    fine fault bad = ends_fine frames fault k.fine bad

    pub long_read : length taken ≡ limit → IsRead Goes limit status.LongInput left left' old new
    long_read many = read_of (ending_of frames) all status.LongInput fine tt
        (many, λ fault has. fine fault (one-reading taken k.messages has.0 (ending_of frames) (Bad fault) read_all has.1).1) (λ at e. cc) (λ e. cc) (λ e. cc) (λ e. cc) (λ len e. cc)

-- it halted
pub halted_of : {A : Type 0} (Halts : A → List (List (List ℕ)) → Halt → List (List (List ℕ)) → A → Type 0) (limit : ℕ) (halt : Halt) (left left' : Option (List ℕ))
    (taken : List ℕ) (old new : A) → Consumes left left' taken → length taken ≤ limit → AnswersSome Halts old taken halt new
    → IsHalted Halts limit halt left left' old new
halted_of Halts limit halt left left' taken old new took few answers = record { taken = taken; consumes = took; few = few; answers = answers }

-- the end was taken note of
module _ {A : Type 0} (Goes : A → List (List (List ℕ)) → A → Type 0) (Halts : A → List (List (List ℕ)) → Halt → List (List (List ℕ)) → A → Type 0)
    (Ends : A → A → Type 0) (limit : ℕ) (left left' : Option (List ℕ)) (old last new : A) (ends : Ends last new) where
  to_end : (how : Status) (r : IsRead Goes limit how left left' old last) → AnswersToEnd Goes Ends how old r.taken new
  to_end how r = record { ending = r.ending; tells = r.tells; last = last; answers = r.answers; ends = ends }

  pub answered_to_end : (how : Status) → IsRead Goes limit how left left' old last → IsAnswered Goes Halts Ends how left left' old new
  answered_to_end status.Done r = (r.taken, r.consumes, to_end status.Done r)
  answered_to_end status.Usage r = (r.taken, r.consumes, to_end status.Usage r)
  answered_to_end status.ReadFault r = (r.taken, r.consumes, to_end status.ReadFault r)
  answered_to_end status.LongInput r = (r.taken, r.consumes, to_end status.LongInput r)
  answered_to_end (status.BadFrame at) r = (r.taken, r.consumes, to_end (status.BadFrame at) r)
  answered_to_end (status.Truncated at) r = (r.taken, r.consumes, to_end (status.Truncated at) r)
  answered_to_end (status.BadText at) r = (r.taken, r.consumes, to_end (status.BadText at) r)
  answered_to_end status.WriteFault r = absurd (r.writes refl)
  answered_to_end status.NoMemory r = absurd (r.has_memory refl)
  answered_to_end (status.BadReply len) r = absurd (r.replies len refl)
