-- What holds of how an input ended holds of the run's status.
use Rattle.std.proofs.Common.{◌≡◌, ◌≢◌, ℕ, ◌≤◌, Bool, true, false, List, [], length, Option, refl, sym, subst, arith, append-nil}
use Rattle.pide_base.specs.declared.status.Status.{Status}
use Rattle.pide_base.specs.declared.status.Status.TheVariants as status
use Rattle.byte_message.specs.Stream.{Ending, IsReadAs}
use Rattle.document_session.specs.Contents.{SessionState}
use Rattle.message_input.specs.Causes.{HasCause, TakesSo}
use Rattle.document_serve.specs.Served.{calls_in}
use Rattle.document_serve.specs.Headline.{CallsSo, IsFront, MessagesRead}
use Rattle.thread_serve.specs.Promises.{status_of}

-- where the sink isn't lost
pub kept_status : (Q : Status → Type 0) (is_short : Bool) (how : Status) → Q how → (how ≡ status.Done → Q status.NoMemory) → Q (status_of false is_short how)
kept_status Q false how q short = q
kept_status Q true status.Done q short = short refl
kept_status Q true status.Usage q short = q
kept_status Q true status.ReadFault q short = q
kept_status Q true status.WriteFault q short = q
kept_status Q true (status.BadFrame at) q short = q
kept_status Q true (status.Truncated at) q short = q
kept_status Q true status.LongInput q short = q
kept_status Q true (status.BadText at) q short = q
kept_status Q true status.NoMemory q short = q
kept_status Q true (status.BadReply len) q short = q

-- a run that is done was never short
pub done_only : (is_lost is_short : Bool) (how : Status) → status_of is_lost is_short how ≡ status.Done → (is_lost ≡ false) × (is_short ≡ false) × (how ≡ status.Done)
done_only true is_short how e = absurd (let no : ⊥ = cc in no)
done_only false false how e = (refl, refl, e)
done_only false true status.Done e = absurd (let no : ⊥ = cc in no)
done_only false true status.Usage e = absurd (let no : ⊥ = cc in no)
done_only false true status.ReadFault e = absurd (let no : ⊥ = cc in no)
done_only false true status.WriteFault e = absurd (let no : ⊥ = cc in no)
done_only false true (status.BadFrame at) e = absurd (let no : ⊥ = cc in no)
done_only false true (status.Truncated at) e = absurd (let no : ⊥ = cc in no)
done_only false true status.LongInput e = absurd (let no : ⊥ = cc in no)
done_only false true (status.BadText at) e = absurd (let no : ⊥ = cc in no)
done_only false true status.NoMemory e = absurd (let no : ⊥ = cc in no)
done_only false true (status.BadReply len) e = absurd (let no : ⊥ = cc in no)

-- a read fault is the input's
pub read_fault_only : (is_lost is_short : Bool) (how : Status) → status_of is_lost is_short how ≡ status.ReadFault → how ≡ status.ReadFault
read_fault_only true is_short how e = absurd (let no : ⊥ = cc in no)
read_fault_only false is_short how e = kept_status (λ s. s ≡ status.ReadFault → how ≡ status.ReadFault) is_short how (λ is. is)
    (λ done is. absurd (let no : ⊥ = cc in no)) e

-- no reply is too long where none was for the reader
pub never_long : (is_lost is_short : Bool) (how : Status) → ((len : ℕ) → how ≢ status.BadReply len) → (len : ℕ) → status_of is_lost is_short how ≢ status.BadReply len
never_long true is_short how none len e = absurd (let no : ⊥ = cc in no)
never_long false is_short how none len e = kept_status (λ s. s ≢ status.BadReply len) is_short how (none len) (λ done no. absurd (let never : ⊥ = cc in never)) e

-- all messages of the bytes are a front of them
front_of : (taken : List ℕ) (messages : List (List (List ℕ))) (ending : Ending) → IsReadAs taken messages ending → IsFront taken messages (λ rest. Unit {0})
front_of taken messages ending read = record {
  rest = [];
  ending = ending;
  read = subst (λ (ms : List (List (List ℕ))). IsReadAs taken ms ending) (sym (append-nil messages)) read;
  holds = tt;
}

calls_front : (how : Status) (taken : List ℕ) (s : SessionState) → CallsSo how taken s → IsFront taken (calls_in s.items) (λ rest. Unit {0})
calls_front status.WriteFault taken s so = so
calls_front status.NoMemory taken s so = so
calls_front (status.BadReply len) taken s so = so
calls_front status.Done taken s so = front_of taken (calls_in s.items) so.0 so.1
calls_front status.Usage taken s so = front_of taken (calls_in s.items) so.0 so.1
calls_front status.ReadFault taken s so = front_of taken (calls_in s.items) so.0 so.1
calls_front (status.BadFrame at) taken s so = front_of taken (calls_in s.items) so.0 so.1
calls_front (status.Truncated at) taken s so = front_of taken (calls_in s.items) so.0 so.1
calls_front status.LongInput taken s so = front_of taken (calls_in s.items) so.0 so.1
calls_front (status.BadText at) taken s so = front_of taken (calls_in s.items) so.0 so.1

pub read_so : (is_lost is_short : Bool) (how : Status) (left left' : Option (List ℕ)) (s : SessionState) → MessagesRead how left left' s
    → MessagesRead (status_of is_lost is_short how) left left' s
read_so true is_short how left left' s m = (m.0, m.1, calls_front how m.0 s m.2)
read_so false is_short how left left' s m = kept_status (λ h. MessagesRead h left left' s) is_short how m (λ done. (m.0, m.1, calls_front how m.0 s m.2))

-- no more is taken than the limit
at_most : (limit : ℕ) (how : Status) (taken : List ℕ) → TakesSo limit how taken → length taken ≤ limit
at_most limit status.LongInput taken so = omega (arith, so.0)
at_most limit (status.BadFrame at) taken so = so
at_most limit status.WriteFault taken so = so
at_most limit status.NoMemory taken so = so
at_most limit (status.BadReply len) taken so = so
at_most limit status.Done taken so = omega (arith, so)
at_most limit status.Usage taken so = omega (arith, so)
at_most limit status.ReadFault taken so = omega (arith, so)
at_most limit (status.Truncated at) taken so = omega (arith, so)
at_most limit (status.BadText at) taken so = omega (arith, so)

module _ (limit : ℕ) (how : Status) (left left' : Option (List ℕ)) (c : HasCause limit how left left') where
  fault_cause : HasCause limit status.WriteFault left left'
  fault_cause = record {
    bad_frame = λ at e. absurd (let no : ⊥ = cc in no);
    truncated = λ at e. absurd (let no : ⊥ = cc in no);
    long_input = (c.long_input.0, c.long_input.1, at_most limit how c.long_input.0 c.long_input.2);
    done = λ e. absurd (let no : ⊥ = cc in no);
    no_text = λ at e. absurd (let no : ⊥ = cc in no);
    no_words = λ e. absurd (let no : ⊥ = cc in no);
  }

  short_cause : HasCause limit status.NoMemory left left'
  short_cause = record {
    bad_frame = λ at e. absurd (let no : ⊥ = cc in no);
    truncated = λ at e. absurd (let no : ⊥ = cc in no);
    long_input = (c.long_input.0, c.long_input.1, at_most limit how c.long_input.0 c.long_input.2);
    done = λ e. absurd (let no : ⊥ = cc in no);
    no_text = λ at e. absurd (let no : ⊥ = cc in no);
    no_words = λ e. absurd (let no : ⊥ = cc in no);
  }

  pub causes_so : (is_lost is_short : Bool) → HasCause limit (status_of is_lost is_short how) left left'
  causes_so true is_short = fault_cause
  causes_so false is_short = kept_status (λ h. HasCause limit h left left') is_short how c (λ done. short_cause)
