-- Messages that are answered one after the other, until it halts.
use Rattle.std.proofs.Common.{◌≡◌, ◌≤◌, [], ◌++◌, List, ℕ, Option, None, Some, Result, Ok, Err, IfErr, refl, sym, ap, ◌∙◌, subst, append-nil, append_assoc, arith}
use Rattle.std.specs.Result.{IsErrAnd}
use Rattle.pide_base.specs.declared.status.Status.{Status}
use Rattle.pide_base.specs.declared.status.Status.TheVariants as status
use Rattle.byte_message.proofs.KnownEndings.{reads}
use Rattle.byte_message.proofs.KnownLonger.{longer-reading}
use Rattle.byte_message.specs.Feeding.{Continues, ending_of}
use Rattle.byte_message.specs.Kept.{Framing}
use Rattle.byte_message.specs.Stream.{Ending, IsReadAs}
use Rattle.byte_message.specs.Stream.Ending.{Whole, Bad}
use Rattle.byte_message.specs.declared.frame_fault.FrameFault.{FrameFault}
use Rattle.message_input.specs.declared.answering.Halt.{Halt}
use Rattle.message_input.specs.declared.answering.Halt.TheVariants as halt
use Rattle.message_input.specs.Answers.{AnswersAll, AnswersSome, HaltsAmong, KeepsUp}
use Rattle.message_input.proofs.Decoding.{all_out, all_read, ends_bad}
use Rattle.message_input.specs.Counts.{CountsSo}
use Rattle.message_input.specs.Inputs.{AnswersSo, IsAnswered}

module _ {A : Type 0} (Goes : A → List (List (List ℕ)) → A → Type 0)
    (on : (a b c : A) (first then : List (List (List ℕ))) → Goes a first b → Goes b then c → Goes a (first ++ then) c)
    (first a b : A) (taken piece : List ℕ) (old fed : Framing) (k : KeepsUp Goes first taken a old) (feeds : Continues old piece fed)
    (goes : Goes a fed.waiting b) where
  -- what a piece makes whole was answered
  pub piece_on : fed.fault ≡ None → (new : Framing) → new ≡ record fed { waiting = [] } → KeepsUp Goes first (taken ++ piece) b new
  piece_on fine new none = subst (λ (f : Framing). KeepsUp Goes first (taken ++ piece) b f) (sym none) (record {
    messages = k.messages ++ fed.waiting;
    stands = all_out (taken ++ piece) k.messages fed (feeds taken k.messages k.stands);
    none_waits = refl;
    fine = fine;
    goes = on first a b k.messages fed.waiting k.goes goes;
  })

  -- and a line is at fault
  pub piece_bad : (fault : FrameFault) → fed.fault ≡ Some fault → AnswersAll Goes first (taken ++ piece) (Bad fault) b
  piece_bad fault bad = record {
    messages = k.messages ++ fed.waiting;
    read = subst (λ (e : Ending). IsReadAs (taken ++ piece) (k.messages ++ fed.waiting) e) (ends_bad fed fault bad)
        (reads (taken ++ piece) k.messages fed (feeds taken k.messages k.stands));
    goes = on first a b k.messages fed.waiting k.goes goes;
  }

module _ {A : Type 0} (Goes : A → List (List (List ℕ)) → A → Type 0) (Halts : A → List (List (List ℕ)) → Halt → List (List (List ℕ)) → A → Type 0)
    (later : (a b c : A) (first then rest : List (List (List ℕ))) (halt : Halt) → Goes a first b → Halts b then halt rest c → Halts a (first ++ then) halt rest c) where
  module _ (more : (a b : A) (first rest more : List (List (List ℕ))) (halt : Halt) → Halts a first halt rest b → Halts a first halt (rest ++ more) b) where
    -- these were answered, and then a front of those
    pub halts_after : (a b c : A) (xs ys zs all : List (List (List ℕ))) (halt : Halt) → all ≡ xs ++ (ys ++ zs) → Goes a xs b → HaltsAmong Halts b ys halt c
        → HaltsAmong Halts a all halt c
    halts_after a b c xs ys zs all halt whole goes h = record {
      first = xs ++ h.first;
      rest = h.rest ++ zs;
      parts = whole ∙ ap (λ (ms : List (List (List ℕ))). xs ++ (ms ++ zs)) h.parts
          ∙ ap (λ (ms : List (List (List ℕ))). xs ++ ms) (append_assoc h.first h.rest zs) ∙ sym (append_assoc xs h.first (h.rest ++ zs));
      halts = more a c (xs ++ h.first) h.rest zs halt (later a b c xs h.first h.rest halt goes h.halts);
    }

    -- of what a piece makes whole a front was answered
    pub piece_halts : (first a b : A) (taken piece : List ℕ) (old fed : Framing) (halt : Halt) → KeepsUp Goes first taken a old → Continues old piece fed
        → HaltsAmong Halts a fed.waiting halt b → AnswersSome Halts first (taken ++ piece) halt b
    piece_halts first a b taken piece old fed halt k feeds h = record {
      messages = k.messages ++ fed.waiting;
      ending = ending_of fed;
      read = reads (taken ++ piece) k.messages fed (feeds taken k.messages k.stands);
      halted = halts_after first a b k.messages fed.waiting [] (k.messages ++ fed.waiting) halt
          (ap (λ (ms : List (List (List ℕ))). k.messages ++ ms) (sym (append-nil fed.waiting))) k.goes h;
    }

  -- a piece was not read
  pub unread : (first a : A) (taken piece : List ℕ) (old : Framing) (halt : Halt) → KeepsUp Goes first taken a old
      → ((rest : List (List (List ℕ))) → Halts a [] halt rest a) → AnswersSome Halts first (taken ++ piece) halt a
  unread first a taken piece old halt k short =
      let longer = longer-reading taken piece k.messages (ending_of old) (all_read taken k.messages old k.stands k.none_waits) in
      record {
        messages = k.messages ++ longer.0;
        ending = longer.1;
        read = longer.2;
        halted = record {
          first = k.messages ++ [];
          rest = longer.0;
          parts = sym (append_assoc k.messages [] longer.0);
          halts = later first a a k.messages [] longer.0 halt k.goes (short longer.0);
        };
      }

-- nothing was read
pub none_read : IsReadAs [] [] Whole
none_read = record { front = []; rest = []; whole = refl; spelled = refl; ends = refl }

pub nothing_read : {A : Type 0} (Halts : A → List (List (List ℕ)) → Halt → List (List (List ℕ)) → A → Type 0) (a : A) (halt : Halt) → Halts a [] halt [] a
    → AnswersSome Halts a [] halt a
nothing_read Halts a halt h = record {
  messages = [];
  ending = Whole;
  read = none_read;
  halted = record { first = []; rest = []; parts = refl; halts = h };
}

-- what is passed on
pub passed : {T : Type 0} (r : Result T Halt) (halt : Halt) (P : Halt → Type 0) → IsErrAnd r (λ shown. shown ≡ halt) → P halt → IfErr r P
passed (Ok x) halt P is p = tt
passed (Err shown) halt P is p = subst P (sym is) p

-- a count that rose later rose
pub counts_later : (how : Halt) (before mid now : ℕ) → before ≤ mid
    → CountsSo how mid now → CountsSo how before now
counts_later halt.WriteFault before mid now first then = omega arith
counts_later halt.NoMemory before mid now first then = omega arith
counts_later (halt.BadReply len) before mid now first then = absurd (then)

-- where writing failed it halted so
pub write_halted : {A : Type 0} (Goes : A → List (List (List ℕ)) → A → Type 0) (Halts : A → List (List (List ℕ)) → Halt → List (List (List ℕ)) → A → Type 0)
    (Ends : A → A → Type 0) (left left' : Option (List ℕ)) (a b : A) (P : Type 0) → ((first rest : List (List (List ℕ))) → Halts a first halt.WriteFault rest b → P)
    → (how : Status) → IsAnswered Goes Halts Ends how left left' a b → how ≡ status.WriteFault → P
write_halted Goes Halts Ends left left' a b P so how answered is =
    let failed : AnswersSo Goes Halts Ends status.WriteFault a answered.0 b = subst (λ (s : Status). AnswersSo Goes Halts Ends s a answered.0 b) is answered.2 in
    so failed.halted.first failed.halted.rest failed.halted.halts
