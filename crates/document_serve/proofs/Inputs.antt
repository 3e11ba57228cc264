-- What comes of an input that a session and a sink answer.
use Rattle.std.proofs.Common.{◌≡◌, ◌≢◌, ◌≤◌, [], ◌∷◌, List, ℕ, Option, Result, Ok, Err, OnOk, IfErr, sym, subst}
use Rattle.pide_base.specs.declared.status.Status.{Status}
use Rattle.pide_base.specs.declared.status.Status.TheVariants as status
use Rattle.language.specs.Lang.{Lang}
use Rattle.reply_outbox.specs.declared.item.Item.TheVariants.{Opened}
use Rattle.session_rules.specs.Steps.{Nothing, due}
use Rattle.document_session.specs.keeping_rules_below.Items.{heard_in}
use Rattle.document_session.specs.Contents.{SessionState}
use Rattle.message_input.specs.Answers.{HaltsAmong}
use Rattle.message_input.specs.Causes.{HasCause}
use Rattle.message_input.specs.Inputs.{AnswersSo, AnswersToEnd, IsAnswered}
use Rattle.message_input.specs.declared.answering.Halt.{Halt}
use Rattle.message_input.specs.Counts.{CountsSo}
use Rattle.document_serve.specs.Laws.{ListLaws}
use Rattle.document_serve.specs.Headline.{IsRun}
use Rattle.document_serve.specs.Runs.{GoesOn, IsEnded, StopsSo}
use Rattle.document_serve.proofs.KnownEnds.{Ends}
use Rattle.document_serve.proofs.KnownCame.{Came, came_fails, came_short, came_whole}
use Rattle.document_serve.proofs.Stops.{StopsAmong}

-- whatever answers by a session and a sink
module _ {S A : Type 0} (l : Lang S) (session_of : A → SessionState) (held_of : A → Option (List ℕ)) (faults_of : A → ℕ) where
  abbrev pub Goes : A → List (List (List ℕ)) → A → Type 0
  Goes x messages y = GoesOn l (held_of x) (held_of y) (session_of x) (session_of y) messages × (faults_of x ≤ faults_of y)

  abbrev pub Halts : A → List (List (List ℕ)) → Halt → List (List (List ℕ)) → A → Type 0
  Halts x first h rest y = StopsSo l h (held_of x) (held_of y) (session_of x) (session_of y) first rest × CountsSo h (faults_of x) (faults_of y)

  -- what came of messages
  module _ (a b : A) (messages : List (List (List ℕ))) where
    pub one_goes : (r : Result (Unit {0}) Halt) → OnOk r (GoesOn l (held_of a) (held_of b) (session_of a) (session_of b) messages) → faults_of a ≤ faults_of b
        → OnOk r (Goes a messages b)
    one_goes (Ok done) goes steady = (goes, steady)
    one_goes (Err h) goes steady = tt

    pub one_halts : (r : Result (Unit {0}) Halt) → IfErr r (λ h. StopsAmong l (held_of a) (held_of b) (session_of a) messages h (session_of b))
        → IfErr r (λ h. CountsSo h (faults_of a) (faults_of b)) → IfErr r (λ h. HaltsAmong Halts a messages h b)
    one_halts (Ok done) stops counts = tt
    one_halts (Err h) stops counts = record { first = stops.first; rest = stops.rest; parts = stops.parts; halts = (stops.halts, counts) }

  -- what came of an input
  module _ (laws : ListLaws l) (a b : A) (new : (session_of a).items ≡ Opened (session_of a).service ∷ [])
      (rests : due l (session_of b).service (heard_in (session_of b).service (session_of b).items) ≡ Nothing) where
    to_end : (taken : List ℕ) (how : Status) → how ≢ status.WriteFault → how ≢ status.NoMemory → ((len : ℕ) → how ≢ status.BadReply len)
        → AnswersToEnd Goes (Ends l session_of held_of faults_of) how a taken b → Came l how taken (held_of a) (held_of b) (session_of a) (session_of b)
    to_end taken how w m f r = subst (λ (held : Option (List ℕ)). Came l how taken (held_of a) held (session_of a) (session_of b)) (sym r.ends.1)
        (came_whole l laws (session_of a) (session_of r.last) (session_of b) new (held_of a) (held_of r.last) taken r.answers.messages r.ending r.answers.read
        r.answers.goes.0 r.ends.0 rests how r.tells w m f)

    came : (taken : List ℕ) (how : Status) → AnswersSo Goes Halts (Ends l session_of held_of faults_of) how a taken b → Came l how taken (held_of a) (held_of b) (session_of a) (session_of b)
    came taken status.WriteFault r = came_fails l laws (session_of a) (session_of b) new (held_of a) (held_of b) taken rests r.messages r.halted.first r.halted.rest r.ending
        r.read r.halted.parts r.halted.halts.0
    came taken status.NoMemory r = came_short l laws (session_of a) (session_of b) new (held_of a) (held_of b) taken rests r.messages r.halted.first r.halted.rest r.ending
        r.read r.halted.parts r.halted.halts.0
    came taken status.Done r = to_end taken status.Done (λ e. cc) (λ e. cc) (λ len e. cc) r
    came taken status.Usage r = to_end taken status.Usage (λ e. cc) (λ e. cc) (λ len e. cc) r
    came taken status.ReadFault r = to_end taken status.ReadFault (λ e. cc) (λ e. cc) (λ len e. cc) r
    came taken status.LongInput r = to_end taken status.LongInput (λ e. cc) (λ e. cc) (λ len e. cc) r
    came taken (status.BadFrame at) r = to_end taken (status.BadFrame at) (λ e. cc) (λ e. cc) (λ len e. cc) r
    came taken (status.Truncated at) r = to_end taken (status.Truncated at) (λ e. cc) (λ e. cc) (λ len e. cc) r
    came taken (status.BadText at) r = to_end taken (status.BadText at) (λ e. cc) (λ e. cc) (λ len e. cc) r
    came taken (status.BadReply len) r = absurd (r.halted.halts.1)

    module _ (how : Status) (left left' : Option (List ℕ)) (answered : IsAnswered Goes Halts (Ends l session_of held_of faults_of) how left left' a b) where
      abbrev taken : List ℕ
      taken = answered.0

      come : Came l how taken (held_of a) (held_of b) (session_of a) (session_of b)
      come = came taken how answered.2

      pub same_service : (session_of b).service ≡ (session_of a).service
      same_service = come.service

      pub run_of : (limit : ℕ) → HasCause limit how left left' → IsRun l limit how left left' (held_of a) (held_of b) (session_of b)
      run_of limit cause = record {
        written = come.written;
        sent = come.sent;
        kept = come.kept;
        legal = come.legal;
        read = (taken, answered.1, come.read);
        alone = (taken, answered.1, come.alone);
        cause = cause;
      }

      -- it never halts for a long reply
      pub never_long : (len : ℕ) → how ≡ status.BadReply len → ⊥
      never_long len is =
          let long : AnswersSo Goes Halts (Ends l session_of held_of faults_of) (status.BadReply len) a taken b = subst (λ (s : Status). AnswersSo Goes Halts (Ends l session_of held_of faults_of) s a taken b) is answered.2 in
          long.halted.halts.1
