-- What comes of an input that a session, a mirror and a sink answer.
use Rattle.std.proofs.Common.{◌≡◌, ◌≢◌, ◌≤◌, [], ◌∷◌, List, ℕ, Option, Result, Ok, Err, OnOk, IfErr, sym, ap, subst, ◌∙◌, append-nil}
use Rattle.pide_base.specs.declared.status.Status.{Status}
use Rattle.pide_base.specs.declared.status.Status.TheVariants as status
use Rattle.std.specs.List.{flat_map}
use Rattle.language.specs.Lang.{Lang}
use Rattle.reply_outbox.specs.Items.{entries}
use Rattle.reply_outbox.specs.declared.item.Item.TheVariants.{Opened}
use Rattle.session_rules.specs.declared.entry.Entry.{Entry}
use Rattle.session_rules.specs.declared.entry.Entry.TheVariants as entry
use Rattle.session_rules.specs.declared.service.Service.{Service}
use Rattle.editor_laws.specs.Streams.{all_replies}
use Rattle.session_rules.specs.Steps.{Nothing, due}
use Rattle.document_session.specs.keeping_rules_below.Items.{SessionItem, heard_in}
use Rattle.document_session.specs.Contents.{SessionState}
use Rattle.message_input.specs.Answers.{HaltsAmong}
use Rattle.message_input.specs.Causes.{HasCause}
use Rattle.message_input.specs.Inputs.{AnswersSo, AnswersToEnd, IsAnswered}
use Rattle.message_input.specs.declared.answering.Halt.{Halt}
use Rattle.document_serve.specs.Headline.{IsRun}
use Rattle.document_serve.specs.Laws.{ListLaws}
use Rattle.document_serve.specs.Runs.{GoesOn, IsEnded}
use Rattle.document_serve.proofs.KnownEnds.{Ends}
use Rattle.document_serve.proofs.KnownCame.{Came, came_fails, came_short, came_whole}
use Rattle.document_serve.proofs.KnownCameLong.{came_long}
use Rattle.mirror_serve.specs.Halts.{HaltsSo}
use Rattle.mirror_serve.specs.LongReplies.{HasShortReplies, LongSoFar, too_long, too_long_in}
use Rattle.mirror_serve.proofs.Halting.{HaltsIn}

-- whatever answers by a session and a sink, and keeps this where it goes on
module _ {S A : Type 0} (l : Lang S) (session_of : A → SessionState) (held_of : A → Option (List ℕ)) (faults_of : A → ℕ) (Keeps : A → Type 0) where
  abbrev pub Goes : A → List (List (List ℕ)) → A → Type 0
  Goes x messages y = GoesOn l (held_of x) (held_of y) (session_of x) (session_of y) messages × (faults_of x ≤ faults_of y) × Keeps y

  abbrev pub Halts : A → List (List (List ℕ)) → Halt → List (List (List ℕ)) → A → Type 0
  Halts x first h rest y = HaltsSo l h (held_of x) (held_of y) (faults_of x) (faults_of y) (session_of x) (session_of y) first rest

  -- what came of messages
  module _ (a b : A) (messages : List (List (List ℕ))) where
    pub one_goes : (r : Result (Unit {0}) Halt) → OnOk r (GoesOn l (held_of a) (held_of b) (session_of a) (session_of b) messages) → OnOk r (Keeps b)
        → faults_of a ≤ faults_of b → OnOk r (Goes a messages b)
    one_goes (Ok done) goes keeps steady = (goes, steady, keeps)
    one_goes (Err h) goes keeps steady = tt

    pub one_halts : (r : Result (Unit {0}) Halt)
        → IfErr r (λ h. HaltsIn l (held_of a) (held_of b) (faults_of a) (faults_of b) (session_of a) messages h (session_of b))
        → IfErr r (λ h. HaltsAmong Halts a messages h b)
    one_halts (Ok done) halts = tt
    one_halts (Err h) halts = record { first = halts.first; rest = halts.rest; parts = halts.parts; halts = halts.halts }

  -- what came of an input
  module _ (laws : ListLaws l) (a b : A) (new : (session_of a).items ≡ Opened (session_of a).service ∷ [])
      (rests : due l (session_of b).service (heard_in (session_of b).service (session_of b).items) ≡ Nothing)
      (short : (x : A) → Keeps x → HasShortReplies l (session_of x)) where
    abbrev CameTo : Status → List ℕ → Type 0
    CameTo how taken = Came l how taken (held_of a) (held_of b) (session_of a) (session_of b) × LongSoFar l how (session_of b)

    -- an end has no reply
    still_short : (x : A) → Keeps x → IsEnded l (session_of x) (session_of b) → HasShortReplies l (session_of b)
    still_short x keeps e =
        ap (λ (v : Service). too_long_in l v (entries (session_of b).items)) e.service
        ∙ ap (λ (is : List SessionItem). too_long_in l (session_of x).service (entries is)) e.items
        ∙ ended_short (entries (session_of x).items) (short x keeps)
      where
        ended_short : (h : List Entry) → too_long_in l (session_of x).service h ≡ [] → too_long_in l (session_of x).service (entry.Ended ∷ h) ≡ []
        ended_short h none = ap (flat_map too_long) (append-nil (all_replies l (session_of x).service h)) ∙ none

    to_end : (taken : List ℕ) (how : Status) → how ≢ status.WriteFault → how ≢ status.NoMemory → ((len : ℕ) → how ≢ status.BadReply len)
        → (HasShortReplies l (session_of b) → LongSoFar l how (session_of b)) → AnswersToEnd Goes (Ends l session_of held_of faults_of) how a taken b → CameTo how taken
    to_end taken how w m f so r = (
      subst (λ (held : Option (List ℕ)). Came l how taken (held_of a) held (session_of a) (session_of b)) (sym r.ends.1)
          (came_whole l laws (session_of a) (session_of r.last) (session_of b) new (held_of a) (held_of r.last) taken r.answers.messages r.ending r.answers.read
          r.answers.goes.0 r.ends.0 rests how r.tells w m f),
      so (still_short r.last r.answers.goes.2 r.ends.0),
    )

    came : (taken : List ℕ) (how : Status) → AnswersSo Goes Halts (Ends l session_of held_of faults_of) how a taken b → CameTo how taken
    came taken status.WriteFault r = (
      came_fails l laws (session_of a) (session_of b) new (held_of a) (held_of b) taken rests r.messages r.halted.first r.halted.rest
          r.ending r.read r.halted.parts r.halted.halts.0,
      tt,
    )
    came taken status.NoMemory r = (
      came_short l laws (session_of a) (session_of b) new (held_of a) (held_of b) taken rests r.messages r.halted.first r.halted.rest
          r.ending r.read r.halted.parts r.halted.halts.0,
      tt,
    )
    came taken (status.BadReply len) r =
        let ends = r.halted.halts.0 in (
          came_long l laws (session_of a) ends.last (session_of b) new (held_of a) (held_of b) taken r.messages r.halted.first r.halted.rest r.ending r.read
              r.halted.parts ends.goes ends.ends rests len,
          (ends.more, ends.long),
        )
    came taken status.Done r = to_end taken status.Done (λ e. cc) (λ e. cc) (λ len e. cc) (λ none. none) r
    came taken status.Usage r = to_end taken status.Usage (λ e. cc) (λ e. cc) (λ len e. cc) (λ none. none) r
    came taken status.ReadFault r = to_end taken status.ReadFault (λ e. cc) (λ e. cc) (λ len e. cc) (λ none. none) r
    came taken status.LongInput r = to_end taken status.LongInput (λ e. cc) (λ e. cc) (λ len e. cc) (λ none. none) r
    came taken (status.BadFrame at) r = to_end taken (status.BadFrame at) (λ e. cc) (λ e. cc) (λ len e. cc) (λ none. none) r
    came taken (status.Truncated at) r = to_end taken (status.Truncated at) (λ e. cc) (λ e. cc) (λ len e. cc) (λ none. none) r
    came taken (status.BadText at) r = to_end taken (status.BadText at) (λ e. cc) (λ e. cc) (λ len e. cc) (λ none. none) r

    module _ (how : Status) (left left' : Option (List ℕ)) (answered : IsAnswered Goes Halts (Ends l session_of held_of faults_of) how left left' a b) where
      abbrev taken : List ℕ
      taken = answered.0

      come : CameTo how taken
      come = came taken how answered.2

      pub same_service : (session_of b).service ≡ (session_of a).service
      same_service = come.0.service

      pub long_so : LongSoFar l how (session_of b)
      long_so = come.1

      pub run_of : (limit : ℕ) → HasCause limit how left left' → IsRun l limit how left left' (held_of a) (held_of b) (session_of b)
      run_of limit cause = record {
        written = come.0.written;
        sent = come.0.sent;
        kept = come.0.kept;
        legal = come.0.legal;
        read = (taken, answered.1, come.0.read);
        alone = (taken, answered.1, come.0.alone);
        cause = cause;
      }

-- a reply that is too long is told where there is one
pub never_long : {S : Type 0} (l : Lang S) (s : SessionState) (how : Status) → LongSoFar l how s → HasShortReplies l s → (len : ℕ) → how ≢ status.BadReply len
never_long l s how so none len is =
    let long : LongSoFar l (status.BadReply len) s = subst (λ h. LongSoFar l h s) is so in
    let no : [] ≡ len ∷ long.0 = sym none ∙ long.1 in
    let never : ⊥ = cc in never
