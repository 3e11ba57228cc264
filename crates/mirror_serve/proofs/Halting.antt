-- Messages that stop the answers.
use Rattle.std.proofs.Common.{ℕ, ◌≤◌, List, [], Option, inl, refl, sym, append-nil}
use Rattle.language.specs.Lang.{Lang}
use Rattle.document_session.specs.Contents.{SessionState}
use Rattle.message_input.specs.Answers.{HaltsAmong}
use Rattle.message_input.specs.Counts.{CountsSo}
use Rattle.message_input.specs.declared.answering.Halt.{Halt}
use Rattle.message_input.specs.declared.answering.Halt.TheVariants as halt
use Rattle.document_serve.specs.Going.{IsAtRest}
use Rattle.document_serve.specs.Runs.{GoesOn, StopsSo}
use Rattle.mirror_serve.specs.Halts.{HaltsSo}
use Rattle.mirror_serve.specs.Joins.{short_halts}

-- answering some of these messages halts so
abbrev pub HaltsIn : {S : Type 0} → Lang S → Option (List ℕ) → Option (List ℕ) → ℕ → ℕ → SessionState → List (List (List ℕ)) → Halt → SessionState → Type 0
HaltsIn l held held' before after old messages h new =
    HaltsAmong (λ (o : SessionState) first x rest (n : SessionState). HaltsSo l x held held' before after o n first rest) old messages h new

module _ {S : Type 0} (l : Lang S) (held held' : Option (List ℕ)) (before after : ℕ) (old new : SessionState) (messages : List (List (List ℕ))) where
  -- the session stops, and so does all
  pub stops_so : (h : Halt) → HaltsAmong (λ (o : SessionState) first x rest (n : SessionState). StopsSo l x held held' o n first rest) old messages h new
      → CountsSo h before after → HaltsIn l held held' before after old messages h new
  stops_so halt.WriteFault stops counts = record { first = stops.first; rest = stops.rest; parts = stops.parts; halts = (stops.halts, counts) }
  stops_so halt.NoMemory stops counts = record { first = stops.first; rest = stops.rest; parts = stops.parts; halts = (stops.halts, counts) }
  stops_so (halt.BadReply len) stops counts = absurd (counts)

  -- they were answered, and then memory is short
  pub short_behind : GoesOn l held held' old new messages → before ≤ after → HaltsIn l held held' before after old messages halt.NoMemory new
  short_behind goes steady = record {
    first = messages;
    rest = [];
    parts = sym (append-nil messages);
    halts = (
      record {
        service = goes.service;
        legal = goes.rests.going.legal;
        called = goes.called;
        alone = inl goes.rests.going.alone;
        writes = goes.writes;
        kept = goes.rests.going.kept;
        all = goes.rests.sent;
      },
      steady,
    );
  }

-- memory is short before a message was answered
pub short_ahead : {S : Type 0} (l : Lang S) (held : Option (List ℕ)) (faults : ℕ) (s : SessionState) (messages : List (List (List ℕ)))
    → IsAtRest l s → HaltsIn l held held faults faults s messages halt.NoMemory s
short_ahead l held faults s messages rests = record { first = []; rest = messages; parts = refl; halts = short_halts l held faults s messages rests }
