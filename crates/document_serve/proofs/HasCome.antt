-- What a history has once a message is answered.
use Rattle.std.proofs.Common.{◌≡◌, List, ℕ, ◌∷◌, Option, Result, Ok, Err, OnOk, subst, ◌∙◌}
use Rattle.language.specs.Lang.{Lang}
use Rattle.reply_outbox.specs.Items.{entries}
use Rattle.session_rules.specs.declared.entry.Entry.{Entry}
use Rattle.session_rules.specs.declared.entry.Entry.TheVariants as entry
use Rattle.document_session.specs.Contents.{SessionState}
use Rattle.message_input.specs.declared.answering.Halt.{Halt}
use Rattle.document_serve.specs.Runs.{WrittenSo}
use Rattle.document_serve.specs.Served.{HasAnswered, IsWorkedOn}

pub answered_so : {S : Type 0} (l : Lang S) (held held' : Option (List ℕ)) (old : List Entry) (before mid new : SessionState) (message came : List (List ℕ))
    → message ≡ came → IsWorkedOn old (entries before.items) → IsWorkedOn (entry.Call message ∷ entries before.items) (entries mid.items)
    → (r : Result (Unit {0}) Halt) → WrittenSo l held held' mid new r → OnOk r (HasAnswered came old (entries new.items))
answered_so l held held' old before mid new message came same works done (Err h) written = tt
answered_so l held held' old before mid new message came same works done (Ok ended) written = record {
  before = entries before.items;
  works = works;
  done = subst (λ (m : List (List ℕ)). IsWorkedOn (entry.Call m ∷ entries before.items) (entries new.items)) same
      (record { worked = done.worked; is = written.0.entries_are ∙ done.is; none_called = done.none_called });
}
