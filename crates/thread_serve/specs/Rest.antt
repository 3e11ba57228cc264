-- What is written once all have stopped (this project's own).
use Rattle.std.specs.Prelude.{◌≡◌, ℕ, Bool, true, false, List, Option}
use Rattle.language.specs.Lang.{Lang}
use Rattle.reply_outbox.specs.Items.{is_lost}
use Rattle.document_session.specs.Contents.{SessionState}
use Rattle.worker_loop.specs.declared.writer.Written.{Written}
use Rattle.worker_loop.specs.declared.writer.Written.TheVariants as written
use Rattle.document_serve.specs.Served.{AllSent, IsLostLast, WritesFront, WritesOn, WritesSome}

-- nothing is, where the writer lost the sink; else all replies that were left are, or the sink is
-- lost, and a front of them is
abbrev pub RestSo : {S : Type 0} → Lang S → Written → Option (List ℕ) → Option (List ℕ)
    → SessionState → SessionState → Bool → Type 0
RestSo l written.WriteFault held held' old new lost =
    (lost ≡ true) × (new ≡ old) × (held' ≡ held)
RestSo l written.Ended held held' old new false = (is_lost new.items ≡ false)
    × AllSent l new.service new.items × WritesOn l held held' old new
RestSo l written.Ended held held' old new true = WritesFront l held held' old new
    × WritesSome l held held' old new × IsLostLast new
