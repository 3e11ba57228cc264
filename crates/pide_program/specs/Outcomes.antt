-- What runs on one thread come to (this project's own).
use Rattle.std.specs.Prelude.{◌≡◌, ◌≢◌, ℕ, List, Option, Some}
use Rattle.std.specs.Io.KnownBytes.{Appends}
use Rattle.pide_base.specs.declared.status.Status.{Status}
use Rattle.pide_base.specs.declared.status.Status.TheVariants as status
use Rattle.reply_outbox.specs.Items.{entries}
use Rattle.session_rules.specs.Services.{free_workers}
use Rattle.thread_serve.specs.document_session_below.Contents.{SessionState}
use Rattle.pide_program.specs.Headline.{Headline}

-- one thread served these bytes but for the rest; neither did writing fail, nor was memory short or
-- a reply too long
pub record IsServedAlone (how : Status) (bytes rest : List ℕ) (held held' : Option (List ℕ))
    (s : SessionState) : Type 0 where
  pub headline : Headline how (Some bytes) (Some rest) held held' s
  pub nobody : free_workers s.service ≡ 0
  pub written : how ≢ status.WriteFault
  pub roomy : how ≢ status.NoMemory
  pub heard : (len : ℕ) → how ≢ status.BadReply len

-- two runs made the same history, and wrote the same bytes
pub record IsSameOutcome (held held' : Option (List ℕ)) (s : SessionState)
    (kept kept' : Option (List ℕ)) (other : SessionState) : Type 0 where
  pub history : entries s.items ≡ entries other.items
  pub bytes : List ℕ
  pub written : Appends held held' bytes
  pub again : Appends kept kept' bytes
