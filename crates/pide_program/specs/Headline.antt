-- What is promised of a run that serves messages: `s` is the session behind it, and the bytes taken
-- are those that were left before and no more after (this project's own).
use Rattle.std.specs.Prelude.{◌≡◌, ◌≢◌, ℕ, List, Option, None}
use Rattle.pide_base.specs.declared.status.Status.{Status}
use Rattle.pide_base.specs.declared.status.Status.TheVariants as status
use Rattle.isar_rules.specs.Isar.{isar}
use Rattle.message_values.specs.Workers.{IsWorker}
use Rattle.message_input.specs.Causes.{HasCause}
use Rattle.core_rules.specs.Standing as standing
use Rattle.session_rules.specs.declared.service.Service.TheVariants.{Script}
use Rattle.session_rules.specs.Services.{free_workers}
use Rattle.thread_serve.specs.keeping_rules_below.Items.{heard_in, session_in}
use Rattle.session_rules.specs.Promises.{CoversSo, EachMessage, ShowsSo}
use Rattle.thread_serve.specs.document_session_below.Contents.{SessionState}
use Rattle.thread_serve.specs.document_serve_below.Headline.{BytesWritten, MadeAlone, MessagesRead, OneLegalHistory}
use Rattle.pide_program.specs.Limit.{input_limit}

-- the bytes written are the replies of one legal history, whose editor calls are the messages read;
-- each snapshot in it shows and lists what it has to, and each update covers what is wanted. Where
-- nobody works beside the reader, one thread made the history; at the end nobody holds a part; and
-- the status has its cause
pub record Headline (how : Status) (left left' held held' : Option (List ℕ)) (s : SessionState)
    : Type 0 where
  pub bytes_written : BytesWritten isar how held held' s
  pub one_legal_history : OneLegalHistory isar how s
  pub messages_read : MessagesRead how left left' s
  pub shows_and_lists : EachMessage (ShowsSo isar s.service) (heard_in s.service s.items)
  pub covers : EachMessage (CoversSo isar s.service) (heard_in s.service s.items)
  pub alone : free_workers s.service ≡ 0 → MadeAlone isar how left left' s
  pub nobody_holds : how ≡ status.Done → (who : ℕ)
      → standing.held (session_in isar s.service s.items).events who ≢ None
      → (s.service ≡ Script) × IsWorker who
  pub cause : HasCause input_limit how left left'
