-- What one thread hands back is told by the bytes that it takes.
use Rattle.std.proofs.Common.{◌≡◌, ◌≢◌, ℕ, true, List, ◌∷◌, ◌++◌, Option, None, Some, refl, sym, ap, subst, ◌∙◌}
use Rattle.std.proofs.lemmas.List.{append_cancel_right}
use Rattle.std.specs.Io.KnownBytes.{Appends}
use Rattle.pide_base.specs.declared.status.Status.{Status}
use Rattle.pide_base.specs.declared.status.Status.TheVariants as status
use Rattle.byte_message.specs.Stream.{Ending, IsReadAs}
use Rattle.language.specs.Lang.{Lang}
use Rattle.core_rules.specs.Standing.{has_ended}
use Rattle.reply_outbox.specs.Items.{entries}
use Rattle.session_rules.specs.declared.entry.Entry.{Entry}
use Rattle.session_rules.specs.declared.service.Service.{Service}
use Rattle.session_rules.specs.Services.{free_workers}
use Rattle.session_rules.specs.Heard.{all_heard}
use Rattle.session_rules.specs.Alone.{IsAlone}
use Rattle.session_rules.specs.Replies.{replies}
use Rattle.thread_serve.specs.keeping_rules_below.Items.{heard_in, session_in}
use Rattle.session_rules.specs.Runs.{IsWholeRun, called}
use Rattle.isar_rules.specs.Isar.{isar}
use Rattle.thread_serve.specs.document_session_below.Contents.{SessionState}
use Rattle.thread_serve.specs.document_serve_below.Served.{calls_in, replies_in}
use Rattle.thread_serve.specs.document_serve_below.Headline.{AloneSo, BytesWritten, CallsSo, Closed}
use Rattle.pide_program.specs.Outcomes.{IsSameOutcome, IsServedAlone}
use Rattle.pide_program.proofs.WholeRuns.{ends, same_called}

-- where neither writing failed nor memory was short
module _ {S : Type 0} (l : Lang S) (taken : List ℕ) (s : SessionState) where
  all_calls : (how : Status) → how ≢ status.WriteFault → how ≢ status.NoMemory → ((len : ℕ) → how ≢ status.BadReply len) → CallsSo how taken s
      → (ending : Ending) × IsReadAs taken (calls_in s.items) ending
  all_calls status.WriteFault w m f c = absurd (w refl)
  all_calls status.NoMemory w m f c = absurd (m refl)
  all_calls status.Done w m f c = (c.0, c.1)
  all_calls status.Usage w m f c = (c.0, c.1)
  all_calls status.ReadFault w m f c = (c.0, c.1)
  all_calls (status.BadFrame at) w m f c = (c.0, c.1)
  all_calls (status.Truncated at) w m f c = (c.0, c.1)
  all_calls status.LongInput w m f c = (c.0, c.1)
  all_calls (status.BadText at) w m f c = (c.0, c.1)
  all_calls (status.BadReply len) w m f c = absurd (f len refl)

  all_alone : (how : Status) → how ≢ status.WriteFault → how ≢ status.NoMemory → AloneSo l how taken s
      → IsAlone l s.service None (heard_in s.service s.items)
  all_alone status.WriteFault w m a = absurd (w refl)
  all_alone status.NoMemory w m a = absurd (m refl)
  all_alone status.Done w m a = a
  all_alone status.Usage w m a = a
  all_alone status.ReadFault w m a = a
  all_alone (status.BadFrame at) w m a = a
  all_alone (status.Truncated at) w m a = a
  all_alone status.LongInput w m a = a
  all_alone (status.BadText at) w m a = a
  all_alone (status.BadReply len) w m a = a

  all_closed : (how : Status) → how ≢ status.WriteFault → how ≢ status.NoMemory → Closed l how s
      → has_ended (session_in l s.service s.items).events ≡ true
  all_closed status.WriteFault w m c = absurd (w refl)
  all_closed status.NoMemory w m c = absurd (m refl)
  all_closed status.Done w m c = c
  all_closed status.Usage w m c = c
  all_closed status.ReadFault w m c = c
  all_closed (status.BadFrame at) w m c = c
  all_closed (status.Truncated at) w m c = c
  all_closed status.LongInput w m c = c
  all_closed (status.BadText at) w m c = c
  all_closed (status.BadReply len) w m c = c

  all_written : (how : Status) (old new : Option (List ℕ)) → how ≢ status.WriteFault → BytesWritten l how old new s
      → Appends old new (replies_in l s.service s.items)
  all_written status.WriteFault old new w b = absurd (w refl)
  all_written status.NoMemory old new w b = b
  all_written status.Done old new w b = b
  all_written status.Usage old new w b = b
  all_written status.ReadFault old new w b = b
  all_written (status.BadFrame at) old new w b = b
  all_written (status.Truncated at) old new w b = b
  all_written status.LongInput old new w b = b
  all_written (status.BadText at) old new w b = b
  all_written (status.BadReply len) old new w b = b

-- all that is needed of one run
record IsRead (bytes rest : List ℕ) (held held' : Option (List ℕ)) (s : SessionState) : Type 0 where
  pub taken : List ℕ
  pub consumes : bytes ≡ taken ++ rest
  pub ending : Ending
  pub read : IsReadAs taken (calls_in s.items) ending
  pub whole : IsWholeRun isar s.service (entries s.items)
  pub written : Appends held held' (replies_in isar s.service s.items)

read_of : (how : Status) (bytes rest : List ℕ) (held held' : Option (List ℕ)) (s : SessionState)
    → IsServedAlone how bytes rest held held' s → IsRead bytes rest held held' s
read_of how bytes rest held held' s run =
    let top = run.headline in
    let messages = top.messages_read in
    let calls = all_calls isar messages.0 s how run.written run.roomy run.heard messages.2 in
    let made = top.alone run.nobody in
    let alone = all_alone isar made.0 s how run.written run.roomy made.2 in
    let legal = top.one_legal_history.legal in
    let closed = all_closed isar made.0 s how run.written run.roomy top.one_legal_history.closed in
    let end = ends isar s.service run.nobody (entries s.items) legal alone closed in
    record {
      taken = messages.0;
      consumes = messages.1;
      ending = calls.0;
      read = calls.1;
      whole = record { before = end.0; ended = end.1; legal = legal; alone = alone };
      written = all_written isar made.0 s how held held' run.written top.bytes_written;
    }

module _ (one_reading : (stream : List ℕ) (messages others : List (List (List ℕ))) (ending end : Ending)
    → IsReadAs stream messages ending → IsReadAs stream others end → (messages ≡ others) × (ending ≡ end))
    (one_run : (service : Service) (h k : List Entry) → free_workers service ≡ 0
    → IsWholeRun isar service h → IsWholeRun isar service k → called h ≡ called k → h ≡ k) where
  pub one_outcome : (how other : Status) (bytes rest : List ℕ) (held held' kept kept' : Option (List ℕ)) (s k : SessionState)
      → IsServedAlone how bytes rest held held' s → IsServedAlone other bytes rest kept kept' k
      → s.service ≡ k.service → IsSameOutcome held held' s kept kept' k
  one_outcome how other bytes rest held held' kept kept' s k first second same =
      let a = read_of how bytes rest held held' s first in
      let b = read_of other bytes rest kept kept' k second in
      let taken : a.taken ≡ b.taken = append_cancel_right a.taken b.taken rest (sym a.consumes ∙ b.consumes) in
      let read = subst (λ (t : List ℕ). IsReadAs t (calls_in s.items) a.ending) taken a.read in
      let called = same_called (entries s.items) (entries k.items)
      (one_reading b.taken (calls_in s.items) (calls_in k.items) a.ending b.ending read b.read).0 in
      let whole = subst (λ (v : Service). IsWholeRun isar v (entries k.items)) (sym same) b.whole in
      let history = one_run s.service (entries s.items) (entries k.items) first.nobody a.whole whole called in
      let replied = ap (λ (v : Service). replies isar v (all_heard v (entries k.items))) (sym same)
      ∙ ap (λ (es : List Entry). replies isar s.service (all_heard s.service es)) (sym history) in
      record {
        history = history;
        bytes = replies_in isar s.service s.items;
        written = a.written;
        again = subst (λ (w : List ℕ). Appends kept kept' w) replied b.written;
      }
