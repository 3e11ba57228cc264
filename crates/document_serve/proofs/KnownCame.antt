-- What came of an input that was answered on one thread.
use Rattle.std.proofs.Common.{◌≡◌, ◌≢◌, [], ◌∷◌, ◌++◌, List, ℕ, Option, refl, sym, ap, ◌∙◌, subst}
use Rattle.std.specs.Prelude.{⊤}
use Rattle.std.specs.Io.KnownBytes.{Appends}
use Rattle.std.proofs.KnownBytes.{Appends-nil}
use Rattle.pide_base.specs.declared.status.Status.{Status}
use Rattle.pide_base.specs.declared.status.Status.TheVariants as status
use Rattle.byte_message.specs.Stream.{Ending, IsReadAs}
use Rattle.language.specs.Lang.{Lang}
use Rattle.reply_outbox.specs.declared.item.Item.TheVariants.{Opened}
use Rattle.session_rules.specs.Steps.{Nothing, due}
use Rattle.document_session.specs.keeping_rules_below.Items.{SessionItem, heard_in}
use Rattle.document_session.specs.Contents.{SessionState}
use Rattle.message_input.specs.Causes.{Tells}
use Rattle.document_serve.specs.Laws.{ListLaws}
use Rattle.document_serve.specs.Going.{IsLeftFor, IsWorkedFor}
use Rattle.document_serve.specs.Headline.{AloneSo, BytesSent, BytesWritten, CallsSo, Closed, IsFront, LosesSo, OneLegalHistory}
use Rattle.document_serve.specs.Runs.{Fails, GoesOn, IsEnded, RunsShort}
use Rattle.document_serve.specs.Served.{calls_in, sent_in}
use Rattle.document_serve.proofs.Ended.{ended_alone, ended_calls, ended_closed, ended_kept, ended_legal, ended_sent, ended_written}
use Rattle.document_serve.proofs.KnownSent.{sent_whole}

-- what a run keeps that took these bytes
pub record Came {S : Type 0} (l : Lang S) (how : Status) (taken : List ℕ) (held held' : Option (List ℕ)) (old s : SessionState) : Type 0 where
  pub service : s.service ≡ old.service
  pub written : BytesWritten l how held held' s
  pub sent : BytesSent l how held held' s
  pub kept : LosesSo l how s
  pub legal : OneLegalHistory l how s
  pub read : CallsSo how taken s
  pub alone : AloneSo l how taken s

-- at the beginning nothing is called for or sent
module _ {S : Type 0} (l : Lang S) (old : SessionState) (new : old.items ≡ Opened old.service ∷ []) where
  none_called : calls_in old.items ≡ []
  none_called = ap (λ (is : List SessionItem). calls_in is) new

  pub none_sent : (held : Option (List ℕ)) → Appends held held (sent_in l old.service old.items)
  none_sent held = subst (λ (is : List SessionItem). Appends held held (sent_in l old.service is)) (sym new) (Appends-nil held)

-- a front of the messages was answered
module _ {S : Type 0} (l : Lang S) (laws : ListLaws l) (old t : SessionState) (new : old.items ≡ Opened old.service ∷ []) (held held' : Option (List ℕ))
    (taken : List ℕ) (rests : due l t.service (heard_in t.service t.items) ≡ Nothing) where
  pub front_read : (messages first rest : List (List (List ℕ))) (ending : Ending) → IsReadAs taken messages ending → messages ≡ first ++ rest
      → calls_in t.items ≡ calls_in old.items ++ first → (P : List (List (List ℕ)) → Type 0) → P rest → IsFront taken (calls_in t.items) P
  front_read messages first rest ending read parts called P holds =
      let same : calls_in t.items ≡ first = called ∙ ap (λ (ms : List (List (List ℕ))). ms ++ first) (none_called l old new) in
      record {
        rest = rest;
        ending = ending;
        read = subst (λ (ms : List (List (List ℕ))). IsReadAs taken (ms ++ rest) ending) (sym same)
            (subst (λ (ms : List (List (List ℕ))). IsReadAs taken ms ending) parts read);
        holds = holds;
      }

  module _ (messages first rest : List (List (List ℕ))) (ending : Ending) (read : IsReadAs taken messages ending) (parts : messages ≡ first ++ rest) where
    pub came_fails : Fails l held held' old t first rest → Came l status.WriteFault taken held held' old t
    came_fails f = record {
      service = f.service;
      written = f.writes held (none_sent l old new held);
      sent = f.sends held (none_sent l old new held);
      kept = f.lost;
      legal = record { legal = laws.legal t.service t.items f.legal; list = f.legal; none_due = rests; closed = tt };
      read = front_read messages first rest ending read parts f.called (λ rest. ⊤) tt;
      alone = front_read messages first rest ending read parts f.called (λ rest. IsWorkedFor l t.service rest (heard_in t.service t.items)) f.alone;
    }

    pub came_short : RunsShort l held held' old t first rest → Came l status.NoMemory taken held held' old t
    came_short f =
        let sent = f.writes held (none_sent l old new held) in record {
          service = f.service;
          written = subst (Appends held held') (sent_whole l t.service t.items (laws.join t.service) f.all) sent;
          sent = sent;
          kept = (f.kept, f.all);
          legal = record { legal = laws.legal t.service t.items f.legal; list = f.legal; none_due = rests; closed = tt };
          read = front_read messages first rest ending read parts f.called (λ rest. ⊤) tt;
          alone = front_read messages first rest ending read parts f.called (λ rest. IsLeftFor l t.service rest (heard_in t.service t.items)) f.alone;
        }

-- all messages were answered, and the session has ended
module _ {S : Type 0} (l : Lang S) (laws : ListLaws l) (old s t : SessionState) (new : old.items ≡ Opened old.service ∷ []) (held held' : Option (List ℕ))
    (taken : List ℕ) (messages : List (List (List ℕ))) (ending : Ending) (read : IsReadAs taken messages ending) (goes : GoesOn l held held' old s messages)
    (e : IsEnded l s t) (rests : due l t.service (heard_in t.service t.items) ≡ Nothing) where
  now_held : Appends held held' (sent_in l s.service s.items)
  now_held = goes.writes held (none_sent l old new held)

  written : BytesWritten l status.Done held held' t
  written = ended_written l laws s t e held held' goes.rests now_held

  sent : BytesSent l status.Done held held' t
  sent = ended_sent l laws s t e held held' goes.rests now_held

  kept : LosesSo l status.Done t
  kept = ended_kept l laws s t e goes.rests

  alone : AloneSo l status.Done taken t
  alone = ended_alone l laws s t e goes.rests.going.alone

  closed : Closed l status.Done t
  closed = ended_closed l laws s t e

  calls_read : IsReadAs taken (calls_in t.items) ending
  calls_read =
      let same : calls_in t.items ≡ messages =
      ended_calls l laws s t e ∙ goes.called ∙ ap (λ (ms : List (List (List ℕ))). ms ++ messages) (none_called l old new) in
      subst (λ (ms : List (List (List ℕ))). IsReadAs taken ms ending) (sym same) read

  came_by : (how : Status) → BytesWritten l how held held' t → BytesSent l how held held' t → LosesSo l how t → Closed l how t → AloneSo l how taken t
      → CallsSo how taken t → Came l how taken held held' old t
  came_by how written sent kept closed alone read = record {
    service = e.service ∙ goes.service;
    written = written;
    sent = sent;
    kept = kept;
    legal = record { legal = ended_legal l laws s t e; list = e.legal; none_due = rests; closed = closed };
    read = read;
    alone = alone;
  }

  pub came_whole : (how : Status) → Tells how ending → how ≢ status.WriteFault → how ≢ status.NoMemory → ((len : ℕ) → how ≢ status.BadReply len) → Came l how taken held held' old t
  came_whole status.Done tells w m f = came_by status.Done written sent kept closed alone (ending, calls_read, tells)
  came_whole status.Usage tells w m f = came_by status.Usage written sent kept closed alone (ending, calls_read, tells)
  came_whole status.ReadFault tells w m f = came_by status.ReadFault written sent kept closed alone (ending, calls_read, tells)
  came_whole status.LongInput tells w m f = came_by status.LongInput written sent kept closed alone (ending, calls_read, tells)
  came_whole (status.BadFrame at) tells w m f = came_by (status.BadFrame at) written sent kept closed alone (ending, calls_read, tells)
  came_whole (status.Truncated at) tells w m f = came_by (status.Truncated at) written sent kept closed alone (ending, calls_read, tells)
  came_whole (status.BadText at) tells w m f = came_by (status.BadText at) written sent kept closed alone (ending, calls_read, tells)
  came_whole status.WriteFault tells w m f = absurd (w refl)
  came_whole status.NoMemory tells w m f = absurd (m refl)
  came_whole (status.BadReply len) tells w m f = absurd (f len refl)
