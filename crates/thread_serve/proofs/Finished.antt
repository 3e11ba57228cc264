-- A run that has finished keeps what is promised.
use Rattle.std.proofs.Common.{◌≡◌, ℕ, ◌+◌, ◌≤◌, Bool, true, false, List, ◌++◌, Option, None, sym, ap, ◌∙◌}
use Rattle.pide_base.specs.Faults.{Rose}
use Rattle.pide_base.specs.declared.status.Status.{Status}
use Rattle.pide_base.specs.declared.status.Status.TheVariants as status
use Rattle.language.specs.Lang.{Lang}
use Rattle.hist_lock.specs.declared.view.View.{View}
use Rattle.worker_loop.specs.declared.writer.Written.{Written}
use Rattle.worker_loop.specs.declared.writer.Written.TheVariants as written
use Rattle.core_rules.specs.Standing.{has_ended, held as holds}
use Rattle.reply_outbox.specs.Items.{entries, is_lost}
use Rattle.session_rules.specs.declared.entry.Entry.{Entry}
use Rattle.session_rules.specs.declared.service.Service.{Service}
use Rattle.session_rules.specs.Heard.{all_heard}
use Rattle.session_rules.specs.History.{session}
use Rattle.session_rules.specs.Steps.{Nothing, due}
use Rattle.document_session.specs.keeping_rules_below.Items.{SessionItem, heard_in}
use Rattle.document_session.specs.Contents.{SessionState}
use Rattle.document_serve.specs.Runs.{IsSame}
use Rattle.document_serve.specs.Served.{calls, calls_in, replies_in, sent_in}
use Rattle.view_laws.specs.Sent.{bytes_sent}
use Rattle.thread_serve.specs.Closed.{IsClosed, WorkersAreFree}
use Rattle.thread_serve.specs.Laws.{RunLaws}
use Rattle.thread_serve.specs.Promises.{IsServed, NobodyHolds, status_of}
use Rattle.thread_serve.specs.Rest.{RestSo}
use Rattle.thread_serve.specs.Stopped.{HasRead, HasWritten, WroteSo}
use Rattle.thread_serve.proofs.Bytes.{handed_is_sent, handed_last, sent_is_front}
use Rattle.thread_serve.proofs.Composed.{closed_so}
use Rattle.thread_serve.proofs.Statuses.{causes_so, done_only, never_long, read_so}
use Rattle.thread_serve.proofs.Told.{all_ended, calls_are, nobody_holds, not_lost, reader_saw_loss, writer_lost}
use Rattle.thread_serve.proofs.Whole.{ends_so, on_same, rose_so}

module _ {S : Type 0} (l : Lang S) (laws : RunLaws l) (count : ℕ) (held now : Option (List ℕ)) (faults later : ℕ) (why : Written)
    (reader writer : View SessionItem) (s : SessionState) (c : IsClosed l count reader writer s)
    (w : HasWritten l (count + 1) (record { contents = held; faults = faults }) why writer (record { contents = now; faults = later })) where
  abbrev who : ℕ
  who = count + 1

  -- what the writer was handed is what the list tells as sent, a front of all replies
  told : bytes_sent l who writer.seen ≡ sent_in l s.service s.items
  told = sym (handed_last l count reader writer s c laws.lists.workers laws.lists.legal laws.callers.others w.writer w.knows)
      ∙ handed_is_sent l count reader writer s c laws.lists.workers laws.lists.legal (laws.lists.front s.service s.items c.legal) laws.lists.join laws.callers.all

  front : (rest : List ℕ) × (replies_in l s.service s.items ≡ sent_in l s.service s.items ++ rest)
  front = sent_is_front l count reader writer s c laws.lists.workers laws.lists.legal (laws.lists.front s.service s.items c.legal) laws.lists.join

  -- the sink was lost before where the writer says so, and only there
  lost_before : (y : Written) → WroteSo l who (record { contents = held; faults = faults }) y writer (record { contents = now; faults = later })
      → (y ≡ written.WriteFault → is_lost s.items ≡ true) × (y ≡ written.Ended → is_lost s.items ≡ false)
  lost_before written.WriteFault wrote =
      (λ e. writer_lost l count reader writer s c wrote.1.0 wrote.1.1 wrote.1.2, λ e. absurd (let no : ⊥ = cc in no))
  lost_before written.Ended wrote = (
    λ e. absurd (let no : ⊥ = cc in no),
    λ e. not_lost l count reader writer s c laws.lists.workers laws.lists.legal laws.callers.lost laws.callers.its_own wrote.1,
  )

  kept_before : why ≡ written.Ended → is_lost s.items ≡ false
  kept_before = (lost_before why w.wrote).1

  module _ (limit : ℕ) (how : Status) (left left' : Option (List ℕ)) (r : HasRead limit how left left' reader)
      (t : SessionState) (then : Option (List ℕ)) (lost is_short : Bool) (same : IsSame l s t) (rest : RestSo l why now then s t lost) where
    saw : how ≡ status.WriteFault → is_lost s.items ≡ true
    saw e = reader_saw_loss l count reader writer s c (r.lost e)

    calls_still : calls_in t.items ≡ calls_in s.items
    calls_still = ap (λ (es : List Entry). calls es) same.entries_are

    ended : has_ended (session l t.service (all_heard t.service (entries t.items))).events ≡ true
    ended = on_same l s t same (λ v es. has_ended (session l v (all_heard v es)).events ≡ true)
        (all_ended l count reader writer s c laws.lists.workers laws.lists.legal laws.callers.ended laws.callers.its_own r.ended)

    free_so : (is_short ≡ false → WorkersAreFree count s) → status_of lost is_short how ≡ status.Done → NobodyHolds l t
    free_so free done =
        let only = done_only lost is_short how done in
        let before = nobody_holds l count reader writer s c laws.lists.workers laws.lists.legal laws.callers.nobody (r.free only.2) (free only.1) in
        λ w. on_same l s t same (λ v es. held_of v es w) (before w)
      where
        held_of : Service → List Entry → ℕ → Type 0
        held_of v es w = holds (session l v (all_heard v es)).events w ≡ None

    pub served_so : (is_short ≡ false → WorkersAreFree count s) → due l t.service (heard_in t.service t.items) ≡ Nothing
        → IsServed l limit (status_of lost is_short how) left left' held then t
    served_so free rests =
        let before = lost_before why w.wrote in
        let ends = ends_so l who held now then faults later writer s t told front laws.lists.join why w.wrote lost rest before.0 before.1 is_short how saw in
        record {
          written = ends.written;
          sent = ends.sent;
          lost = ends.lost;
          legal = record {
            legal = laws.lists.history t.service t.items same.legal;
            list = same.legal;
            none_due = rests;
            closed = closed_so l t ended (status_of lost is_short how);
          };
          read = read_so lost is_short how left left' t (r.messages t (calls_still ∙ calls_are l count reader writer s c));
          free = free_so free;
          replies = never_long lost is_short how r.replies;
          causes = causes_so limit how left left' r.causes lost is_short;
        }

    pub fault_so : (last : ℕ) → later ≤ last → (why ≡ written.Ended → lost ≡ true → Rose later last)
        → status_of lost is_short how ≡ status.WriteFault → Rose faults last
    fault_so last high cause = rose_so l who held now then faults later last writer s t why w.wrote lost rest kept_before is_short how saw w.steady high cause
