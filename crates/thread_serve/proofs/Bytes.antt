-- What the writer wrote is what the session's list tells as sent.
use Rattle.std.proofs.Common.{◌≡◌, ℕ, ◌+◌, List, ◌++◌, length, reverse, sym, ap, subst, ◌∙◌}
use Rattle.std.proofs.lemmas.List.{append_cancel_right, length-map, length-reverse}
use mathlib.Core.List.{IsPrefix}
use Rattle.language.specs.Lang.{Lang}
use Rattle.hist_lock.specs.Entries.{own}
use Rattle.hist_lock.specs.declared.view.View.{View}
use Rattle.worker_loop.specs.Sending.{KnowsOwn}
use Rattle.reply_outbox.specs.Items.{lengths_sent}
use Rattle.session_rules.specs.declared.service.Service.{Service}
use Rattle.session_rules.specs.Heard.{Heard}
use Rattle.session_rules.specs.Replies.{replies}
use Rattle.document_session.specs.keeping_rules_below.Items.{SessionItem, heard_in}
use Rattle.document_session.specs.keeping_rules_below.Legal.{AreLegal}
use Rattle.document_session.specs.keeping_rules_below.Pieces.{AreWaiting, pieces}
use Rattle.document_session.specs.keeping_rules_below.Sent.{IsFrontSent}
use Rattle.document_session.specs.Contents.{SessionState}
use Rattle.document_serve.specs.Served.{replies_in, sent_in}
use Rattle.document_serve.proofs.KnownSent.{joined, sent_front}
use Rattle.view_laws.specs.Callers.{service_of, whose, worker_count}
use Rattle.view_laws.specs.Histories.{IsLegalLog}
use Rattle.view_laws.specs.Idle.{Waits}
use Rattle.view_laws.specs.Sent.{bytes_sent, joined_bytes}
use Rattle.thread_serve.proofs.KnownLegal.{LegalLaw, WorkersLaw}
use Rattle.thread_serve.specs.Closed.{IsClosed}
use Rattle.thread_serve.proofs.Logs.{count_is, from_log, legal_log, to_log}

module _ {S : Type 0} (l : Lang S) where
  -- what others do hands a caller nothing
  abbrev pub OthersLaw : Type 0
  OthersLaw = (who : ℕ) (seen log : List SessionItem) → IsLegalLog l log → IsPrefix seen log
      → own whose who log ≡ own whose who seen → bytes_sent l who log ≡ bytes_sent l who seen

  -- what the writer was handed and what waits are all replies
  abbrev pub AllLaw : Type 0
  AllLaw = (log : List SessionItem) (waiting : List (List ℕ)) → IsLegalLog l log → Waits l log waiting
      → bytes_sent l (worker_count log + 1) log ++ joined_bytes waiting ≡ replies l (service_of log) (heard_in (service_of log) (reverse log))

  abbrev pub FrontLaw : Type 0
  FrontLaw = (service : Service) (items : List SessionItem) → AreLegal l service items → IsFrontSent l service items

  abbrev pub JoinLaw : Type 0
  JoinLaw = (service : Service) (h : List Heard) → joined (pieces l service h) ≡ replies l service h

  -- some replies wait
  waiting_of : (service : Service) (items : List SessionItem) (f : IsFrontSent l service items) → AreWaiting (pieces l service (heard_in service items)) items f.waiting
  waiting_of service items f = record {
    gone = f.sent;
    replies = f.front;
    count = sym (length-map f.sent length) ∙ (ap (λ (ns : List ℕ). length ns) f.lengths ∙ length-reverse (lengths_sent items));
  }

  module _ (count : ℕ) (reader writer : View SessionItem) (s : SessionState) (c : IsClosed l count reader writer s)
      (workers : WorkersLaw l) (legal : LegalLaw l) where
    abbrev who : ℕ
    who = count + 1

    -- since the writer stopped it was handed nothing
    pub handed_last : OthersLaw → writer.caller ≡ who → KnowsOwn whose writer
        → bytes_sent l who (reverse s.items) ≡ bytes_sent l who writer.seen
    handed_last others is knows = others who writer.seen (reverse s.items) (legal_log l count s c.service c.legal legal) c.writer_saw
        (c.writer_made ∙ sym (subst (λ n. own whose n writer.seen ≡ writer.mine) is knows))

    module _ (f : IsFrontSent l s.service s.items) (join : JoinLaw) where
      whole : replies_in l s.service s.items ≡ sent_in l s.service s.items ++ joined f.waiting
      whole = sent_front l s.service s.items (join s.service) f.waiting (waiting_of s.service s.items f)

      handed_whole : AllLaw → bytes_sent l who (reverse s.items) ++ joined f.waiting ≡ replies_in l s.service s.items
      handed_whole all =
          let log = reverse s.items in
          let waits = to_log l count s c.service c.legal workers (λ v items. AreWaiting (pieces l v (heard_in v items)) items f.waiting)
          (waiting_of s.service s.items f) in
          from_log l count s c.service c.legal workers (λ v items. bytes_sent l who log ++ joined f.waiting ≡ replies l v (heard_in v items))
          (subst (λ n. bytes_sent l (n + 1) log ++ joined f.waiting ≡ replies l (service_of log) (heard_in (service_of log) (reverse log)))
          (count_is l count s c.service c.legal workers) (all log f.waiting (legal_log l count s c.service c.legal legal) waits))

      -- what it was handed is what the list tells as sent
      pub handed_is_sent : AllLaw → bytes_sent l who (reverse s.items) ≡ sent_in l s.service s.items
      handed_is_sent all = append_cancel_right (bytes_sent l who (reverse s.items)) (sent_in l s.service s.items) (joined f.waiting) (handed_whole all ∙ whole)

      -- which is a front of all replies
      pub sent_is_front : (rest : List ℕ) × (replies_in l s.service s.items ≡ sent_in l s.service s.items ++ rest)
      sent_is_front = (joined f.waiting, whole)
