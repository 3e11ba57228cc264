-- What serving in threads rests on (this project's own).
use Rattle.std.specs.Prelude.{◌≡◌, ◌↔◌, ℕ, ◌+◌, ◌≤◌, true, List, ◌++◌, reverse, flat_map, None}
use Rattle.std.specs.List.{Contains}
use mathlib.Core.List.{IsPrefix}
use Rattle.language.specs.Lang.{Lang}
use Rattle.hist_lock.specs.Entries.{own}
use Rattle.worker_loop.specs.Held.{held_in}
use Rattle.core_rules.specs.Standing.{has_ended, held}
use Rattle.reply_outbox.specs.declared.item.Item.TheVariants as item
use Rattle.reply_outbox.specs.Items.{is_lost}
use Rattle.session_rules.specs.declared.entry.Entry.TheVariants as entry
use Rattle.session_rules.specs.declared.service.Service.{Service}
use Rattle.session_rules.specs.declared.service.Service.TheVariants.{Workers}
use Rattle.session_rules.specs.Heard.{Heard}
use Rattle.session_rules.specs.Legal.{IsLegal}
use Rattle.session_rules.specs.Replies.{replies}
use Rattle.document_session.specs.keeping_rules_below.Items.{SessionItem, heard_in}
use Rattle.document_session.specs.keeping_rules_below.Legal.{AreLegal}
use Rattle.document_session.specs.keeping_rules_below.Pieces.{pieces}
use Rattle.document_session.specs.keeping_rules_below.Sent.{IsFrontSent}
use Rattle.view_laws.specs.Callers.{service_of, whose, worker_count}
use Rattle.view_laws.specs.Histories.{IsLegalLog, session_after}
use Rattle.view_laws.specs.Idle.{Waits}
use Rattle.view_laws.specs.Says.{says}
use Rattle.view_laws.specs.Sent.{bytes_sent, joined_bytes}

-- what lists tell, the newest item first
pub record ListLaws {S : Type 0} (l : Lang S) : Type 0 where
  pub history : (service : Service) (items : List SessionItem) → AreLegal l service items
      → IsLegal l service (heard_in service items)
  pub front : (service : Service) (items : List SessionItem) → AreLegal l service items
      → IsFrontSent l service items
  pub join : (service : Service) (h : List Heard)
      → flat_map (λ bytes. bytes) (pieces l service h) ≡ replies l service h
  pub workers : (count : ℕ) (items : List SessionItem) → AreLegal l (Workers count) items
      → worker_count (reverse items) ≡ count
  pub legal : (count : ℕ) (items : List SessionItem) → AreLegal l (Workers count) items
      → IsLegalLog l (reverse items)

-- what a caller's items tell of all items, the oldest first
pub record CallerLaws {S : Type 0} (l : Lang S) : Type 0 where
  pub its_own : (log : List SessionItem) (one : SessionItem)
      → Contains log one ↔ Contains (own whose (whose one) log) one
  pub ended : (log : List SessionItem)
      → (has_ended (session_after l log).events ≡ true) ↔ Contains log (item.Made entry.Ended)
  pub lost : (log : List SessionItem) → IsLegalLog l log
      → (is_lost (reverse log) ≡ true) ↔ Contains log (item.Lost (worker_count log + 1))
  pub others : (who : ℕ) (seen log : List SessionItem) → IsLegalLog l log
      → IsPrefix seen log → own whose who log ≡ own whose who seen
      → bytes_sent l who log ≡ bytes_sent l who seen
  pub all : (log : List SessionItem) (waiting : List (List ℕ)) → IsLegalLog l log
      → Waits l log waiting → bytes_sent l (worker_count log + 1) log ++ joined_bytes waiting
      ≡ replies l (service_of log) (heard_in (service_of log) (reverse log))
  pub nobody : (log : List SessionItem) (who : ℕ) → IsLegalLog l log
      → ((w : ℕ) → w ≤ worker_count log → held_in says (own whose w log) ≡ None)
      → held (session_after l log).events who ≡ None

-- both
pub record RunLaws {S : Type 0} (l : Lang S) : Type 0 where
  pub lists : ListLaws l
  pub callers : CallerLaws l
