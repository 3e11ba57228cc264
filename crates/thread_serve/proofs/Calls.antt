-- The messages of calls, whichever way a list is read.
use Rattle.std.proofs.Common.{◌≡◌, ◌≢◌, ℕ, Bool, true, false, cond, List, [], ◌∷◌, ◌++◌, reverse, refl, sym, ap, ◌∙◌, append-nil}
use Rattle.std.specs.Prelude.{◌==◌}
use mathlib.Core.List.{reverse-cons}
use Rattle.hist_lock.specs.Entries.{own}
use Rattle.worker_loop.specs.declared.said.Said.TheVariants as said
use Rattle.reply_outbox.specs.declared.item.Item.TheVariants as item
use Rattle.session_rules.specs.declared.entry.Entry.TheVariants as entry
use Rattle.document_session.specs.keeping_rules_below.Items.{SessionItem}
use Rattle.document_serve.specs.Served.{calls_in}
use Rattle.view_laws.specs.Callers.{whose}
use Rattle.view_laws.specs.Says.{says}
use Rattle.thread_serve.specs.Reader.{calls_made}
use Rattle.thread_serve.specs.Joins.{calls_append}

abbrev Messages : Type 0
Messages = List (List (List ℕ))

-- an item that is no call
pub calls_nothing : (x : SessionItem) → says x ≢ said.Other → calls_made (x ∷ []) ≡ []
calls_nothing (item.Opened service) other = refl
calls_nothing (item.Sent writer len) other = refl
calls_nothing (item.Lost writer) other = refl
calls_nothing (item.Made (entry.Call message)) other = absurd (other refl)
calls_nothing (item.Made (entry.Claimed who part)) other = refl
calls_nothing (item.Made (entry.Finished who part)) other = refl
calls_nothing (item.Made (entry.Dropped who part)) other = refl
calls_nothing (item.Made entry.Ended) other = refl

-- one item more, the newest first
one_more : (x : SessionItem) (items : List SessionItem) → calls_in (x ∷ items) ≡ calls_in items ++ calls_made (x ∷ [])
one_more (item.Opened service) items = sym (append-nil (calls_in items))
one_more (item.Sent writer len) items = sym (append-nil (calls_in items))
one_more (item.Lost writer) items = sym (append-nil (calls_in items))
one_more (item.Made (entry.Call message)) items = refl
one_more (item.Made (entry.Claimed who part)) items = sym (append-nil (calls_in items))
one_more (item.Made (entry.Finished who part)) items = sym (append-nil (calls_in items))
one_more (item.Made (entry.Dropped who part)) items = sym (append-nil (calls_in items))
one_more (item.Made entry.Ended) items = sym (append-nil (calls_in items))

pub calls_reversed : (items : List SessionItem) → calls_in items ≡ calls_made (reverse items)
calls_reversed [] = refl
calls_reversed (x ∷ items) = one_more x items ∙ (ap (λ (ms : Messages). ms ++ calls_made (x ∷ [])) (calls_reversed items)
    ∙ (sym (calls_append (reverse items) (x ∷ [])) ∙ ap calls_made (sym (reverse-cons x items))))

-- the calls are the reader's
module _ where
  abbrev readers : List SessionItem → List SessionItem
  readers log = own whose 0 log

  others : (b : Bool) (x : SessionItem) (log : List SessionItem) → calls_made (x ∷ []) ≡ [] → calls_made (cond b (x ∷ readers log) (readers log)) ≡ calls_made (readers log)
  others true x log none = calls_append (x ∷ []) (readers log) ∙ ap (λ (ms : Messages). ms ++ calls_made (readers log)) none
  others false x log none = refl

  pub calls_own : (log : List SessionItem) → calls_made (readers log) ≡ calls_made log
  calls_own [] = refl
  calls_own (item.Opened service ∷ log) = calls_own log
  calls_own (item.Sent writer len ∷ log) = others (writer == 0) (item.Sent writer len) log refl ∙ calls_own log
  calls_own (item.Lost writer ∷ log) = others (writer == 0) (item.Lost writer) log refl ∙ calls_own log
  calls_own (item.Made (entry.Call message) ∷ log) = ap (λ (ms : Messages). message ∷ ms) (calls_own log)
  calls_own (item.Made (entry.Claimed who part) ∷ log) = others (who == 0) (item.Made (entry.Claimed who part)) log refl ∙ calls_own log
  calls_own (item.Made (entry.Finished who part) ∷ log) = others (who == 0) (item.Made (entry.Finished who part)) log refl ∙ calls_own log
  calls_own (item.Made (entry.Dropped who part) ∷ log) = others (who == 0) (item.Made (entry.Dropped who part)) log refl ∙ calls_own log
  calls_own (item.Made entry.Ended ∷ log) = calls_own log
