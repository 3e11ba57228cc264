-- What small lists tell, computed (this project's own).
use Rattle.std.specs.Prelude.{◌≡◌, ℕ, List, [], ◌∷◌, length, Some, None}
use Rattle.hist_lock.specs.Entries.{own}
use Rattle.worker_loop.specs.Held.{held_in}
use Rattle.message_values.specs.declared.refusal.Refusal.TheVariants.{UnknownFunction}
use Rattle.reply_outbox.specs.declared.item.Item.TheVariants.{Opened, Made, Sent, Lost}
use Rattle.reply_messages.specs.declared.told.Told.TheVariants as tells
use Rattle.core_rules.specs.Small.{small, eval}
use Rattle.session_rules.specs.declared.entry.Entry.TheVariants.{Call, Claimed, Finished, Ended}
use Rattle.session_rules.specs.declared.service.Service.TheVariants.{Workers}
use Rattle.keeping_rules.specs.session_replies_below.Spelling.{reply_spelling}
use Rattle.keeping_rules.specs.Items.{SessionItem}
use Rattle.view_laws.specs.Callers.{whose}
use Rattle.view_laws.specs.Histories.{IsLegalLog}
use Rattle.view_laws.specs.Idle.{HasNothingToDo}
use Rattle.view_laws.specs.Says.{says}
use Rattle.view_laws.specs.Sent.{bytes_sent}

-- a message without chunks is refused
abbrev pub refusal : List ℕ
refusal = reply_spelling (tells.Refused UnknownFunction)

-- one worker: the message is refused
abbrev pub one_message : List SessionItem
one_message = Opened (Workers 1) ∷ Made (Call []) ∷ []

-- and the writer, caller 2, takes the reply
abbrev pub one_reply : List SessionItem
one_reply = Opened (Workers 1) ∷ Made (Call []) ∷ Sent 2 (length refusal) ∷ []

-- what each caller has of it, and was handed; then nobody has anything to do
pub record ARefusal : Type 0 where
  pub legal : IsLegalLog small one_reply
  pub reader : own whose 0 one_reply ≡ one_message
  pub worker : own whose 1 one_reply ≡ []
  pub writer : own whose 2 one_reply ≡ Sent 2 (length refusal) ∷ []
  pub handed : bytes_sent small 2 one_reply ≡ refusal
  pub before : bytes_sent small 2 one_message ≡ []
  pub other : bytes_sent small 1 one_reply ≡ []
  pub idle_worker : HasNothingToDo small one_reply 1
  pub idle_writer : HasNothingToDo small one_reply 2

-- two workers take a part each, and one of them finishes it
abbrev pub two_claims : List SessionItem
two_claims = Opened (Workers 2) ∷ Made (Claimed 1 (eval 1)) ∷ Made (Claimed 2 (eval 2))
    ∷ Made (Finished 1 (eval 1)) ∷ Lost 3 ∷ Made Ended ∷ []

-- each holds what its own items tell
pub record TwoWorkers : Type 0 where
  pub first : held_in says (own whose 1 two_claims) ≡ None
  pub second : held_in says (own whose 2 two_claims) ≡ Some (eval 2)
  pub writer : own whose 3 two_claims ≡ Lost 3 ∷ []
  pub reader : own whose 0 two_claims ≡ Opened (Workers 2) ∷ Made Ended ∷ []
