-- How the reader goes on, by its own items, the oldest first (this project's own).
use Rattle.std.specs.Prelude.{◌≡◌, ℕ, List, [], ◌∷◌, ◌++◌, None, ⊤}
use Rattle.hist_lock.specs.declared.state.State.{Ghosts}
use Rattle.hist_lock.specs.declared.view.View.{View}
use Rattle.hist_lock.specs.declared.pass.Pass.{Pass}
use Rattle.hist_lock.specs.declared.shared.Shared.{Shared}
use Rattle.hist_lock.specs.Known.{IsSameCaller}
use Rattle.hist_lock.specs.Passes.{view, IsPassOf}
use Rattle.worker_loop.specs.Held.{held_in}
use Rattle.worker_loop.specs.Rounds.{HasSeen}
use Rattle.worker_loop.specs.declared.said.Said.TheVariants as said
use Rattle.reply_outbox.specs.declared.item.Item.TheVariants as item
use Rattle.session_rules.specs.declared.entry.Entry.TheVariants as entry
use Rattle.document_session.specs.keeping_rules_below.Items.{SessionItem}
use Rattle.message_input.specs.declared.answering.Halt.{Halt}
use Rattle.message_input.specs.declared.answering.Halt.TheVariants as halt
use Rattle.view_laws.specs.Says.{says}
use Rattle.thread_serve.specs.Reading.{HasNoEnd}

-- the messages of the calls among the items
abbrev pub calls_made : List SessionItem → List (List (List ℕ))
calls_made [] = []
calls_made (item.Made (entry.Call message) ∷ log) = message ∷ calls_made log
calls_made (other ∷ log) = calls_made log

-- a caller called these messages, may have worked beside, and did not end all
pub record Answers (v : View SessionItem) (messages : List (List (List ℕ))) (w : View SessionItem)
    : Type 0 where
  pub same : IsSameCaller v w
  pub news : List SessionItem
  pub mine : w.mine ≡ v.mine ++ news
  pub called : calls_made news ≡ messages
  pub going : HasNoEnd news

-- it ended all, and made nothing else
pub record EndsAll (v w : View SessionItem) : Type 0 where
  pub same : IsSameCaller v w
  pub mine : w.mine ≡ v.mine ++ item.Made entry.Ended ∷ []

-- where what is replied can't be written, it has seen that the sink is lost; it doesn't halt for a
-- long reply
abbrev pub SeesWhy : Halt → View SessionItem → Type 0
SeesWhy halt.WriteFault w = HasSeen says w said.Lost
SeesWhy halt.NoMemory w = ⊤
SeesWhy (halt.BadReply len) w = ⊥

module _ {S : Type 0} {g : Ghosts S SessionItem} where
  -- the reader's pass of this lock; it has not ended all
  pub record IsReader (lock : Shared S SessionItem) (p : Pass S SessionItem g) : Type 0 where
    pub own : IsPassOf lock p
    pub reader : (view p).caller ≡ 0
    pub going : HasNoEnd (view p).mine

  -- and holds no part
  pub record IsAtRest (lock : Shared S SessionItem) (p : Pass S SessionItem g) : Type 0 where
    pub stands : IsReader lock p
    pub free : held_in says (view p).mine ≡ None

  module _ (lock lock' : Shared S SessionItem) (p q : Pass S SessionItem g) where
    -- at the same lock it answered these messages, and rests
    pub record GoesOn (messages : List (List (List ℕ))) : Type 0 where
      pub same_lock : lock' ≡ lock
      pub rests : IsAtRest lock' q
      pub answers : Answers (view p) messages (view q)

    -- or it answered these, and then halted
    pub record Halts (first : List (List (List ℕ))) (halt : Halt) : Type 0 where
      pub same_lock : lock' ≡ lock
      pub stands : IsReader lock' q
      pub answers : Answers (view p) first (view q)
      pub why : SeesWhy halt (view q)

    -- or it ended all
    pub record Ends : Type 0 where
      pub same_lock : lock' ≡ lock
      pub own : IsPassOf lock' q
      pub ends : EndsAll (view p) (view q)
