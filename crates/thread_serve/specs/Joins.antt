-- What is so of the reader's answers one after the other is so of them all (this project's own).
use Rattle.std.proofs.Common.{◌≡◌, ◌≢◌, ℕ, List, [], ◌∷◌, ◌++◌, refl, sym, ap, ◌∙◌, append_assoc, append-nil}
use Rattle.std.proofs.lemmas.List.Elements.{All-append, All-nil}
use Rattle.hist_lock.specs.Known.{IsSameCaller}
use Rattle.hist_lock.specs.declared.state.State.{Ghosts}
use Rattle.hist_lock.specs.declared.view.View.{View}
use Rattle.hist_lock.specs.declared.pass.Pass.{Pass}
use Rattle.hist_lock.specs.declared.shared.Shared.{Shared}
use Rattle.hist_lock.specs.Passes.{view}
use Rattle.worker_loop.specs.declared.said.Said.TheVariants as said
use Rattle.reply_outbox.specs.declared.item.Item.TheVariants as item
use Rattle.session_rules.specs.declared.entry.Entry.TheVariants as entry
use Rattle.document_session.specs.keeping_rules_below.Items.{SessionItem}
use Rattle.message_input.specs.declared.answering.Halt.{Halt}
use Rattle.message_input.specs.declared.answering.Halt.TheVariants as halt
use Rattle.view_laws.specs.Says.{says}
use Rattle.thread_serve.specs.Reader.{Answers, GoesOn, Halts, IsAtRest, calls_made}

-- an item that isn't the end
abbrev pub NoEnd : SessionItem → Type 0
NoEnd one = says one ≢ said.Ended

-- the calls of two lists are those of both
pub calls_append : (xs ys : List SessionItem) → calls_made (xs ++ ys) ≡ calls_made xs ++ calls_made ys
calls_append [] ys = refl
calls_append (item.Opened service ∷ xs) ys = calls_append xs ys
calls_append (item.Sent writer len ∷ xs) ys = calls_append xs ys
calls_append (item.Lost writer ∷ xs) ys = calls_append xs ys
calls_append (item.Made (entry.Call message) ∷ xs) ys = ap (λ (ms : List (List (List ℕ))). message ∷ ms) (calls_append xs ys)
calls_append (item.Made (entry.Claimed who part) ∷ xs) ys = calls_append xs ys
calls_append (item.Made (entry.Finished who part) ∷ xs) ys = calls_append xs ys
calls_append (item.Made (entry.Dropped who part) ∷ xs) ys = calls_append xs ys
calls_append (item.Made entry.Ended ∷ xs) ys = calls_append xs ys

-- one caller is the same as another, which is the same as a third
pub same_then : {E : Type 0} (u v w : View E) → IsSameCaller u v → IsSameCaller v w → IsSameCaller u w
same_then {E} u v w first second = second ∙ ap (λ (z : View E). record z { seen = w.seen; mine = w.mine }) first

-- nothing was made
pub made_nothing : (v w : View SessionItem) → IsSameCaller v w → w.mine ≡ v.mine → Answers v [] w
made_nothing v w same mine = record {
  same = same;
  news = [];
  mine = mine ∙ sym (append-nil v.mine);
  called = refl;
  going = All-nil NoEnd;
}

-- messages were called one after the other
pub answers_then : (u v w : View SessionItem) (first then : List (List (List ℕ))) → Answers u first v → Answers v then w → Answers u (first ++ then) w
answers_then u v w first then a b = record {
  same = same_then u v w a.same b.same;
  news = a.news ++ b.news;
  mine = b.mine ∙ (ap (λ (xs : List SessionItem). xs ++ b.news) a.mine ∙ append_assoc u.mine a.news b.news);
  called = calls_append a.news b.news ∙ (ap (λ (ms : List (List (List ℕ))). ms ++ calls_made b.news) a.called ∙ ap (λ (ms : List (List (List ℕ))). first ++ ms) b.called);
  going = All-append NoEnd a.news b.news a.going b.going;
}

module _ {S : Type 0} {g : Ghosts S SessionItem} where
  module _ (lock : Shared S SessionItem) (p : Pass S SessionItem g) (rests : IsAtRest lock p) where
    pub stays : GoesOn lock lock p p []
    stays = record { same_lock = refl; rests = rests; answers = made_nothing (view p) (view p) refl refl }

    pub halts_first : Halts lock lock p p [] halt.NoMemory
    halts_first = record { same_lock = refl; stands = rests.stands; answers = made_nothing (view p) (view p) refl refl; why = tt }

  module _ (one two three : Shared S SessionItem) (p q r : Pass S SessionItem g) (first then : List (List (List ℕ))) where
    pub goes_later : GoesOn one two p q first → GoesOn two three q r then → GoesOn one three p r (first ++ then)
    goes_later a b = record {
      same_lock = b.same_lock ∙ a.same_lock;
      rests = b.rests;
      answers = answers_then (view p) (view q) (view r) first then a.answers b.answers;
    }

    pub halts_later : (why : Halt) → GoesOn one two p q first → Halts two three q r then why → Halts one three p r (first ++ then) why
    halts_later why a b = record {
      same_lock = b.same_lock ∙ a.same_lock;
      stands = b.stands;
      answers = answers_then (view p) (view q) (view r) first then a.answers b.answers;
      why = b.why;
    }
