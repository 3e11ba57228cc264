-- What a caller knows after a turn at a session.
use Rattle.std.proofs.Common.{◌≡◌, ℕ, ◌+◌, Bool, true, false, List, [], ◌∷◌, ◌++◌, reverse, refl, sym, ap, subst, ◌∙◌}
use Rattle.std.specs.Prelude.{◌↔◌}
use Rattle.std.specs.List.{Contains}
use Rattle.language.specs.Lang.{Lang}
use Rattle.hist_lock.specs.Calls.{Turned}
use Rattle.hist_lock.specs.Entries.{own}
use Rattle.hist_lock.specs.Known.{Fits}
use Rattle.hist_lock.specs.declared.view.View.{View}
use Rattle.worker_loop.specs.Answers.{LookedSo, Makes}
use Rattle.worker_loop.specs.Rounds.{HasSeen}
use Rattle.worker_loop.specs.Sending.{KnowsOwn}
use Rattle.worker_loop.specs.Stays.{SeesOn}
use Rattle.worker_loop.specs.declared.said.Said.{Said}
use Rattle.worker_loop.specs.declared.said.Said.TheVariants as said
use Rattle.worker_loop.proofs.KnownTurns.{turned_none, turned_one}
use Rattle.core_rules.specs.Standing.{has_ended}
use Rattle.reply_outbox.specs.declared.item.Item.TheVariants as item
use Rattle.reply_outbox.specs.Items.{is_lost}
use Rattle.session_rules.specs.declared.entry.Entry.TheVariants as entry
use Rattle.document_session.specs.keeping_rules_below.Items.{SessionItem}
use Rattle.thread_serve.specs.Contents.{SharedState}
use Rattle.thread_serve.specs.Ends.{HasEnded}
use Rattle.view_laws.specs.Callers.{whose, worker_count}
use Rattle.view_laws.specs.Histories.{IsLegalLog, session_after}
use Rattle.view_laws.specs.Says.{says}

abbrev pub log_of : SharedState → List SessionItem
log_of x = x.log

module _ {S : Type 0} (l : Lang S) where
  -- a state fits what a caller knows
  abbrev pub FitsView : View SessionItem → SharedState → Type 0
  FitsView v x = Fits log_of whose (IsLegalLog l) v x

  -- all has ended where the list has its end
  abbrev pub EndedLaw : Type 0
  EndedLaw = (log : List SessionItem) → (has_ended (session_after l log).events ≡ true) ↔ Contains log (item.Made entry.Ended)

  -- the sink is lost where the list has the writer's item that tells it
  abbrev pub LostLaw : Type 0
  LostLaw = (log : List SessionItem) → IsLegalLog l log
      → (is_lost (reverse log) ≡ true) ↔ Contains log (item.Lost (worker_count log + 1))

  module _ {A : Type 0} (gives : SharedState → A → SharedState → Type 0) where
    abbrev pub IsTurn : View SessionItem → A → View SessionItem → Type 0
    IsTurn v answer w = Turned log_of whose (IsLegalLog l) gives v answer w

    module _ (v : View SessionItem) (answer : A) (w : View SessionItem) (t : IsTurn v answer w) where
      pub seen_is : t.after.log ≡ t.before.log → w.seen ≡ t.before.log
      seen_is same = t.seen ∙ same

      pub sees_on : t.after.log ≡ t.before.log → SeesOn v w
      sees_on same = turned_none log_of whose (IsLegalLog l) gives v answer w t same

      pub makes : (x : SessionItem) → t.after.log ≡ t.before.log ++ x ∷ [] → Makes says v (says x) w
      makes x grown = (x, refl, turned_one log_of whose (IsLegalLog l) gives v answer w t x grown)

      pub knows_own : KnowsOwn whose w
      knows_own = ap (own whose w.caller) t.seen ∙ t.fits_now.mine

      pub legal_seen : IsLegalLog l w.seen
      legal_seen = subst (IsLegalLog l) (sym t.seen) t.fits_now.is_legal

      pub caller_stays : w.caller ≡ v.caller
      caller_stays = ap (λ (u : View SessionItem). u.caller) t.rest

      -- the end was seen
      pub seen_ended : EndedLaw → t.after.log ≡ t.before.log → HasEnded l t.before.log → HasSeen says w said.Ended
      seen_ended law same ended = (
        item.Made entry.Ended,
        subst (λ (xs : List SessionItem). Contains xs (item.Made entry.Ended)) (sym (seen_is same)) ((law t.before.log).0 ended),
        refl,
      )

      -- the loss of the sink was seen
      pub seen_lost : LostLaw → t.after.log ≡ t.before.log → is_lost (reverse t.before.log) ≡ true → HasSeen says w said.Lost
      seen_lost law same lost = let one = item.Lost (worker_count t.before.log + 1) in (
        one,
        subst (λ (xs : List SessionItem). Contains xs one) (sym (seen_is same)) ((law t.before.log t.fits.is_legal).0 lost),
        refl,
      )

  abbrev pub Looks : SharedState → Bool → SharedState → Type 0
  Looks old answer new = (new.log ≡ old.log) × (answer ≡ has_ended (session_after l old.log).events)

  pub looked : EndedLaw → (v : View SessionItem) (answer : Bool) (w : View SessionItem) → IsTurn Looks v answer w → LookedSo says v answer w
  looked law v true w t = (sees_on Looks v true w t t.given.0, seen_ended Looks v true w t law t.given.0 (sym t.given.1))
  looked law v false w t = sees_on Looks v false w t t.given.0
