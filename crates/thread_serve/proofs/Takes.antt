-- What the reader knows after a turn.
use Rattle.std.proofs.Common.{◌≡◌, ◌≢◌, ◌⊎◌, ℕ, ◌≤◌, Bool, true, false, List, [], ◌∷◌, ◌++◌, reverse, Contains, None, inl, inr, refl, sym, ap, subst, ◌∙◌, arith}
use Rattle.std.proofs.lemmas.List.Elements.{All-contains}
use mathlib.Core.List.{IsPrefix}
use Rattle.language.specs.Lang.{Lang}
use Rattle.hist_lock.specs.Entries.{own}
use Rattle.hist_lock.specs.declared.view.View.{View}
use Rattle.worker_loop.specs.Held.{held_in}
use Rattle.worker_loop.specs.declared.said.Said.TheVariants as said
use Rattle.core_rules.specs.Standing.{has_ended}
use Rattle.reply_outbox.specs.declared.item.Item.TheVariants as item
use Rattle.session_rules.specs.declared.entry.Entry.TheVariants as entry
use Rattle.document_session.specs.keeping_rules_below.Items.{SessionItem}
use Rattle.document_session.specs.declared.working.Claim.{Claim}
use Rattle.document_session.specs.declared.working.Claim.TheVariants as claim
use Rattle.document_session.specs.Answers.{ClaimedSo, IsIdle}
use Rattle.thread_serve.specs.Contents.{SharedState}
use Rattle.thread_serve.specs.Ends.{IsGoing}
use Rattle.thread_serve.specs.Working.{ClaimsSo, FindsNoPart, TakesSo}
use Rattle.thread_serve.specs.declared.claiming.Claiming.{Claiming}
use Rattle.thread_serve.specs.declared.claiming.Claiming.TheVariants as claiming
use Rattle.thread_serve.specs.declared.taking.Taking.{Taking}
use Rattle.thread_serve.specs.declared.taking.Taking.TheVariants as taking
use Rattle.view_laws.specs.Callers.{service_of, whose, worker_count}
use Rattle.view_laws.specs.Histories.{IsLegalLog, session_after}
use Rattle.view_laws.specs.Says.{says}
use Rattle.thread_serve.specs.Reading.{HasClaimed, HasNoEnd, HasTaken}
use Rattle.thread_serve.proofs.Claims.{Claims, HeldLaw, SameLaw, StaysLaw, idle_so, job_made, job_right}
use Rattle.thread_serve.proofs.Lists.{OneOf, grown_by, not_grown}
use Rattle.thread_serve.proofs.Sends.{OwnLaw}
use Rattle.thread_serve.proofs.Turns.{EndedLaw, FitsView, IsTurn, LostLaw, log_of, seen_lost, sees_on}
use Rattle.worker_loop.proofs.KnownTurns.{turned_one}

-- all is ended
abbrev pub EndsSo : {A : Type 0} → SharedState → A → SharedState → Type 0
EndsSo old answer new = new.log ≡ old.log ++ item.Made entry.Ended ∷ []

module _ {S : Type 0} (l : Lang S) where
  -- the reader has not ended all, so all has not ended
  pub still_going : EndedLaw l → OwnLaw → (v : View SessionItem) → v.caller ≡ 0 → HasNoEnd v.mine
      → (x : SharedState) → FitsView l v x → IsGoing l x.log
  still_going ended owners v is on x fits = go (has_ended (session_after l x.log).events) refl
    where
      end : SessionItem
      end = item.Made entry.Ended

      mine_is : own whose 0 x.log ≡ v.mine
      mine_is = subst (λ c. own whose c x.log ≡ v.mine) is fits.mine

      go : (b : Bool) → has_ended (session_after l x.log).events ≡ b → b ≡ false
      go false e = refl
      go true e = absurd (All-contains (λ one. says one ≢ said.Ended) v.mine end on
          (subst (λ (xs : List SessionItem). Contains xs end) mine_is ((owners x.log end).0 ((ended x.log).0 e))) refl)

  module _ (message : List (List ℕ)) where
    abbrev pub Takes : SharedState → Taking S → SharedState → Type 0
    Takes old answer new = TakesSo l message old answer new.log

    claim_own : (old new : SharedState) (c : Claim S) → ClaimedSo l (service_of old.log) 0 (reverse old.log) c (reverse new.log) → OneOf 0 old.log new.log
    claim_own old new (claim.Job work flag) so =
        let one : SessionItem = item.Made (entry.Claimed 0 work.job.part) in inr (one, refl, grown_by one old.log new.log so.0)
    claim_own old new claim.Nothing so = inl (not_grown old.log new.log so.0)
    claim_own old new claim.NoMemory so = inl (not_grown old.log new.log so)

    -- the item is the reader's
    pub takes_own : (old new : SharedState) (a : Taking S) → Takes old a new → OneOf 0 old.log new.log
    takes_own old new taking.Replied so = let one : SessionItem = item.Made (entry.Call message) in inr (one, refl, so.0)
    takes_own old new (taking.Waits back c) so = claim_own old new c so.2
    takes_own old new taking.Lost so = inl so.0
    takes_own old new taking.NoMemory so = inl so

    module _ (v w : View SessionItem) (is : v.caller ≡ 0) (free : held_in says v.mine ≡ None) (going : (x : SharedState) → FitsView l v x → IsGoing l x.log)
        (held : HeldLaw l) (same : SameLaw l) (stays : StaysLaw l) (lost : LostLaw l) where
      module _ (back : List (List ℕ)) (c : Claim S) (t : IsTurn l Takes v (taking.Waits back c) w) where
        -- it claimed as a worker does
        abbrev as_claim : (a : Claiming S) → ClaimsSo l 0 t.before.log a t.after.log → IsTurn l (Claims l 0) v a w
        as_claim a given = record {
          before = t.before;
          after = t.after;
          fits = t.fits;
          given = given;
          fits_now = t.fits_now;
          seen = t.seen;
          adds = t.adds;
          rest = t.rest;
        }

      nothing_ready : (log : List SessionItem) → IsGoing l log → IsIdle l (session_after l log) 0 → FindsNoPart l 0 log
      nothing_ready log going (inl none) = inl none
      nothing_ready log going (inr (inl holds)) = inr holds
      nothing_ready log going (inr (inr ended)) = let no : true ≡ false = sym ended ∙ going in absurd (let never : ⊥ = cc in never)

      claimed : (back : List (List ℕ)) (c : Claim S) → IsTurn l Takes v (taking.Waits back c) w → HasClaimed l v c w
      claimed back (claim.Job work flag) t =
          let turn = as_claim back (claim.Job work flag) t (claiming.Job work flag) t.given.2 in
          (job_made l 0 v (claiming.Job work flag) w turn work t.given.2.0, job_right l 0 v (claiming.Job work flag) w turn same stays work t.given.2)
      claimed back claim.Nothing t =
          let unchanged = not_grown t.before.log t.after.log t.given.2.0 in
          let few : 0 ≤ worker_count t.before.log = omega arith in
          let on = going t.before t.fits in
          let none = nothing_ready t.before.log on t.given.2.1 in
          let turn = as_claim back claim.Nothing t claiming.Nothing (unchanged, few, on, none) in
          (sees_on l Takes v (taking.Waits back claim.Nothing) w t unchanged, idle_so l 0 v claiming.Nothing w turn held is free unchanged few on none)
      claimed back claim.NoMemory t = sees_on l Takes v (taking.Waits back claim.NoMemory) w t (not_grown t.before.log t.after.log t.given.2)

      pub taken : (a : Taking S) → IsTurn l Takes v a w → HasTaken l message v a w
      taken taking.Replied t = turned_one log_of whose (IsLegalLog l) Takes v taking.Replied w t (item.Made (entry.Call message)) t.given.0
      taken (taking.Waits back c) t = (t.given.0, claimed back c t)
      taken taking.Lost t = (sees_on l Takes v taking.Lost w t t.given.0, seen_lost l Takes v taking.Lost w t lost t.given.0 t.given.1)
      taken taking.NoMemory t = sees_on l Takes v taking.NoMemory w t t.given
