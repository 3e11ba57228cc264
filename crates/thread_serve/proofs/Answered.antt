-- What the reader made, step by step.
use Rattle.std.proofs.Common.{◌≡◌, ◌≢◌, ℕ, List, [], ◌∷◌, ◌++◌, Option, None, Some, OnErr, Result, Ok, Err, refl, sym, ap, subst, ◌∙◌}
use Rattle.std.proofs.lemmas.List.Elements.{All-append, All-cons, All-nil}
use Rattle.pide_base.specs.declared.part.Part.{Part}
use Rattle.language.specs.Lang.{Lang}
use Rattle.hist_lock.specs.Known.{IsSameCaller}
use Rattle.hist_lock.specs.declared.view.View.{View}
use Rattle.worker_loop.specs.Answers.{Makes}
use Rattle.worker_loop.specs.Held.{held_in}
use Rattle.worker_loop.specs.Rounds.{AreRounds, GoesOn, Steps}
use Rattle.worker_loop.specs.Stays.{SeesOn}
use Rattle.worker_loop.specs.declared.said.Said.{Said}
use Rattle.worker_loop.specs.declared.said.Said.TheVariants as said
use Rattle.worker_loop.proofs.KnownHeld.{held_made}
use Rattle.worker_loop.proofs.KnownRounds.{stands}
use Rattle.reply_outbox.specs.declared.item.Item.TheVariants as item
use Rattle.session_rules.specs.declared.entry.Entry.TheVariants as entry
use Rattle.document_session.specs.keeping_rules_below.Items.{SessionItem}
use Rattle.document_session.specs.declared.working.Claim.{Claim}
use Rattle.document_session.specs.declared.working.Claim.TheVariants as claim
use Rattle.view_laws.specs.Says.{says}
use Rattle.thread_serve.specs.Reading.{HasClaimed, HasNoEnd}
use Rattle.thread_serve.specs.Reader.{Answers, calls_made}
use Rattle.thread_serve.specs.Waiting.{MayPassTime}
use Rattle.thread_serve.specs.Joins.{NoEnd, calls_append, made_nothing}
use Rattle.thread_serve.proofs.Calls.{calls_nothing}

module _ (v w : View SessionItem) where
  -- the message was called
  pub made_call : IsSameCaller v w → (message : List (List ℕ)) → w.mine ≡ v.mine ++ item.Made (entry.Call message) ∷ [] → Answers v (message ∷ []) w
  made_call same message mine = record {
    same = same;
    news = item.Made (entry.Call message) ∷ [];
    mine = mine;
    called = refl;
    going = All-cons NoEnd (item.Made (entry.Call message)) [] (λ e. absurd (let no : ⊥ = cc in no)) (All-nil NoEnd);
  }

  -- a part was claimed
  pub made_claim : IsSameCaller v w → (part : Part) → Makes says v (said.Claimed part) w → Answers v [] w
  made_claim same part made = record {
    same = same;
    news = made.0 ∷ [];
    mine = made.2;
    called = calls_nothing made.0 (λ other. let no : said.Claimed part ≡ said.Other = sym made.1 ∙ other in absurd (let never : ⊥ = cc in never));
    going = All-cons NoEnd made.0 [] (λ end. let no : said.Claimed part ≡ said.Ended = sym made.1 ∙ end in absurd (let never : ⊥ = cc in never)) (All-nil NoEnd);
  }

-- what was made is no end, and so all that was made is none
pub still_open : (v w : View SessionItem) (messages : List (List (List ℕ))) → HasNoEnd v.mine → Answers v messages w → HasNoEnd w.mine
still_open v w messages before a = subst HasNoEnd (sym a.mine) (All-append NoEnd v.mine a.news before a.going)

-- a step of a round is neither a call nor the end
step_is : (held : Option Part) (what : Said) (next : Option Part) → Steps held what next → (what ≢ said.Other) × (what ≢ said.Ended)
step_is None (said.Claimed p) next s = (λ e. absurd (let no : ⊥ = cc in no), λ e. absurd (let no : ⊥ = cc in no))
step_is (Some p) (said.Finished q) next s = (λ e. absurd (let no : ⊥ = cc in no), λ e. absurd (let no : ⊥ = cc in no))
step_is (Some p) (said.Dropped q) next s = (λ e. absurd (let no : ⊥ = cc in no), λ e. absurd (let no : ⊥ = cc in no))
step_is None (said.Finished q) next s = absurd s
step_is None (said.Dropped q) next s = absurd s
step_is None said.Sent next s = absurd s
step_is None said.Lost next s = absurd s
step_is None said.Ended next s = absurd s
step_is None said.Other next s = absurd s
step_is (Some p) (said.Claimed q) next s = absurd s
step_is (Some p) said.Sent next s = absurd s
step_is (Some p) said.Lost next s = absurd s
step_is (Some p) said.Ended next s = absurd s
step_is (Some p) said.Other next s = absurd s

-- rounds call nothing, and are no end
rounds_call : (held : Option Part) (news : List SessionItem) (after : Option Part) → AreRounds says held news after → (calls_made news ≡ []) × HasNoEnd news
rounds_call held [] after r = (refl, All-nil NoEnd)
rounds_call held (x ∷ news) after r =
    let is = step_is held (says x) r.0 r.1 in
    let more = rounds_call r.0 news after r.2 in (
      calls_append (x ∷ []) news ∙ (ap (λ (ms : List (List (List ℕ))). ms ++ calls_made news) (calls_nothing x is.0) ∙ more.0),
      All-cons NoEnd x news is.1 more.1,
    )

pub rounds_answer : (v w : View SessionItem) (held after : Option Part) → IsSameCaller v w → GoesOn says v held w after → Answers v [] w
rounds_answer v w held after same went = let is = rounds_call held went.0 after went.2 in
    record { same = same; news = went.0; mine = went.1; called = is.0; going = is.1 }

-- after a claim
module _ {S : Type 0} (l : Lang S) (v w : View SessionItem) (same : IsSameCaller v w) where
  pub claim_answers : (c : Claim S) → HasClaimed l v c w → Answers v [] w
  claim_answers (claim.Job work flag) so = made_claim v w same work.job.part so.0
  claim_answers claim.Nothing so = made_nothing v w same so.0.1
  claim_answers claim.NoMemory so = made_nothing v w same so.1

  pub may_pass : (c : Claim S) → held_in says v.mine ≡ None → HasClaimed l v c w → MayPassTime l c w
  may_pass (claim.Job work flag) free so = (held_made says v.mine w.mine so.0.0 (said.Claimed work.job.part) so.0.1 so.0.2, so.1)
  may_pass claim.Nothing free so = (ap (λ (mine : List SessionItem). held_in says mine) so.0.1 ∙ free, so.1)
  may_pass claim.NoMemory free so = ap (λ (mine : List SessionItem). held_in says mine) so.1 ∙ free

-- where nothing was made, the same is held
pub still_held : {A X : Type 0} (r : Result A X) (v w : View SessionItem) → OnErr r (SeesOn v w)
    → OnErr r ((after : Option Part) × GoesOn says v (held_in says v.mine) w after)
still_held (Ok a) v w so = tt
still_held (Err e) v w so = (held_in says v.mine, stands says v w (held_in says v.mine) so.1)
