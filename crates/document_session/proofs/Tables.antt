-- The jobs of workers whom messages name, as tables change.
use Rattle.std.proofs.Common.{◌≡◌, ℕ, Bool, true, false, Option, Some, None, refl, sym, ap, ◌∙◌, eq-eqb}
use Rattle.std.proofs.lemmas.Bool.{eqb-true}
use Rattle.std.specs.Prelude.{◌==◌, if◌then◌else◌}
use Rattle.language.specs.Lang.{Lang}
use Rattle.core_rules.specs.Standing.{held}
use Rattle.reply_outbox.specs.Waiting.{Log}
use Rattle.session_rules.specs.declared.entry.Entry.{Entry}
use Rattle.session_rules.specs.declared.service.Service.{Service}
use Rattle.session_rules.specs.Session.{Session}
use Rattle.keeping_rules.specs.session_replies_below.Works.{Work}
use Rattle.keeping_rules.specs.Kept.{AreKeptJobs, IsKept}

module _ {S : Type 0} (l : Lang S) (service : Service) (s : Session) (jobs : ℕ → Option (Work S)) (are : AreKeptJobs l service s jobs) where
  -- a worker that holds nothing has no job
  pub no_job : (who : ℕ) → held s.events who ≡ None → jobs who ≡ None
  no_job who idle = go (jobs who) refl
    where
      go : (o : Option (Work S)) → jobs who ≡ o → o ≡ None
      go None at = refl
      go (Some work) at = let holds : held s.events who ≡ Some work.job.part = (are.right who work at).holds in absurd (cc)

  -- another table that has the same
  pub same_jobs : (now : ℕ → Option (Work S)) → ((w : ℕ) → now w ≡ jobs w) → AreKeptJobs l service s now
  same_jobs now same = record {
    right = λ who work at. are.right who work (sym (same who) ∙ at);
    all = λ who script worker none. are.all who script worker (sym (same who) ∙ none);
    only = λ who work at. are.only who work (sym (same who) ∙ at);
  }

pub table_kept : {S : Type 0} (l : Lang S) (service : Service) (log : Log Service Entry) (s : Session) (last holding : ℕ)
    (jobs now : ℕ → Option (Work S)) → IsKept l service log s last holding jobs → ((w : ℕ) → now w ≡ jobs w)
    → IsKept l service log s last holding now
table_kept l service log s last holding jobs now k same = record {
  listed = k.listed;
  at_rest = k.at_rest;
  last_is = k.last_is;
  workers = k.workers;
  jobs_are = same_jobs l service s jobs k.jobs_are now same;
  holders_are = k.holders_are;
  blobs_are = k.blobs_are;
  room = k.room;
}

-- nothing was taken out where there was nothing
pub none_taken : {A : Type 0} (who : ℕ) (old new : ℕ → Option A) → old who ≡ None
    → ((w : ℕ) → new w ≡ (if who == w then None else old w)) → (w : ℕ) → new w ≡ old w
none_taken who old new none is w = go (who == w) refl (is w)
  where
    go : (b : Bool) → (who == w) ≡ b → new w ≡ (if b then None else old w) → new w ≡ old w
    go true same at = at ∙ sym none ∙ ap old (eqb-true who w same)
    go false same at = at

-- what was taken out was put back
pub put_back : {A : Type 0} (who : ℕ) (thing : A) (old mid new : ℕ → Option A) → old who ≡ Some thing
    → ((w : ℕ) → mid w ≡ (if who == w then None else old w)) → ((w : ℕ) → new w ≡ (if who == w then Some thing else mid w))
    → (w : ℕ) → new w ≡ old w
put_back {A} who thing old mid new there out back w = go (who == w) refl (back w) (out w)
  where
    go : (b : Bool) → (who == w) ≡ b → new w ≡ (if b then Some thing else mid w) → mid w ≡ (if b then None else old w) → new w ≡ old w
    go true same at gone = at ∙ sym there ∙ ap old (eqb-true who w same)
    go false same at gone = at ∙ gone

-- of the worker itself, and of the others
pub at_itself : {A : Type 0} (who : ℕ) (o : Option A) (old new : ℕ → Option A) → ((w : ℕ) → new w ≡ (if who == w then o else old w)) → new who ≡ o
at_itself who o old new is = is who ∙ ap (λ (b : Bool). if b then o else old who) (eq-eqb who who refl)

pub at_others : {A : Type 0} (who : ℕ) (o : Option A) (old new : ℕ → Option A) → ((w : ℕ) → new w ≡ (if who == w then o else old w))
    → (w : ℕ) → (who == w) ≡ false → new w ≡ old w
at_others who o old new is w apart = is w ∙ ap (λ (b : Bool). if b then o else old w) apart
