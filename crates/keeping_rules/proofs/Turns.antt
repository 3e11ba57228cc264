-- The jobs that a session keeps, where a worker takes a part or ends it.
use Rattle.std.proofs.Common.{◌≡◌, ℕ, ◌≤◌, Bool, true, false, cond, Option, Some, None, refl, sym, ap, subst, ◌∙◌, arith}
use Rattle.std.proofs.lemmas.Bool.{eqb-true}
use Rattle.std.specs.Prelude.{◌==◌}
use Rattle.pide_base.specs.declared.part.Part.{Part}
use Rattle.language.specs.Lang.{Lang}
use Rattle.core_rules.specs.declared.event.Event.TheVariants as event
use Rattle.core_rules.specs.Standing.{held, held_by}
use Rattle.core_jobs.specs.Fits.{IsJobOf}
use Rattle.message_values.specs.Workers.{IsWorker}
use Rattle.session_rules.specs.declared.service.Service.{Service}
use Rattle.session_rules.specs.declared.service.Service.TheVariants.{Script}
use Rattle.session_rules.specs.Services.{free_workers}
use Rattle.session_rules.specs.Session.{Session, document}
use Rattle.session_replies.specs.Works.{Work}
use Rattle.keeping_rules.specs.Kept.{AreKeptJobs}
use Rattle.keeping_rules.specs.Workers.{AreOthers}
use Rattle.keeping_rules.specs.Works.{IsWorkOf}

-- a worker that works as it finds parts ready is none that messages name
pub none_named : (service : Service) (who : ℕ) → who ≤ free_workers service → service ≡ Script → IsWorker who → ⊥
none_named service who free script worker =
    let none : free_workers service ≡ 0 = ap free_workers script in
    let one : 1 ≤ who = worker.0 in absurd (omega (arith, free, none, one))

module _ {S : Type 0} (l : Lang S) (service : Service) (s s' : Session) (jobs now : ℕ → Option (Work S)) (are : AreKeptJobs l service s jobs)
    (who : ℕ) (protocol : s'.protocol ≡ s.protocol) (same : (document l s').homes ≡ (document l s).homes)
    (others : AreOthers who jobs now) (holds : (w : ℕ) → (who == w) ≡ false → held s'.events w ≡ held s.events w) where
  work_on : (w : ℕ) (work : Work S) → (who == w) ≡ false → now w ≡ Some work → IsWorkOf l s' w work
  work_on w work e at =
      let is = are.right w work (sym (others w e) ∙ at) in
      record {
        holds = holds w e ∙ is.holds;
        right = subst (λ hs. IsJobOf l hs work.job) (sym same) is.right;
        protocol = is.protocol ∙ sym protocol;
      }

  -- the worker holds a part with this job, if messages name it
  pub jobs_taken : ((work : Work S) → now who ≡ Some work → IsWorkOf l s' who work × (service ≡ Script) × IsWorker who)
      → (service ≡ Script → IsWorker who → now who ≡ None → held s'.events who ≡ None) → AreKeptJobs l service s' now
  jobs_taken taken none = record {
    right = λ w work at. right w work at (who == w) refl;
    all = λ w script worker at. all w script worker at (who == w) refl;
    only = λ w work at. only w work at (who == w) refl;
  }
    where
      right : (w : ℕ) (work : Work S) → now w ≡ Some work → (b : Bool) → (who == w) ≡ b → IsWorkOf l s' w work
      right w work at true e = subst (λ v. IsWorkOf l s' v work) (eqb-true who w e)
          (taken work (ap now (eqb-true who w e) ∙ at)).0
      right w work at false e = work_on w work e at

      all : (w : ℕ) → service ≡ Script → IsWorker w → now w ≡ None → (b : Bool) → (who == w) ≡ b → held s'.events w ≡ None
      all w script worker at true e = subst (λ v. held s'.events v ≡ None) (eqb-true who w e)
          (none script (subst IsWorker (sym (eqb-true who w e)) worker) (ap now (eqb-true who w e) ∙ at))
      all w script worker at false e = holds w e ∙ are.all w script worker (sym (others w e) ∙ at)

      only : (w : ℕ) (work : Work S) → now w ≡ Some work → (b : Bool) → (who == w) ≡ b → (service ≡ Script) × IsWorker w
      only w work at true e =
          let is = taken work (ap now (eqb-true who w e) ∙ at) in (is.1, subst IsWorker (eqb-true who w e) is.2)
      only w work at false e = are.only w work (sym (others w e) ∙ at)

-- an event of a worker is none of the others'
pub claimed_others : (who w : ℕ) (p : Part) (o : Option Part) → (who == w) ≡ false → held_by (event.Claimed who p) w o ≡ o
claimed_others who w p o e = ap (λ b. cond b (Some p) o) e

pub finished_others : (who w : ℕ) (p : Part) (o : Option Part) → (who == w) ≡ false → held_by (event.Finished who p) w o ≡ o
finished_others who w p o e = ap (λ b. cond b None o) e

pub dropped_others : (who w : ℕ) (p : Part) (o : Option Part) → (who == w) ≡ false → held_by (event.Dropped who p) w o ≡ o
dropped_others who w p o e = ap (λ b. cond b None o) e
