-- The jobs that a session keeps stay right.
use Rattle.std.proofs.Common.{◌≡◌, ℕ, Option, Some, sym, ◌∙◌}
use Rattle.language.specs.Lang.{Lang}
use Rattle.core_rules.specs.Settings.{Setting, setting}
use Rattle.core_rules.specs.Standing.{held}
use Rattle.session_rules.specs.declared.service.Service.{Service}
use Rattle.session_rules.specs.Session.{Session, document}
use Rattle.session_replies.specs.Works.{Work}
use Rattle.keeping_rules.specs.Kept.{AreKeptJobs}
use Rattle.keeping_rules.specs.Works.{IsWorkOf}

module _ {S : Type 0} (l : Lang S) (s s' : Session) (protocol : s'.protocol ≡ s.protocol)
    (holds : (who : ℕ) → held s'.events who ≡ held s.events who)
    (stays : (e : ℕ) (x : Setting S) → setting l (document l s).homes e ≡ Some x → setting l (document l s').homes e ≡ Some x) where
  work_on : (who : ℕ) (work : Work S) → IsWorkOf l s who work → IsWorkOf l s' who work
  work_on who work is = record {
    holds = holds who ∙ is.holds;
    right = stays work.job.part.exec _ is.right;
    protocol = is.protocol ∙ sym protocol;
  }

  -- where what they work on stays, what is held, and how reports are told
  pub jobs_on : (service : Service) (jobs : ℕ → Option (Work S)) → AreKeptJobs l service s jobs → AreKeptJobs l service s' jobs
  jobs_on service jobs are = record {
    right = λ who work at. work_on who work (are.right who work at);
    all = λ who script worker none. holds who ∙ are.all who script worker none;
    only = are.only;
  }
