-- What comes of jobs that a session keeps.
use Rattle.std.proofs.Common.{ℕ, Option, ap}
use Rattle.std.specs.Option.{option_map}
use Rattle.language.specs.Lang.{Lang}
use Rattle.core_jobs.specs.Fits.{IsJobOf, IsDoneOf}
use Rattle.core_jobs.specs.Jobs.{JobContent}
use Rattle.core_jobs.specs.Runs.{done_by}
use Rattle.core_rules.specs.Settings.{Setting}
use Rattle.session_rules.specs.Session.{Session, document}
use Rattle.keeping_rules.specs.session_replies_below.Runs.{work_done}
use Rattle.keeping_rules.specs.session_replies_below.Works.{Work}
use Rattle.keeping_rules.specs.Works.{IsWorkOf, IsDoneWorkOf}

-- what comes of a job that a session keeps
pub done_of : {S : Type 0} (l : Lang S) (s : Session) → ((job : JobContent S) → IsJobOf l (document l s).homes job → IsDoneOf l (document l s).homes (done_by l job))
    → (who : ℕ) (work : Work S) → IsWorkOf l s who work → IsDoneWorkOf l s who (work_done l work)
done_of {S} l s law who work is = record {
  holds = is.holds;
  right = law work.job is.right;
  source = ap (λ (o : Option (Setting S)). option_map (λ x. x.source) o) is.right;
  protocol = is.protocol;
}
