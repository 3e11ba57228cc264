-- Jobs of a session (this project's own).
use Rattle.std.specs.Prelude.{◌≡◌, ℕ, Some}
use Rattle.std.specs.Option.{option_map}
use Rattle.language.specs.Lang.{Lang}
use Rattle.core_jobs.specs.Fits.{IsJobOf, IsDoneOf}
use Rattle.core_rules.specs.Settings.{setting}
use Rattle.core_rules.specs.Standing.{held}
use Rattle.session_rules.specs.Session.{Session, document}
use Rattle.session_replies.specs.Works.{Work, WorkDone}

-- the worker holds the job's part; the job works on what the part's execution works on, and tells
-- reports as the session does
pub record IsWorkOf {S : Type 0} (l : Lang S) (s : Session) (who : ℕ) (work : Work S) : Type 0 where
  pub holds : held s.events who ≡ Some work.job.part
  pub right : IsJobOf l (document l s).homes work.job
  pub protocol : work.protocol ≡ s.protocol

-- what came of such a job
pub record IsDoneWorkOf {S : Type 0} (l : Lang S) (s : Session) (who : ℕ) (work : WorkDone S)
    : Type 0 where
  pub holds : held s.events who ≡ Some work.done.part
  pub right : IsDoneOf l (document l s).homes work.done
  pub source : option_map (λ setting. setting.source)
      (setting l (document l s).homes work.done.part.exec) ≡ Some work.source
  pub protocol : work.protocol ≡ s.protocol
