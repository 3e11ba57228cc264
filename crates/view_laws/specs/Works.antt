-- Jobs, and what comes of them, whoever works on them (this project's own).
use Rattle.std.specs.Prelude.{◌≡◌, List, Some}
use Rattle.std.specs.Option.{option_map}
use Rattle.exec_rules.specs.declared.home.Home.{Home}
use Rattle.language.specs.Lang.{Lang}
use Rattle.core_jobs.specs.Fits.{IsJobOf, IsDoneOf}
use Rattle.core_rules.specs.Settings.{setting}
use Rattle.session_rules.specs.Session.{document}
use Rattle.keeping_rules.specs.session_replies_below.Works.{Work, WorkDone}
use Rattle.keeping_rules.specs.Items.{SessionItem}
use Rattle.view_laws.specs.Histories.{session_after}

module _ {S : Type 0} (l : Lang S) (log : List SessionItem) where
  -- what executions go by after the list
  abbrev pub homes_after : List Home
  homes_after = (document l (session_after l log)).homes

  -- the job works on what its part's execution works on, and tells reports as the session does
  pub record IsRightWork (work : Work S) : Type 0 where
    pub right : IsJobOf l homes_after work.job
    pub protocol : work.protocol ≡ (session_after l log).protocol

  -- it is what comes of such a job
  pub record IsRightDone (work : WorkDone S) : Type 0 where
    pub right : IsDoneOf l homes_after work.done
    pub source : option_map (λ setting. setting.source)
        (setting l homes_after work.done.part.exec) ≡ Some work.source
    pub protocol : work.protocol ≡ (session_after l log).protocol
