-- A job that is right stays right, and so is what comes of it.
use Rattle.std.proofs.Common.{◌≡◌, ◌≢◌, ℕ, Bool, true, false, List, [], ◌∷◌, reverse, Option, None, Some, option_map, refl, sym, ap, subst, ◌∙◌}
use mathlib.Core.List.{IsPrefix}
use Rattle.exec_rules.specs.declared.home.Home.{Home}
use Rattle.language.specs.Lang.{Lang}
use Rattle.core_rules.specs.Settings.{Setting, setting}
use Rattle.core_jobs.specs.Jobs.{setting_of}
use Rattle.core_jobs.specs.Runs.{done_in}
use Rattle.keeping_rules.specs.session_replies_below.Runs.{work_done}
use Rattle.keeping_rules.specs.session_replies_below.Works.{Work}
use Rattle.session_rules.specs.declared.service.Service.{Service}
use Rattle.session_rules.specs.declared.service.Service.TheVariants.{Workers}
use Rattle.keeping_rules.specs.Items.{SessionItem, session_in}
use Rattle.keeping_rules.specs.Legal.{AreLegal}
use Rattle.keeping_rules.specs.Unheard.{IsUnheard}
use Rattle.view_laws.specs.Callers.{service_of}
use Rattle.view_laws.specs.Histories.{IsLegalLog, session_after}
use Rattle.view_laws.specs.Works.{IsRightDone, IsRightWork, homes_after}
use Rattle.view_laws.proofs.Begins.{begins_reversed, legal_begins, same_workers}
use Rattle.view_laws.proofs.Works.{GoesOn, StaysLaw, items_go}

module _ {S : Type 0} (l : Lang S) where
  -- while no message came nothing is made
  abbrev pub UnheardLaw : Type 0
  UnheardLaw = (service : Service) (items : List SessionItem) → AreLegal l service items
      → (session_in l service items).called ≡ false → IsUnheard l (session_in l service items)

  unmade : (homes : List Home) (e : ℕ) (t : Setting S) → homes ≡ [] → setting l homes e ≡ Some t → ⊥
  unmade homes e t none is = let no : ◌≡◌ {A = Option (Setting S)} None (Some t) = subst (λ (hs : List Home). setting l hs e ≡ Some t) none is in absurd (cc)

  module _ (stays : StaysLaw l) (unheard : UnheardLaw) where
    heard_some : (log : List SessionItem) (e : ℕ) (t : Setting S) → IsLegalLog l log → setting l (homes_after l log) e ≡ Some t
        → (session_after l log).called ≡ true
    heard_some log e t are is = go (session_after l log).called refl
      where
        go : (b : Bool) → (session_after l log).called ≡ b → b ≡ true
        go true came = refl
        go false came = absurd (unmade (homes_after l log) e t (unheard (service_of log) (reverse log) are came).homes is)

    goes_log : (seen log : List SessionItem) → seen ≢ [] → IsPrefix seen log → GoesOn l (session_after l seen) (session_after l log)
    goes_log seen log some p =
        subst (λ n. GoesOn l (session_after l seen) (session_in l (Workers n) (reverse log))) (sym (same_workers seen log some p))
        (subst (λ items. GoesOn l (session_after l seen) (session_in l (service_of seen) items)) (sym (begins_reversed seen log p))
        (items_go l stays (service_of seen) (reverse p.0) (reverse seen)))

    pub work_stays : (seen log : List SessionItem) (work : Work S) → IsPrefix seen log → IsLegalLog l log → IsRightWork l seen work → IsRightWork l log work
    work_stays [] log work p are right = absurd (unmade [] work.job.part.exec (setting_of l work.job) refl right.right)
    work_stays (x ∷ seen) log work p are right =
        let some : (x ∷ seen) ≢ [] = λ e. absurd (let no : ⊥ = cc in no) in
        let goes = goes_log (x ∷ seen) log some p in
        let came = heard_some (x ∷ seen) work.job.part.exec (setting_of l work.job) (legal_begins l (x ∷ seen) log some p are) right.right in
        record {
          right = goes.works work.job.part.exec (setting_of l work.job) right.right;
          protocol = right.protocol ∙ sym (goes.protocol came);
        }

  pub done_right : (log : List SessionItem) (work : Work S) → IsRightWork l log work → IsRightDone l log (work_done l work)
  done_right log work right = record {
    right = ap (option_map (done_in l work.job.part)) right.right;
    source = ap (option_map (λ (s : Setting S). s.source)) right.right;
    protocol = right.protocol;
  }
