-- An editor that follows a history sees what the session shows.
use Rattle.std.proofs.Common.{◌≡◌, List, ◌++◌, None, ap, ◌∙◌}
use Rattle.language.specs.Lang.{Lang}
use Rattle.session_rules.specs.declared.entry.Entry.{Entry}
use Rattle.session_rules.specs.declared.service.Service.{Service}
use Rattle.session_rules.specs.declared.service.Service.TheVariants.{Script}
use Rattle.session_rules.specs.Alone.{IsAlone}
use Rattle.session_rules.specs.Heard.{all_heard}
use Rattle.session_rules.specs.History.{session}
use Rattle.session_rules.specs.Legal.{IsLegal}
use Rattle.session_rules.proofs.KnownNamed.{AskedLaw}
use Rattle.mirror_rules.specs.Answers.{Read}
use Rattle.mirror_rules.specs.Moves.{Move}
use Rattle.mirror_rules.specs.Telling.{IsTold}
use Rattle.editor_laws.specs.Follows.{Follows}
use Rattle.editor_laws.specs.Shown.{SeesSo, WaitsSo}
use Rattle.editor_laws.proofs.Facts.{Facts}
use Rattle.editor_laws.proofs.Following.{Reached, follow}
use Rattle.editor_laws.proofs.Outcomes.{step_called}
use Rattle.editor_laws.proofs.ReportLaws.{Laws}
use Rattle.editor_laws.proofs.Seeing.{all_seen}

pub sees_so : {S : Type 0} (l : Lang S) → Laws → IsTold l → Facts l → AskedLaw → (service : Service) (ahead h : List Entry) (sent : List Read) (moves : List Move)
    → IsLegal l service (all_heard service h) → (service ≡ Script → IsAlone l service None (all_heard service (ahead ++ h)))
    → Follows l service ahead h sent moves → SeesSo l service h moves
sees_so l laws is_told facts law service ahead h sent moves legal alone follows =
    let r : Reached l laws is_told facts law service h sent moves = follow l laws is_told facts law service ahead h sent moves legal alone follows in
    record {
      mirror = r.mirror;
      going = r.going;
      sees = λ version name edits. all_seen l laws is_told facts (session l service (all_heard service h)) r.mirror
          (facts.legal service (all_heard service h) legal) r.is name edits version;
    }

pub waits_so : {S : Type 0} (l : Lang S) → Laws → IsTold l → Facts l → AskedLaw → (service : Service) (ahead h : List Entry) (sent : List Read) (moves : List Move)
    → IsLegal l service (all_heard service h) → (service ≡ Script → IsAlone l service None (all_heard service (ahead ++ h)))
    → Follows l service ahead h sent moves → WaitsSo l service h sent moves
waits_so l laws is_told facts law service ahead h sent moves legal alone follows =
    let r : Reached l laws is_told facts law service h sent moves = follow l laws is_told facts law service ahead h sent moves legal alone follows in
    record {
      mirror = r.mirror;
      going = r.going;
      waits = λ none. r.waits ∙ ap (λ d. step_called d ++ sent) none;
    }
