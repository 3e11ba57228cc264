-- Whole runs of one thread (this project's own).
use Rattle.std.specs.Prelude.{◌≡◌, ℕ, List, [], ◌∷◌, None}
use Rattle.language.specs.Lang.{Lang}
use Rattle.session_rules.specs.declared.entry.Entry.{Entry}
use Rattle.session_rules.specs.declared.entry.Entry.TheVariants as entry
use Rattle.session_rules.specs.declared.service.Service.{Service}
use Rattle.session_rules.specs.Heard.{all_heard}
use Rattle.session_rules.specs.Legal.{IsLegal}
use Rattle.session_rules.specs.Alone.{IsAlone}

-- the messages of a history's calls, the newest first
abbrev pub called : List Entry → List (List (List ℕ))
called [] = []
called (entry.Call message ∷ h) = message ∷ called h
called (other ∷ h) = called h

-- one thread made these entries, and the session ended
pub record IsWholeRun {S : Type 0} (l : Lang S) (service : Service) (h : List Entry) : Type 0 where
  pub before : List Entry
  pub ended : h ≡ entry.Ended ∷ before
  pub legal : IsLegal l service (all_heard service h)
  pub alone : IsAlone l service None (all_heard service h)
