-- Whether all has ended (this project's own).
use Rattle.std.specs.Prelude.{◌≡◌, true, false, List}
use Rattle.language.specs.Lang.{Lang}
use Rattle.core_rules.specs.Standing.{has_ended}
use Rattle.document_session.specs.keeping_rules_below.Items.{SessionItem}
use Rattle.view_laws.specs.Histories.{session_after}

module _ {S : Type 0} (l : Lang S) (log : List SessionItem) where
  -- all has ended
  abbrev pub HasEnded : Type 0
  HasEnded = has_ended (session_after l log).events ≡ true

  -- it has not
  abbrev pub IsGoing : Type 0
  IsGoing = has_ended (session_after l log).events ≡ false
