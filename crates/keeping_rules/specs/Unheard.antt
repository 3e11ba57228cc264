-- A session to which no message came (this project's own).
use Rattle.std.specs.Prelude.{◌≡◌, ℕ, [], None}
use Rattle.language.specs.Lang.{Lang}
use Rattle.core_rules.specs.Standing.{held}
use Rattle.session_rules.specs.Session.{Session, document}

-- there is nothing to work on, and nobody works
pub record IsUnheard {S : Type 0} (l : Lang S) (s : Session) : Type 0 where
  pub homes : (document l s).homes ≡ []
  pub idle : (who : ℕ) → held s.events who ≡ None
