-- What is due after messages that call for no step.
use Rattle.std.proofs.Common.{◌≡◌, Result, Ok, Err, refl}
use Rattle.message_values.specs.declared.refusal.Refusal.{Refusal}
use Rattle.session_rules.specs.Session.{Session}
use Rattle.session_rules.specs.Steps.{Nothing, due_by}

-- they call for none, refused or not
pub nothing_due : (r : Result Session Refusal) → due_by r Nothing ≡ Nothing
nothing_due (Ok after) = refl
nothing_due (Err reason) = refl
