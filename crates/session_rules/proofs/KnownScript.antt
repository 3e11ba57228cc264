-- Who may call for steps.
use Rattle.std.proofs.Common.{◌≡◌, Some, refl}
use Rattle.message_values.specs.declared.function.Function.TheVariants as function
use Rattle.message_values.specs.Functions.{word, function_named}
use Rattle.session_rules.specs.declared.service.Service.{Service}
use Rattle.session_rules.specs.declared.service.Service.TheVariants.{Workers, Script}
use Rattle.session_rules.specs.Services.{mode_of}

-- messages that call for a step have no function where workers work as they find parts ready
pub script_claims : (service : Service) → function_named (mode_of service) (word function.Claim) ≡ Some function.Claim → service ≡ Script
script_claims Script is = refl
script_claims (Workers count) is = absurd (cc)

pub script_finishes : (service : Service) → function_named (mode_of service) (word function.Finish) ≡ Some function.Finish → service ≡ Script
script_finishes Script is = refl
script_finishes (Workers count) is = absurd (cc)
