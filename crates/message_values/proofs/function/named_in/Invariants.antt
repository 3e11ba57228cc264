-- Among the functions that are left the same is found as among all.
use Rattle.std.proofs.Common.{◌≡◌, drop}
use Rattle.message_values.specs.Functions.{named_in}
use Rattle.message_values.proofs.function.named_in.Given as goal

abbrev pub invariant-functions : goal.invariant-functions
invariant-functions l = named_in (drop l.function-index l.functions) l.name ≡ named_in l.functions l.name
