use Rattle.nj_syntax.proofs.KnownInstances.{instance_spellable}
use Rattle.nj_syntax.proofs.print_law.instances_are_spellable.Goals as goal

pub returns : goal.returns
returns c = instance_spellable
