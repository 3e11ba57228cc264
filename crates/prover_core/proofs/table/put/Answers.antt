use Rattle.std.proofs.Common.{ap, ◌∙◌, arith}
use Rattle.prover_core.specs.Looked.{looked}
use Rattle.prover_core.proofs.HeldTasks.{counted_new}
use Rattle.prover_core.proofs.table.put.Goals as goal

pub returns-clause-len : goal.returns-clause-len
returns-clause-len g c =
    let none = counted_new _ (c.in-Ok.ensures.old ∙ ap (λ n. looked c.args.table.now n) c.from.ensures ∙ c.requires.new) in
    omega (arith, none, c.in-Ok.ensures.len)
