-- A call that is to fail does so whatever room is left.
use Rattle.std.proofs.Common.{rules, ◌≡◌, true}
use Rattle.pide_io.proofs.Decided.{contradiction}
use Rattle.pide_io.specs.Memory.{is_to_fail}
use Rattle.pide_io.proofs.mem_sink.MemSinkSink.push.Goals as goal

pub returns-then-contains-clause-exact : goal.returns-then-contains-clause-exact
returns-then-contains-clause-exact c =
    let hit : is_to_fail c.args.self.now.calls c.args.self.now.fails ≡ true = search rules in
    (λ quiet. contradiction hit quiet, search rules)
