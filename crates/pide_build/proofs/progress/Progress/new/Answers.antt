-- Nothing is kept where nothing is done.
use Rattle.std.proofs.Common.{rules, ◌≡◌, ◌++◌, ◌∷◌, [], None, arith}
use Rattle.pide_build.proofs.Nothing.{one_more}
use Rattle.pide_build.proofs.progress.Progress.new.Goals as goal

pub nodes-preserved : goal.nodes-preserved
nodes-preserved g c =
    let inv = c.nodes.invariant in
    let behind = one_more c.nodes.behind.items c.push.new.self.items c.nodes.counter (search rules) inv.0 inv.2 in
    let told = one_more c.nodes.told.items c.push-in-nodes.new.self.items c.nodes.counter (search rules) inv.1 inv.3 in
    (behind.0, told.0, behind.1, told.1)

pub returns : goal.returns
returns g c = λ l told nodes count.
    let inv = c.nodes.invariant in
    record { behind = inv.2; told_is = inv.3; states = omega arith; tellings = omega arith }
