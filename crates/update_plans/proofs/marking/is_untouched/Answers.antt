use Rattle.std.proofs.Common.{◌≡◌, true, rules}
use Rattle.doc_nodes.specs.Looks.{marked}
use Rattle.update_plans.proofs.AliveAre.{quiet_marked}
use Rattle.update_plans.proofs.marking.is_untouched.Goals as goal

pub returns-then-quiet : goal.returns-then-quiet
returns-then-quiet g c = λ pair at.
    let is : marked c.args.marks.now c.args.place ≡ true = search rules in
    quiet_marked c.args.execs.now.rows c.args.before.now pair.0 (marked c.args.marks.now c.args.place) is (c.requires c.if-quiet.true)
