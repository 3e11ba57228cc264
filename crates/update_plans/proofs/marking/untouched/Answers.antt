use Rattle.std.proofs.Common.{ap, arith, length, ◌∙◌}
use Rattle.std.proofs.lemmas.List.{length_push}
use Rattle.update_plans.proofs.AliveAre.{tells_more, all_told, untouched_are}
use Rattle.update_plans.proofs.marking.untouched.Goals as goal

pub nodes-preserved : goal.nodes-preserved
nodes-preserved g c = record {
  long = ap length c.in_ok-push.ensures.items ∙ length_push c.nodes.all.items c.is_untouched.result ∙ omega (arith, c.nodes.invariant.long);
  tells = tells_more c.args.execs.now.rows c.args.before.now c.args.nodes.now c.args.marks.now c.nodes.place c.is_untouched.result c.nodes.all.items _
      c.nodes.invariant.long c.in_ok-push.ensures.items c.is_untouched.ensures c.nodes.invariant.tells;
}

pub returns-clause-marks : goal.returns-clause-marks
returns-clause-marks g c =
    all_told c.args.execs.now.rows c.args.before.now c.args.nodes.now c.args.marks.now c.nodes.place c.nodes.all.items
    (omega (arith, c.nodes-test.false, c.len-place-end.ensures)) c.nodes.invariant.tells

pub returns-clause-untouched : goal.returns-clause-untouched
returns-clause-untouched g c = λ blobs.
    untouched_are c.args.execs.now.rows c.args.before.now c.args.nodes.now blobs c.args.marks.now c.nodes.all.items c.requires.commands
    (all_told c.args.execs.now.rows c.args.before.now c.args.nodes.now c.args.marks.now c.nodes.place c.nodes.all.items
    (omega (arith, c.nodes-test.false, c.len-place-end.ensures)) c.nodes.invariant.tells)
