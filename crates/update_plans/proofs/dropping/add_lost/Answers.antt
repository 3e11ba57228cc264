use Rattle.update_plans.specs.Rows.{lost_of}
use Rattle.update_plans.proofs.Loops.{beside_more, beside_over}
use Rattle.update_plans.proofs.dropping.add_lost.Goals as goal

pub rows-preserved : goal.rows-preserved
rows-preserved c =
    beside_more lost_of c.args.rows.now c.args.now.now c.rows.place c.index-rows-place.result c.row_at.result _ _ _
    c.rows-test.true c.index-rows-place.is c.row_at.ensures c.in_ok-add_lost_of.ensures c.rows.invariant

pub returns : goal.returns
returns c = beside_over lost_of c.args.rows.now c.args.now.now c.rows.place _ _ c.rows-test.false c.rows.invariant
