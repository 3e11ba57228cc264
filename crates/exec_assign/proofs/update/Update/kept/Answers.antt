use Rattle.std.proofs.Common.{◌<◌, length, sym, ◌∙◌, arith}
use Rattle.exec_rules.specs.Assigning.{times}
use Rattle.exec_assign.proofs.KeptLemmas.{keeps_within, kept_more, kept_is, kept_rows}
use Rattle.exec_assign.proofs.update.Update.kept.Goals as goal

pub front-preserved : goal.front-preserved
front-preserved g c =
    let t = times c.args.self.now in
    let here = sym c.keeps_at.ensures ∙ c.front-test.true in
    let within : c.front.count < length c.args.now.now = keeps_within t c.args.now.now c.args.before.now c.args.rows.now c.front.count here in
    record {
      within = omega arith;
      all = kept_more t c.args.now.now c.args.before.now c.args.rows.now c.front.count c.front.invariant.all here;
    }

pub returns-clause-count : goal.returns-clause-count
returns-clause-count g c =
    let t = times c.args.self.now in
    kept_is t c.args.now.now c.args.before.now c.args.rows.now c.front.count
    (c.kept_law.ensures.all t c.args.now.now c.args.before.now c.args.rows.now)
    (c.kept_law.ensures.greatest t c.args.now.now c.args.before.now c.args.rows.now c.front.count)
    c.front.invariant.all (sym c.keeps_at.ensures ∙ c.front-test.false)

pub returns-clause-rows : goal.returns-clause-rows
returns-clause-rows g c = kept_rows (times c.args.self.now) c.args.now.now c.args.before.now c.args.rows.now c.front.count c.front.invariant.all
