-- A body that is spelled is normal, and the only one.
use Rattle.std.proofs.lemmas.Result.{IfOk-weaker}
use Rattle.yxml.proofs.Spelled.{normal_from_spells, read_as}
use Rattle.yxml.proofs.reading.parse_body.Goals as goal

pub returns-clause-normal : goal.returns-clause-normal
returns-clause-normal c = IfOk-weaker c.read_all.result _ _ (normal_from_spells c.args.text.now) c.read_all.ensures.spells

pub returns-clause-exact : goal.returns-clause-exact
returns-clause-exact c = read_as c.args.text.now c.read_all.result c.read_all.ensures.spells c.read_all.ensures.fault
