-- What was tried is what the rules try.
use Rattle.std.specs.Option.{option_copied}
use Rattle.isar_rules.specs.Steps.{tried}
use Rattle.toplevel.proofs.stepping.step_of.Goals as goal

pub returns : goal.returns
returns c = c.made_by.ensures
    (tried (option_copied c.args.blob) c.args.before.now.place c.args.shape)
    c.tried-ended.ensures
