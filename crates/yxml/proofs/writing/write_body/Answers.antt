-- What is written for a normal body spells it.
use Rattle.std.proofs.Common.{◌≡◌, string_bytes, rules, subst, sym}
use Rattle.yxml.specs.Spelling.{yxml, Spells}
use Rattle.yxml.proofs.Written.{written}
use Rattle.yxml.proofs.writing.write_body.Goals as goal

pub returns-clause-spells : goal.returns-clause-spells
returns-clause-spells c =
    let whole : string_bytes c.write_trees.new.out ≡ yxml c.args.body.now = search rules in
    subst (λ text. Spells text c.args.body.now) (sym whole) (written c.args.body.now c.requires)
