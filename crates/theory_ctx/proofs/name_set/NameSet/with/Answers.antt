use Rattle.std.proofs.Common.{rules, ◌≡◌, ◌∙◌, ap}
use Rattle.theory_ctx.specs.NameSets.{has_name, with_name}
use Rattle.theory_ctx.proofs.KnownNames.{has_with_name}
use Rattle.theory_ctx.proofs.name_set.NameSet.with.Goals as goal

pub returns : goal.returns
returns c x =
    let made : c.add.new.self ≡ with_name c.args.name.now c.args.self.now = search rules in
    ap (λ names. has_name names x) made ∙ has_with_name x c.args.name.now c.args.self.now
