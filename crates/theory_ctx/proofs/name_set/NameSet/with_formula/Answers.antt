use Rattle.std.proofs.Common.{rules, ◌≡◌, ◌∙◌, ap}
use Rattle.nj_formula.specs.Meaning.{meaning}
use Rattle.theory_ctx.specs.NameSets.{has_name, with_free}
use Rattle.theory_ctx.proofs.KnownNames.{has_with_free}
use Rattle.theory_ctx.proofs.name_set.NameSet.with_formula.Goals as goal

pub returns : goal.returns
returns c x =
    let made : c.add_formula.new.set ≡ with_free (meaning c.args.formula.now) c.args.self.now = search rules in
    ap (λ names. has_name names x) made ∙ has_with_free x (meaning c.args.formula.now) c.args.self.now
