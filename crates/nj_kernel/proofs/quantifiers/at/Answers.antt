use Rattle.std.proofs.Common.{rules, ◌≡◌, ap, ◌∙◌}
use Rattle.nj_formula.specs.Meaning.{meaning}
use Rattle.nj_formula.specs.FormulaInstance.{formula_instance}
use Rattle.nj_formula.proofs.KnownInstance.{instance_says}
use Rattle.nj_kernel.proofs.quantifiers.at.Goals as goal

pub returns-clause-says : goal.returns-clause-says
returns-clause-says c =
    let exact : c.in_ok-at_s.at_s ≡ formula_instance c.args.s.now c.args.body.now = search rules in
    ap meaning exact ∙ instance_says c.args.s.now c.args.body.now
