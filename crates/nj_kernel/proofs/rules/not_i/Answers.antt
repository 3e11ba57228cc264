use Rattle.std.proofs.Common.{rules, ◌≡◌, map, ap, refl, sym, ◌∙◌}
use Rattle.nj_formula.specs.declared.formula.Formula.TheVariants as F
use Rattle.nj_formula.specs.Statement.{neg, falsity}
use Rattle.nj_formula.specs.Meaning.{meaning}
use Rattle.nj_formula.proofs.KnownMeaning.{meaning-False}
use Rattle.nj_kernel.specs.Sets.{members, Lists, ◌∖◌}
use Rattle.nj_kernel.specs.Theorem.{assumed, shown}
use Rattle.nj_kernel.specs.Nj as Nj
use Rattle.nj_kernel.proofs.DeriveLemmas.{along, by_one}
use Rattle.nj_kernel.proofs.MadeLemmas.{made_Not}
use Rattle.nj_kernel.proofs.rules.not_i.Goals as goal

pub derived-requires-clause-rule : goal.derived-requires-clause-rule
derived-requires-clause-rule c =
    let is : shown c.args.t.now ≡ falsity = sym c.concl.ensures ∙ (ap meaning c.in-False.is ∙ meaning-False) in
    let made : c.in_ok-concl-in-False.concl ≡ F.Not c.in_ok-copy-in-False.field-0 = search rules in
    let part : c.in_ok-copy-in-False.field-0 ≡ c.args.a.now = search rules in
    let says : meaning c.in_ok-concl-in-False.concl ≡ neg (meaning c.args.a.now) = made_Not _ made (ap meaning part) in
    let rest : Lists (map meaning c.in_ok-hyps-in-False.hyps) (members (assumed c.args.t.now) ∖ meaning c.args.a.now) = search rules in
    along refl (sym says) (by_one (Nj.not_i rest) (along refl is c.args.t.now.derivable))
