use Rattle.std.proofs.Common.{rules, ◌≡◌, false, ap, refl, sym, ◌∙◌}
use Rattle.nj_formula.specs.declared.argument.Argument.TheVariants.{Free}
use Rattle.nj_formula.specs.Statement.{every}
use Rattle.nj_formula.specs.Meaning.{meaning}
use Rattle.nj_formula.specs.Instance.{instance}
use Rattle.nj_formula.specs.Free.{is_free}
use Rattle.nj_formula.proofs.KnownMeaning.{meaning-All}
use Rattle.nj_kernel.specs.Sets.{members, IsFreshIn}
use Rattle.nj_kernel.specs.Theorem.{assumed, shown}
use Rattle.nj_kernel.specs.Nj as Nj
use Rattle.nj_kernel.proofs.DeriveLemmas.{along, by_one}
use Rattle.nj_kernel.proofs.quantifiers.all_i.Goals as goal

pub also_copied-requires : goal.also_copied-requires
also_copied-requires c =
    let is : meaning c.args.target.now ≡ every (meaning c.in-All.body) = ap meaning c.in-All.is ∙ meaning-All _ _ in
    let fits : shown c.args.t.now ≡ instance (Free c.args.x.now) (meaning c.in-All.body) = search rules in
    let absent : is_free c.args.x.now (meaning c.args.target.now) ≡ false = search rules in
    let fresh : IsFreshIn c.args.x.now (members (assumed c.args.t.now)) = search rules in
    along refl (sym is) (by_one (Nj.all_i c.args.x.now (ap (is_free c.args.x.now) (sym is) ∙ absent) fresh) (along refl fits c.args.t.now.derivable))
