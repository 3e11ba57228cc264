use Rattle.std.proofs.Common.{rules, ◌≡◌, IsTrue, ap, refl, sym, ◌∙◌}
use Rattle.nj_formula.specs.Statement.{exists}
use Rattle.nj_formula.specs.Meaning.{meaning}
use Rattle.nj_formula.specs.Instance.{instance}
use Rattle.nj_formula.specs.Closed.{is_closed}
use Rattle.nj_formula.proofs.KnownMeaning.{meaning-Exists}
use Rattle.nj_kernel.specs.Theorem.{shown}
use Rattle.nj_kernel.specs.Nj as Nj
use Rattle.nj_kernel.proofs.DeriveLemmas.{along, by_one}
use Rattle.nj_kernel.proofs.quantifiers.ex_i.Goals as goal

pub also_copied-requires : goal.also_copied-requires
also_copied-requires c =
    let is : meaning c.args.target.now ≡ exists (meaning c.in-Exists.body) = ap meaning c.in-Exists.is ∙ meaning-Exists _ _ in
    let fits : shown c.args.t.now ≡ instance c.args.s.now (meaning c.in-Exists.body) = search rules in
    let closed : IsTrue (is_closed c.args.s.now) = search rules in
    along refl (sym is) (by_one (Nj.ex_i c.args.s.now closed) (along refl fits c.args.t.now.derivable))
