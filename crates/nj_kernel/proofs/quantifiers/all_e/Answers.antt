use Rattle.std.proofs.Common.{◌≡◌, ap, refl, sym, ◌∙◌}
use Rattle.nj_formula.specs.Statement.{every}
use Rattle.nj_formula.specs.Meaning.{meaning}
use Rattle.nj_formula.specs.Instance.{instance}
use Rattle.nj_formula.proofs.KnownMeaning.{meaning-All}
use Rattle.nj_kernel.specs.Theorem.{shown}
use Rattle.nj_kernel.specs.Nj as Nj
use Rattle.nj_kernel.proofs.DeriveLemmas.{along, by_one}
use Rattle.nj_kernel.proofs.quantifiers.all_e.Goals as goal

pub also-requires : goal.also-requires
also-requires c =
    let is : shown c.args.t.now ≡ every (meaning c.in-All.body) = sym c.concl.ensures ∙ (ap meaning c.in-All.is ∙ meaning-All _ _) in
    let at = c.in_ok-at_s-in-All.ensures.says ∙ ap (λ body. instance c.args.s.now (meaning body)) c.get.ensures in
    along refl (sym at) (by_one (Nj.all_e c.args.s.now (meaning c.in-All.body) c.in_ok-at_s-in-All.ensures.closed) (along refl is c.args.t.now.derivable))
