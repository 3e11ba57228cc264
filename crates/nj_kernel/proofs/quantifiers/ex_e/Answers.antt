use Rattle.std.proofs.Common.{rules, ◌≡◌, false, map, ap, refl, sym, ◌∙◌}
use Rattle.nj_formula.specs.declared.argument.Argument.TheVariants.{Free}
use Rattle.nj_formula.specs.Statement.{exists}
use Rattle.nj_formula.specs.Meaning.{meaning}
use Rattle.nj_formula.specs.Instance.{instance}
use Rattle.nj_formula.specs.Free.{is_free}
use Rattle.nj_formula.proofs.KnownMeaning.{meaning-Exists}
use Rattle.nj_kernel.specs.Sets.{members, Lists, ◌∖◌, IsFreshIn}
use Rattle.nj_kernel.specs.Theorem.{assumed, shown}
use Rattle.nj_kernel.specs.Nj as Nj
use Rattle.nj_kernel.proofs.SetsLemmas.{Lists-same, Lists-either}
use Rattle.nj_kernel.proofs.DeriveLemmas.{along, by_two}
use Rattle.nj_kernel.proofs.quantifiers.ex_e.Goals as goal

pub joined_copied-requires-clause-rule : goal.joined_copied-requires-clause-rule
joined_copied-requires-clause-rule c = λ s listed.
    let is : shown c.args.t.now ≡ exists (meaning c.in-Exists.body) = sym c.concl.ensures ∙ (ap meaning c.in-Exists.is ∙ meaning-Exists _ _) in
    let remaining : Lists (map meaning c.as_slice-remaining.result.now) (members (assumed c.args.u.now) ∖ instance (Free c.args.x.now) (meaning c.in-Exists.body)) = search rules in
    let absent : is_free c.args.x.now (shown c.args.t.now) ≡ false = search rules in
    let absent_in_c : is_free c.args.x.now (shown c.args.u.now) ≡ false = search rules in
    let fresh_listed : IsFreshIn c.args.x.now (members (map meaning c.as_slice-remaining.result.now)) = search rules in
    let fresh : IsFreshIn c.args.x.now (members (assumed c.args.u.now) ∖ instance (Free c.args.x.now) (meaning c.in-Exists.body)) =
    λ f m. fresh_listed f ((remaining f).1 m) in
    let all = Lists-either _ _ _ listed (Lists-same c.hyps.ensures.value) remaining in
    along refl (search rules) (by_two (Nj.ex_e c.args.x.now (meaning c.in-Exists.body) all
    (ap (is_free c.args.x.now) (sym is) ∙ absent) absent_in_c fresh) (along refl is c.args.t.now.derivable) c.args.u.now.derivable)
