use Rattle.std.proofs.Common.{rules, ◌≡◌, map, ap, refl, sym, ◌∙◌}
use Rattle.nj_formula.specs.Statement.{disj}
use Rattle.nj_formula.specs.Meaning.{meaning}
use Rattle.nj_formula.proofs.KnownMeaning.{meaning-Or}
use Rattle.nj_kernel.specs.Sets.{members, Lists, ◌∪◌, ◌∖◌}
use Rattle.nj_kernel.specs.Theorem.{assumed, shown}
use Rattle.nj_kernel.specs.Nj as Nj
use Rattle.nj_kernel.proofs.SetsLemmas.{Lists-either}
use Rattle.nj_kernel.proofs.DeriveLemmas.{along, by_three}
use Rattle.nj_kernel.proofs.rules.disj_e.Goals as goal

pub joined_copied-requires-clause-rule : goal.joined_copied-requires-clause-rule
joined_copied-requires-clause-rule c = λ s listed.
    let is : shown c.args.t.now ≡ disj (meaning c.in-Or.a) (meaning c.in-Or.b) = sym c.concl.ensures ∙ (ap meaning c.in-Or.is ∙ meaning-Or _ _) in
    let fits : shown c.args.v.now ≡ shown c.args.u.now = search rules in
    let left : Lists (map meaning c.as_slice.result.now) (members (assumed c.args.t.now) ∪ (members (assumed c.args.u.now) ∖ meaning c.in-Or.a)) = search rules in
    let right : Lists (map meaning c.as_slice-in-Or.result.now) (members (assumed c.args.v.now) ∖ meaning c.in-Or.b) = search rules in
    let all = Lists-either _ _ _ listed left right in
    along refl (search rules) (by_three (Nj.disj_e all) (along refl is c.args.t.now.derivable) c.args.u.now.derivable (along refl fits c.args.v.now.derivable))
