use Rattle.std.proofs.Common.{rules, ◌≡◌, [], ◌∷◌, map, ap, sym}
use Rattle.nj_formula.specs.Meaning.{meaning}
use Rattle.nj_kernel.specs.Nj as Nj
use Rattle.nj_kernel.proofs.DeriveLemmas.{along}
use Rattle.nj_kernel.proofs.rules.assume.Goals as goal

pub derived-requires-clause-rule : goal.derived-requires-clause-rule
derived-requires-clause-rule c =
    let formula : c.in_ok-copy.field-0 ≡ c.args.a.now = search rules in
    let hyps : c.in_ok-hyps.hyps ≡ c.args.a.now ∷ [] = search rules in
    along (sym (ap (map meaning) hyps)) (ap meaning (sym formula)) ∣ Nj.assume ∣₁
