use Rattle.std.proofs.Common.{rules, ◌≡◌, false, sym, ◌∙◌, ap}
use Rattle.std.specs.List.{list_any}
use Rattle.nj_formula.specs.Meaning.{meaning}
use Rattle.nj_formula.specs.Free.{is_free}
use Rattle.theory_ctx.specs.NameSets.{has_name}
use Rattle.theory_ctx.proofs.Covered.{none_free}
use Rattle.theory_ctx.proofs.ctx.Ctx.has_free.Goals as goal

pub returns-then-not-has : goal.returns-then-not-has
returns-then-not-has c =
    let none : has_name c.self.inside.free c.args.name.now ≡ false = search rules in
    sym (none_free c.self.inside.free c.args.name.now none c.self.inside.facts c.self.invariant)
    ∙ ap (list_any (λ fact. is_free c.args.name.now (meaning fact.1))) c.self.view_is
