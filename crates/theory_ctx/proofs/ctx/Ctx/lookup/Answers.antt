use Rattle.std.proofs.Common.{rules, ◌≡◌, None, sym, ◌∙◌, ap}
use Rattle.theory_ctx.specs.Facts.{fact_of, facts_elsewhere}
use Rattle.theory_ctx.specs.Looked.{among, first_of, looked_by}
use Rattle.theory_ctx.proofs.Named.{named_imported}
use Rattle.theory_ctx.proofs.ctx.Ctx.lookup.Goals as goal

pub returns-in-None : goal.returns-in-None
returns-in-None c =
    let none : fact_of c.args.theory.now c.in-Plain.name.now c.args.self.now ≡ None = search rules in
    c.named.ensures ∙ ap among (named_imported c.args.theory.now c.in-Plain.name.now c.args.self.now none)
    ∙ sym
    (ap (looked_by c.args.self.now c.args.theory.now) c.in-Plain.ensures
    ∙ ap (λ own. first_of own (facts_elsewhere c.args.theory.now c.in-Plain.name.now
    c.args.self.now)) none)
