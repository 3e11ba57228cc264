use Rattle.std.proofs.Common.{◌≡◌, Some, None, ◌∙◌, ap, reverse}
use Rattle.theory_ctx.specs.Locals.{local_of, looked_in, seen}
use Rattle.theory_ctx.specs.Looked.{name_parts}
use Rattle.theory_ctx.proofs.Inner.{inner_some, inner_none}
use Rattle.theory_ctx.proofs.inner_scope.InnerScope.lookup.Goals as goal

pub returns-in-Some : goal.returns-in-Some
returns-in-Some c =
    let is : Some c.in-Some.local.now ≡ local_of (reverse c.self.inside.locals) (name_parts c.args.name.now) = cc c.in-Some.ensures in
    c.found.ensures
    ∙ inner_some (reverse c.self.inside.locals) c.self.inside.outer.now.locals
    (name_parts c.args.name.now) _ _ is
    ∙ ap (λ scope. looked_in (seen scope) c.args.name.now) c.self.view_is

pub returns-in-None : goal.returns-in-None
returns-in-None c =
    let is : None ≡ local_of (reverse c.self.inside.locals) (name_parts c.args.name.now) = cc
    c.in-None.ensures in
    c.lookup.ensures
    ∙ inner_none (reverse c.self.inside.locals) c.self.inside.outer.now.locals
    (name_parts c.args.name.now) _ is
    ∙ ap (λ scope. looked_in (seen scope) c.args.name.now) c.self.view_is
