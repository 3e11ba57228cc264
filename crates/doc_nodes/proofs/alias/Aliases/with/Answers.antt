use Rattle.std.proofs.Common.{ℕ, List, ◌∷◌, [], ◌++◌, refl, ap, ◌∙◌, rules}
use Rattle.doc_nodes.proofs.Lists.{zip-pushed}
use Rattle.doc_nodes.proofs.alias.Aliases.with.Goals as goal

pub returns : goal.returns
returns c =
    zip-pushed c.self.inside.names _ c.self.inside.targets _ c.args.name.now c.args.name.now c.args.target.now c.args.target.now c.self.invariant
    (search rules) (search rules) refl refl
    ∙ ap (λ (pairs : List (List ℕ × List ℕ)). pairs ++ (c.args.name.now, c.args.target.now) ∷ []) c.self.view_is
