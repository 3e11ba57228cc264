use Rattle.std.proofs.Common.{ℕ, List, Some, ap, ◌∙◌}
use Rattle.std.specs.Prelude.{slice_get}
use Rattle.doc_nodes.proofs.Lists.{zip-some, zip-none_first, zip-none_second}
use Rattle.doc_nodes.proofs.alias.Aliases.at.Goals as goal
use Rattle.doc_nodes.proofs.alias.Aliases.at.Goals.{in_default-via-in-Some+in_default, in_default-via-in_default}

pub returns-in-Some-Some : goal.returns-in-Some-Some
returns-in-Some-Some c =
    ap (λ (pair : List ℕ × List ℕ). Some pair) (cc)
    ∙ zip-some c.self.inside.names c.self.inside.targets c.args.place c.in-Some-Some.name.now c.in-Some-Some.target.now c.in-Some-Some.ensures.value c.in-Some-Some.ensures'.value
    ∙ ap (λ pairs. slice_get pairs c.args.place) c.self.view_is

pub returns-in_default : goal.returns-in_default
returns-in_default c = elim c.in_default.branch [
  | in_default-via-in-Some+in_default w ↦ zip-none_second c.self.inside.names c.self.inside.targets c.args.place w.in_default.ensures'.value ∙ ap (λ pairs. slice_get pairs c.args.place) c.self.view_is
  | in_default-via-in_default w ↦ zip-none_first c.self.inside.names c.self.inside.targets c.args.place w.in_default.ensures.value ∙ ap (λ pairs. slice_get pairs c.args.place) c.self.view_is
]
