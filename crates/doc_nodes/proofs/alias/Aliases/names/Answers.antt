use Rattle.std.proofs.Common.{ℕ, List, sym, ap, ◌∙◌}
use Rattle.std.specs.Prelude.{map}
use Rattle.std.proofs.lemmas.Slice.Zip.{firsts-zip}
use Rattle.doc_nodes.proofs.alias.Aliases.names.Goals as goal

pub returns : goal.returns
returns c =
    c.as_slice.ensures
    ∙ sym (firsts-zip c.self.inside.names c.self.inside.targets (sym c.self.invariant))
    ∙ ap (map (λ (pair : List ℕ × List ℕ). pair.0)) c.self.view_is
