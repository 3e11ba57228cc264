use Rattle.std.proofs.Common.{ap, ◌∙◌, rules}
use Rattle.shared_map.specs.Pairs.{found}
use Rattle.doc_nodes.specs.Names.{in_order}
use Rattle.doc_nodes.specs.declared.inherited.NodeAliases.{NodeAliases}
use Rattle.doc_nodes.proofs.NameLemmas.{indexed_more}
use Rattle.doc_nodes.proofs.folding.Folding.added.Goals as goal

pub invariant_of-result : goal.invariant_of-result
invariant_of-result c =
    indexed_more c.self.inside.targets _ c.self.inside.pairs _ c.args.name.now c.args.target.now
    c.self.invariant
    (ap (λ (a : NodeAliases). found in_order c.args.name.now a.pairs) c.self.view_is ∙ c.requires)
    (search rules)
    (search rules)
