use Rattle.std.proofs.Common.{◌+◌, drop, sym, ap, ◌∙◌}
use Rattle.doc_nodes.specs.Aliases.{folded}
use Rattle.doc_nodes.specs.declared.inherited.NodeAliases.{NodeAliases}
use Rattle.doc_nodes.proofs.Lists.{drop_some, drop_none}
use Rattle.doc_nodes.proofs.folding.Folding.with_all.Goals as goal
use Rattle.doc_nodes.proofs.folding.Folding.with_all.Goals.{in-Some+in_ok-folding, in_default}

pub pairs-preserved : goal.pairs-preserved
pairs-preserved c = elim c.match-at.branch [
  | in-Some+in_ok-folding w ↦
      ap (λ (a : NodeAliases). folded a (drop (c.pairs.place + 1) c.args.aliases.now)) (w.folding-is ∙ w.in_ok-folding.ensures)
      ∙ ap (folded c.pairs.folding) (sym (drop_some c.args.aliases.now c.pairs.place (w.in-Some.name.now, w.in-Some.target.now) (sym w.in-Some.ensures)))
      ∙ c.pairs.invariant
  | in_default w ↦
      ap (λ (a : NodeAliases). folded a (drop (c.pairs.place + 1) c.args.aliases.now)) w.folding-is
      ∙ ap (folded c.pairs.folding) (drop_none c.args.aliases.now c.pairs.place (sym w.in_default.ensures))
      ∙ c.pairs.invariant
]
