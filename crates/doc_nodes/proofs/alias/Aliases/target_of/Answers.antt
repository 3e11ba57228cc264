use Rattle.std.proofs.Common.{rules, ◌≡◌, None, sym, ap, ◌∙◌}
use Rattle.std.specs.Prelude.{slice_get}
use Rattle.shared_map.specs.Pairs.{found}
use Rattle.doc_nodes.specs.Names.{in_order}
use Rattle.doc_nodes.proofs.Lists.{drop_none}
use Rattle.doc_nodes.proofs.NameLemmas.{found_here, found_next}
use Rattle.doc_nodes.proofs.alias.Aliases.target_of.Goals as goal
use Rattle.doc_nodes.proofs.alias.Aliases.target_of.Goals.{in_default-via-in-None-1, in_default-via-in-Some+else-equal}

pub returns-in-pairs : goal.returns-in-pairs
returns-in-pairs c =
    sym (found_here c.args.name.now c.args.self.now c.pairs.place _ (sym c.in-Some.ensures) (sym c.equal.ensures ∙ c.if-equal.true))
    ∙ c.pairs.invariant

pub pairs-preserved : goal.pairs-preserved
pairs-preserved c = elim c.in_default.branch [
  | in_default-via-in-None-1 w ↦
      let none : slice_get c.args.self.now c.pairs.place ≡ None = search rules in
      ap (found in_order c.args.name.now) (drop_none c.args.self.now c.pairs.place none) ∙ c.pairs.invariant
  | in_default-via-in-Some+else-equal w ↦ found_next c.args.name.now c.args.self.now c.pairs.place _ (sym w.in-Some.ensures) (sym w.equal.ensures ∙ w.if-equal.false) ∙ c.pairs.invariant
]
