use Rattle.std.proofs.Common.{subst}
use Rattle.shared_map.specs.Pairs.{IsSorted}
use Rattle.doc_nodes.specs.Names.{in_order}
use Rattle.doc_nodes.specs.Imports.{NodeList}
use Rattle.editor_buffer.proofs.HeaderLemmas.{keeps_some, keeps_none}
use Rattle.editor_buffer.proofs.headers.keeps_headers.Goals as goal

pub returns-in-Some : goal.returns-in-Some
returns-in-Some c =
    let Sorted : NodeList → Type 0 = λ ns. IsSorted in_order ns in
    let sorted : Sorted c.args.nodes.now = subst Sorted c.iter-sorted.ensures.all c.iter-sorted.ensures.sorted in
    keeps_some c.same_header.result c.args.nodes.now c.args.name.now c.in-Some.node.now c.args.made.now sorted c.in-Some.ensures c.same_header.ensures

pub returns-in-None : goal.returns-in-None
returns-in-None c = keeps_none c.args.nodes.now c.args.name.now c.args.made.now c.in-None.ensures
