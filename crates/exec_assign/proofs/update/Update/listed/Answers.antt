use Rattle.std.proofs.Common.{◌≡◌, ◌<◌, ◌≤◌, length, map, ap, subst, arith}
use Rattle.shared_map.specs.Pairs.{IsSorted}
use Rattle.doc_nodes.specs.Names.{in_order}
use Rattle.doc_nodes.specs.Imports.{NodeList}
use Rattle.exec_rules.specs.Assigning.{Update}
use Rattle.exec_assign.specs.Told.{told_node}
use Rattle.exec_assign.proofs.ListLemmas.{told_more, told_done}
use Rattle.exec_assign.proofs.update.Update.listed.Goals as goal

pub nodes-preserved : goal.nodes-preserved
nodes-preserved g c =
    let nodes : c.self.inside.nodes.now ≡ c.args.self.now.nodes = ap (λ (u : Update). u.nodes) c.self.view_is in
    let within : c.nodes.place < length c.args.self.now.nodes = omega (arith, c.nodes-test.true, c.len-place-end.ensures, ap length nodes) in
    told_more c.args.self.now c.args.made.now.assigned c.nodes.place (map told_node c.nodes.all.items) _ _
    (subst (λ (ns : NodeList). IsSorted in_order ns) nodes c.names_law.ensures) within c.in_ok-add_told.ensures c.nodes.invariant

pub returns : goal.returns
returns g c =
    let nodes : c.self.inside.nodes.now ≡ c.args.self.now.nodes = ap (λ (u : Update). u.nodes) c.self.view_is in
    let past : length c.args.self.now.nodes ≤ c.nodes.place = omega (arith, c.nodes-test.false, c.len-place-end.ensures, ap length nodes) in
    told_done c.args.self.now c.args.made.now.assigned c.nodes.place (map told_node c.nodes.all.items) past c.nodes.invariant
