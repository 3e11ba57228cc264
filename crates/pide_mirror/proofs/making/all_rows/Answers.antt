-- One node more.
use Rattle.std.proofs.Common.{ℕ, List, subst}
use Rattle.doc_nodes.specs.declared.node.Node.{Node}
use Rattle.pide_mirror.specs.Listing.{listed_at}
use Rattle.pide_mirror.specs.Making.{is_marked, IsMadeBy}
use Rattle.pide_mirror.proofs.MadeMore.{made_more}
use Rattle.pide_mirror.proofs.making.all_rows.Goals as goal

pub nodes-preserved : goal.nodes-preserved
nodes-preserved c =
    let inv = c.nodes.invariant in
    let tip = c.args.tip.now in
    let marks = c.args.untouched.now in
    let listing = c.args.listing.now.entries in
    let pair : List ℕ × Node = (c.in-Some.name.now, c.in-Some.node.now) in
    let new = c.in_ok-node_rows.field-0 in
    let one : IsMadeBy tip (is_marked marks c.nodes.place) (listed_at listing c.nodes.place) pair new
    = subst (λ b. IsMadeBy tip b (listed_at listing c.nodes.place) pair new) c.is_marked-stays.ensures
    (subst (λ o. IsMadeBy tip c.is_marked-stays.result o pair new) c.listed_at.ensures c.in_ok-node_rows.ensures) in
    made_more tip marks listing c.args.nodes.now inv.0 c.nodes.rest c.next.new.self c.nodes.all.items c.push.new.self.items c.nodes.place pair new
    inv.1 c.in-Some.ensures.steps inv.2 inv.3 inv.4 one c.in_ok-push.ensures.items
