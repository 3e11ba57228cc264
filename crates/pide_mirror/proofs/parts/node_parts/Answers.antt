-- It is the image's.
use Rattle.std.proofs.Common.{◌≡◌, ap, sym, ◌∙◌, Some, map}
use Rattle.doc_nodes.specs.Imports.{place_of}
use Rattle.doc_nodes.specs.declared.node.Entry.{Entry}
use Rattle.std.proofs.Common.{List}
use Rattle.pide_mirror.specs.Tables.{table_of}
use Rattle.pide_mirror.specs.NodeParts.{as_shown, node_kept}
use Rattle.pide_mirror.proofs.NodesKept.{node_is}
use Rattle.pide_mirror.proofs.parts.node_parts.Goals as goal

pub returns-clause-node : goal.returns-clause-node
returns-clause-node c = λ image kept.
    let known = c.args.known.now in
    let node = c.in-Some-kept_at.kept in
    let at : place_of known.nodes c.args.name.now ≡ Some c.in-Some.place = sym c.place_in.ensures ∙ c.in-Some.is in
    let parts : map as_shown c.in_ok-parts.parts ≡ node_kept (table_of known.places) node.aliases.now node.node.now.entries node.rows.now
    = c.in_ok-parts.ensures.parts ∙ ap (λ (es : List Entry). node_kept (table_of known.places) node.aliases.now es node.rows.now) (c.as_slice-entries.ensures ∙ c.get.ensures) in
    node_is known image kept c.args.name.now c.in-Some.place node c.as_slice.result.now c.in_ok-parts.parts at
    (c.in-Some-kept_at.ensures image kept) (c.as_slice.ensures ∙ c.get-2.ensures) parts
