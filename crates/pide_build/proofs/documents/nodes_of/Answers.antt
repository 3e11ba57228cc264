-- The node of the next theory is put behind the others.
use Rattle.std.proofs.Common.{rules, ◌≡◌, ◌∷◌, ap₂, ◌∙◌}
use Rattle.shared_map.specs.Changes.{put}
use Rattle.doc_nodes.specs.declared.node.Node.{Node}
use Rattle.doc_nodes.specs.Names.{in_order}
use Rattle.buffer_rules.specs.Nodes.{uncut}
use Rattle.pide_build.specs.Documents.{sheet_of}
use Rattle.pide_build.proofs.Opened.{one_opened}
use Rattle.pide_build.proofs.documents.nodes_of.Goals as goal

pub theories-preserved : goal.theories-preserved
theories-preserved c =
    let rest = c.theories.rest in let name = c.in-Some.name.now in let text = c.in-Some.text.now in
    let nodes = c.theories.nodes in
    let first : rest ≡ (name, text) ∷ c.next.new.self = search rules in
    let named : c.in_ok-name.name ≡ name = search rules in
    let node : c.in_ok-name.node ≡ uncut (sheet_of text) = search rules in
    one_opened c.args.theories.now rest c.next.new.self nodes c.set.new.self (name, text) c.theories.invariant first
    (c.in_ok-set.ensures.ok ∙ ap₂ (λ n (x : Node). put in_order (n, x) nodes) named node)
