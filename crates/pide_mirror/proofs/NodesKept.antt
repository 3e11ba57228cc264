-- What is kept of a node is the image's.
use Rattle.std.proofs.Common.{◌≡◌, ℕ, List, [], map, Option, Some, ap, sym, ◌∙◌}
use Rattle.std.specs.Option.{option_map, option_map_or}
use Rattle.doc_nodes.specs.declared.node.Node.{Node}
use Rattle.doc_nodes.specs.Imports.{place_of}
use Rattle.snapshots.specs.declared.part.AssignedPart.{AssignedPart}
use Rattle.core_rules.specs.Shown.{PartShown}
use Rattle.mirror_rules.specs.Images.{Image}
use Rattle.mirror_rules.specs.Looking.{text_at}
use Rattle.mirror_rules.specs.Parts.{node_parts}
use Rattle.pide_mirror.specs.Kept.{IsKept}
use Rattle.pide_mirror.specs.Tables.{table_of}
use Rattle.pide_mirror.specs.declared.known.Known.{Known}
use Rattle.pide_mirror.specs.KeptNodes.{IsKeptNode}
use Rattle.pide_mirror.specs.Looking.{node_of}
use Rattle.pide_mirror.specs.NodeParts.{as_shown, node_kept}
use Rattle.pide_mirror.specs.declared.parts.KeptNode.{KeptNode}
use Rattle.pide_mirror.proofs.PartsKept.{node_same}

pub node_is : (known : Known) (image : Image) → IsKept known image → (name : List ℕ) (p : ℕ) (node : KeptNode) (text : List ℕ) (parts : List AssignedPart)
    → place_of known.nodes name ≡ Some p → IsKeptNode image p node → text ≡ node.node.now.text
    → map as_shown parts ≡ node_kept (table_of known.places) node.aliases.now node.node.now.entries node.rows.now
    → Some (text, map as_shown parts) ≡ node_of image name
node_is known image kept name p node text parts at stands text_is parts_are =
    let table = table_of known.places in
    let here : place_of image.nodes name ≡ Some p = ap (λ ns. place_of ns name) (sym kept.nodes) ∙ at in
    let same_text : text ≡ text_at image.nodes p = text_is ∙ ap (λ (n : Node). n.text) stands.node
    ∙ sym (ap (λ (o : Option (List ℕ × Node)). option_map_or (λ pair. pair.1.text) o []) stands.stands) in
    let same_parts : map as_shown parts ≡ node_parts image p = parts_are
    ∙ ap (λ aliases. node_kept table aliases node.node.now.entries node.rows.now) stands.aliases
    ∙ ap (λ (n : Node). node_kept table _ n.entries node.rows.now) stands.node
    ∙ node_same known image kept p stands.pair node.rows.now stands.stands stands.rows in
    ap (λ t. Some (t, map as_shown parts)) same_text ∙ ap (λ (ps : List PartShown). Some (text_at image.nodes p, ps)) same_parts
    ∙ sym (ap (option_map (λ q. (text_at image.nodes q, node_parts image q))) here)
