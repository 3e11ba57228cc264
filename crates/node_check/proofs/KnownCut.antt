-- The commands of a node that is cut stand where its text has them.
use Rattle.std.proofs.Common.{◌≡◌, ℕ, List, [], length, map, ◌∙◌}
use Rattle.std.proofs.lemmas.List.{length-map}
use Rattle.doc_nodes.specs.declared.node.Node.{Node}
use Rattle.doc_nodes.specs.Needs.{AliasList}
use Rattle.buffer_rules.specs.Cuts.{source}
use Rattle.buffer_rules.specs.Nodes.{ranges_in, sources}
use Rattle.buffer_rules.specs.Numbers.{ids_of}
use Rattle.node_check.specs.Nodes.{cut_under, sheet_of}
use Rattle.node_check.proofs.KnownRanges.{ranges_so}

-- as many ids as sources
abbrev pub AreCounted : Type 0
AreCounted = (now : List (List ℕ)) (next : ℕ) → length (ids_of [] now next) ≡ length now

pub ranges_are : AreCounted → (node : Node) (aliases : AliasList) (next : ℕ)
    → map (λ e. e.range) (cut_under node aliases next).entries ≡ ranges_in (sheet_of node) aliases
ranges_are counted node aliases next =
    let sheet = sheet_of node in
    let now = sources sheet aliases in
    ranges_so sheet aliases (ids_of [] now next) (ranges_in sheet aliases)
    (counted now next ∙ length-map (ranges_in sheet aliases) (source sheet.text))
