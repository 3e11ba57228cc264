-- Where the commands of a node end.
use Rattle.std.proofs.Common.{◌≤◌, ℕ, List, [], ◌∷◌, arith}
use Rattle.doc_nodes.specs.declared.node.Entry.{Entry}
use Rattle.core_rules.specs.Updates.{AreRising}

-- commands one behind the other end within the text
pub ends_within : (from len : ℕ) (es : List Entry) → AreRising from len es → from ≤ len
ends_within from len [] rising = rising
ends_within from len (e ∷ es) rising =
    let rest = ends_within e.range.stop len es rising.2 in omega (arith, rising.0, rising.1, rest)
