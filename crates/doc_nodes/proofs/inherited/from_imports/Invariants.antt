use Rattle.std.proofs.Common.{◌≡◌, ℕ, List, take}
use Rattle.std.specs.List.{flat_map}
use Rattle.doc_nodes.specs.declared.inherited.NodeAliases.{NodeAliases}
use Rattle.doc_nodes.specs.Aliases.{no_aliases, folded, pairs_from}
use Rattle.doc_nodes.specs.Known.{AreKnown}
use Rattle.doc_nodes.proofs.inherited.from_imports.Given as goal

abbrev pub invariant-imports : goal.invariant-imports
invariant-imports l = (done : List (ℕ × NodeAliases)) → AreKnown l.all done
    → l.folding ≡ folded no_aliases (flat_map (pairs_from done) (take l.aim-index l.aims))
