use Rattle.std.proofs.Common.{◌≡◌, ◌<◌, List, length, Option, reverse}
use Rattle.std.specs.List.{All}
use Rattle.doc_nodes.specs.Imports.{NodeList}
use Rattle.language.specs.Lang.{Lang}
use Rattle.core_rules.specs.Scratch.{Runs}
use Rattle.pide_build.specs.declared.telling.BuiltNode.{BuiltNode}
use Rattle.pide_build.proofs.BatchSteps.{IsAt}
use Rattle.pide_build.proofs.progress.Progress.keep_all.Given as goal

-- what came of the nodes that are left is turned round
abbrev pub invariant-places : goal.invariant-places
invariant-places g l =
    All (λ p. p < length l.self.behind.items) l.rest × All (λ p. p < length l.self.told.items) l.rest
    × (length l.made.items ≡ length l.rest)
    × ((lang : Lang _) (told : BuiltNode → _) (nodes : NodeList) (before : Runs _) (behind : List (Option _))
    → IsAt lang told nodes before behind l.places l.fn.made.items l.fn.self l.rest (reverse l.made.items) l.self)

abbrev pub decreases-places : goal.decreases-places
decreases-places g l = length l.rest
