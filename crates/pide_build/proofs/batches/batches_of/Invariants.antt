use Rattle.std.proofs.Common.{◌≡◌, ℕ, List, [], ◌++◌, length, vec_len}
use Rattle.doc_nodes.specs.Looks.{AreMarks}
use Rattle.doc_nodes.specs.Imports.{aims, other_places}
use Rattle.pide_build.specs.Batches.{AreRounds}
use Rattle.pide_build.proofs.Rounds.{Stands}
use Rattle.pide_build.proofs.batches.batches_of.Given as goal

-- what stands before the rest is ordered and marked, in the rounds so far
abbrev pub invariant-rounds : goal.invariant-rounds
invariant-rounds l =
    (front : List ℕ) × (left : List ℕ) × Stands (aims l.nodes) front left × (l.rest ≡ left ++ other_places l.nodes) × AreMarks l.marks.items front
    × (vec_len l.marks ≡ length l.nodes)
    × ((later : List (List ℕ)) → AreRounds (aims l.nodes) front later → AreRounds (aims l.nodes) [] (l.all.items ++ later))

abbrev pub decreases-rounds : goal.decreases-rounds
decreases-rounds l = length l.rest
