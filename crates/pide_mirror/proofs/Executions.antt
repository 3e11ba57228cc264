-- The parts of executions that have ids.
use Rattle.std.proofs.Common.{ℕ, Bool, true, false, List, [], ◌∷◌, map, Option, Result, Ok, Err}
use Rattle.std.specs.Prelude.{OnOk, if◌then◌else◌}
use Rattle.std.specs.List.{AllByRecursion}
use Rattle.text_words.proofs.KnownLists.{each-both}
use Rattle.pide_base.specs.Ids.{IsId}
use Rattle.pide_base.specs.declared.part.PartKind.TheVariants.{Fork}
use Rattle.doc_nodes.specs.declared.node.Entry.{Entry}
use Rattle.doc_nodes.specs.Needs.{AliasList}
use Rattle.pide_mirror.specs.Places.{PlaceTable}
use Rattle.pide_mirror.specs.declared.place.Place.{Place}
use Rattle.pide_mirror.specs.KeptNodes.{HasId}
use Rattle.pide_mirror.specs.NodeParts.{part_kept, place_forks, evaluation_kept, print_kept, command_kept}

evaluation_ids : (aliases : AliasList) (e : Entry) (exec : ℕ) (place : Option Place) → IsId exec → AllByRecursion HasId (evaluation_kept aliases e exec place)
evaluation_ids aliases e exec place id = go (place_forks aliases place)
  where
    go : (b : Bool) → IsId exec × AllByRecursion HasId (if b then part_kept e Fork exec place ∷ [] else [])
    go true = (id, (id, tt))
    go false = (id, tt)

prints_ids : (table : PlaceTable) (e : Entry) (prints : List ℕ) → AllByRecursion IsId prints → AllByRecursion HasId (map (print_kept table e) prints)
prints_ids table e [] ids = tt
prints_ids table e (x ∷ prints) ids = (ids.0, prints_ids table e prints ids.1)

-- those of a command
pub command_ids : (table : PlaceTable) (aliases : AliasList) (e : Entry) (executions : List ℕ) → AllByRecursion IsId executions
    → AllByRecursion HasId (command_kept table aliases e executions)
command_ids table aliases e [] ids = tt
command_ids table aliases e (x ∷ prints) ids = each-both HasId (evaluation_kept aliases e x (table x e.command)) (map (print_kept table e) prints)
    (evaluation_ids aliases e x (table x e.command) ids.0) (prints_ids table e prints ids.1)
