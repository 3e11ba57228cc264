-- What new executions go by (this project's own).
use Rattle.std.specs.Prelude.{ℕ, if◌then◌else◌, List, [], ◌∷◌, ◌++◌, map, length, take, drop, Option}
use Rattle.std.specs.List.{zip}
use Rattle.text_words.specs.Pieces.{text_between}
use Rattle.doc_nodes.specs.declared.node.Entry.{Entry}
use Rattle.doc_nodes.specs.declared.node.Node.{Node}
use Rattle.exec_rules.specs.declared.home.Head.{Head}
use Rattle.exec_rules.specs.declared.home.Input.{Input}
use Rattle.exec_rules.specs.declared.home.Input.TheVariants.{First, Next, Print}
use Rattle.exec_rules.specs.declared.home.Home.{Home}
use Rattle.exec_rules.specs.Kept.{BlobList, blob_of}
use Rattle.exec_rules.specs.Rows.{first_print, takes_print}

-- the home of an execution of a node's command, by what it takes up
abbrev pub home : Node → BlobList → Entry → Input → Home
home node blobs e input = record {
  source = text_between node.text e.range.start e.range.stop;
  blob = blob_of blobs e.needs;
  input = input;
}

-- what the evaluations of a node take up: the first the node's beginning, each other the one
-- before it
abbrev pub taken_up_inputs : Head → List ℕ → List Input
taken_up_inputs head evaluations = First head ∷ map Next evaluations

-- the homes of a node's evaluations
abbrev pub eval_homes : Node → BlobList → Head → List ℕ → List Home
eval_homes node blobs head evaluations =
    map (λ pair. home node blobs pair.0 pair.1)
    (zip (take (length evaluations) node.entries) (taken_up_inputs head evaluations))

-- the homes of the prints that have new numbers
abbrev pub print_homes : Node → BlobList → List Entry → List ℕ → List (Option ℕ) → List Home
print_homes node blobs (e ∷ es) (v ∷ vs) live =
    (if takes_print e (first_print live) then home node blobs e (Print v) ∷ [] else [])
    ++ print_homes node blobs es vs (drop 1 live)
print_homes node blobs es vs live = []
