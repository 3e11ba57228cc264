-- The nodes of a document, batch by batch (this project's own).
use Rattle.std.specs.Prelude.{ℕ, List, [], ◌∷◌, slice_get}
use Rattle.std.specs.Option.{option_map_or}
use Rattle.doc_nodes.specs.Imports.{NodeList}
use Rattle.exec_rules.specs.Kept.{BlobList}
use Rattle.language.specs.Lang.{Lang}
use Rattle.core_rules.specs.Scratch.{Runs, begins_at, run_node}

module _ {S : Type 0} (l : Lang S) (nodes : NodeList) (blobs : BlobList) where
  -- one node more, by its place; it begins from the nodes that were done before its batch
  abbrev pub run_beside : Runs S → ℕ → Runs S → Runs S
  run_beside before p runs = option_map_or
      (λ pair. (p, run_node l pair.1 blobs (begins_at l nodes before p pair)) ∷ runs)
      (slice_get nodes p) runs

  -- the nodes of a batch
  abbrev pub run_batch : Runs S → List ℕ → Runs S → Runs S
  run_batch before [] runs = runs
  run_batch before (p ∷ ps) runs = run_batch before ps (run_beside before p runs)

  -- batch after batch
  abbrev pub run_batches : List (List ℕ) → Runs S → Runs S
  run_batches [] runs = runs
  run_batches (batch ∷ batches) runs = run_batches batches (run_batch runs batch runs)
