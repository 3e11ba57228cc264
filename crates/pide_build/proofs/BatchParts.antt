-- Batch by batch the nodes come to what they come to one after the other.
use Rattle.std.proofs.Common.{◌≡◌, ℕ, ◌==◌, Bool, true, false, List, [], ◌∷◌, ◌++◌, Option, Some, None, find, map, refl, sym, ap, subst, ◌∙◌, append_assoc}
use mathlib.Core.Bool.{false≢true}
use Rattle.std.specs.Prelude.{slice_get}
use Rattle.std.specs.Option.{option_map_or}
use Rattle.std.specs.List.{concat, list_all}
use Rattle.std.proofs.lemmas.Bool.{and_parts, eqb-true, or_parts}
use Rattle.std.proofs.lemmas.List.Folds.{concat-append}
use Rattle.text_words.specs.Members.{has}
use Rattle.doc_nodes.specs.Rounds.{is_known}
use Rattle.doc_nodes.specs.Looks.{aims_at}
use Rattle.text_words.proofs.KnownMembers.{cut_at, has_both, has_itself, has_tail}
use Rattle.doc_nodes.specs.declared.node.Node.{Node}
use Rattle.doc_nodes.specs.Imports.{NodeList, aims, is_bad, is_ordered, order, place_of, placed_node}
use Rattle.exec_rules.specs.Kept.{BlobList}
use Rattle.language.specs.Lang.{Lang}
use Rattle.core_rules.specs.Scratch.{Runs, begins_at, run_all, run_node, run_one, scratch}
use Rattle.core_rules.proofs.KnownPlaces.{aims_found}
use Rattle.pide_build.specs.Batches.{AreBatches}
use Rattle.pide_build.specs.Running.{run_batch, run_batches, run_beside}
use Rattle.pide_build.proofs.Beside.{AreAlike, begins_alike, done_at, done_beside}

module _ {S : Type 0} (l : Lang S) (nodes : NodeList) (blobs : BlobList)
    (join : (batches : List (List ℕ)) → AreBatches nodes batches → concat batches ≡ order nodes)
    (behind : (front rest : List (List ℕ)) (batch : List ℕ) (p : ℕ) → AreBatches nodes (front ++ batch ∷ rest) → has batch p ≡ true
    → is_ordered nodes p ≡ true → list_all (is_known (concat front)) (aims_at (aims nodes) p) ≡ true)
    (once : (front rest : List ℕ) (p : ℕ) → order nodes ≡ front ++ p ∷ rest → has front p ≡ false)
    (ordered : (p : ℕ) (pair : List ℕ × Node) → slice_get nodes p ≡ Some pair → (placed_node nodes pair).bad ≡ None → is_ordered nodes p ≡ true) where
  -- what stands before a batch doesn't stand in it
  apart : (front rest : List (List ℕ)) (batch : List ℕ) (q : ℕ) → AreBatches nodes (front ++ batch ∷ rest)
      → has (concat front) q ≡ true → has batch q ≡ false
  apart front rest batch q are early = go (has batch q) refl
    where
      go : (b : Bool) → has batch q ≡ b → b ≡ false
      go false e = refl
      go true e =
          let c = cut_at batch q e in
          let whole : order nodes ≡ (concat front ++ c.0) ++ q ∷ (c.1 ++ concat rest) =
          sym (join (front ++ batch ∷ rest) are) ∙ concat-append front (batch ∷ rest)
          ∙ ap (λ xs. concat front ++ (xs ++ concat rest)) c.2
          ∙ ap (λ xs. concat front ++ xs) (append_assoc c.0 (q ∷ c.1) (concat rest))
          ∙ sym (append_assoc (concat front) c.0 (q ∷ (c.1 ++ concat rest))) in
          let none = once (concat front ++ c.0) (c.1 ++ concat rest) q whole in
          absurd (false≢true (sym (or_parts (has (concat front) q) (has c.0 q) (sym (has_both (concat front) c.0 q) ∙ none)).0 ∙ early))

  module _ (front rest : List (List ℕ)) (batch : List ℕ) (are : AreBatches nodes (front ++ batch ∷ rest)) (before : Runs S) where
    -- at all other places what was done before the batch
    abbrev Agrees : Runs S → Type 0
    Agrees runs = (q : ℕ) → has batch q ≡ false → done_at runs q ≡ done_at before q

    alike : (runs : Runs S) → Agrees runs → (names : List (List ℕ))
        → list_all (is_known (concat front)) (map (place_of nodes) names) ≡ true → AreAlike l nodes before runs names
    alike runs agrees [] known = tt
    alike runs agrees (name ∷ names) known =
        let parts = and_parts (is_known (concat front) (place_of nodes name)) (list_all (is_known (concat front)) (map (place_of nodes) names)) known in (
          (λ q e. agrees q (apart front rest batch q are (ap (is_known (concat front)) (sym e) ∙ parts.0))),
          alike runs agrees names parts.1,
        )

    imports_alike : (runs : Runs S) → Agrees runs → (p : ℕ) → has batch p ≡ true → (pair : List ℕ × Node) → slice_get nodes p ≡ Some pair
        → find (is_bad nodes) pair.1.imports ≡ None → AreAlike l nodes before runs pair.1.imports
    imports_alike runs agrees p here pair e good =
        alike runs agrees pair.1.imports
        (ap (list_all (is_known (concat front))) (sym (aims_found nodes nodes p pair e)) ∙ behind front rest batch p are here (ordered p pair e good))

    one_beside : (runs : Runs S) → Agrees runs → (p : ℕ) → has batch p ≡ true → run_beside l nodes blobs before p runs ≡ run_one l nodes blobs runs p
    one_beside runs agrees p here = go (slice_get nodes p) refl
      where
        go : (o : Option (List ℕ × Node)) → slice_get nodes p ≡ o
            → option_map_or (λ pair. (p, run_node l pair.1 blobs (begins_at l nodes before p pair)) ∷ runs) o runs
            ≡ option_map_or (λ pair. (p, run_node l pair.1 blobs (begins_at l nodes runs p pair)) ∷ runs) o runs
        go None e = refl
        go (Some pair) e =
            ap (λ state. (p, run_node l pair.1 blobs state) ∷ runs)
            (sym (begins_alike l nodes before runs p pair (imports_alike runs agrees p here pair e)))

    still : (runs : Runs S) → Agrees runs → (p : ℕ) → has batch p ≡ true → Agrees (run_one l nodes blobs runs p)
    still runs agrees p here q out = go (slice_get nodes p)
      where
        other : (b : Bool) → (p == q) ≡ b → b ≡ false
        other false e = refl
        other true e = absurd (false≢true (sym out ∙ ap (has batch) (sym (eqb-true p q e)) ∙ here))

        go : (o : Option (List ℕ × Node))
            → done_at (option_map_or (λ pair. (p, run_node l pair.1 blobs (begins_at l nodes runs p pair)) ∷ runs) o runs) q ≡ done_at before q
        go None = agrees q out
        go (Some pair) =
            let apart_there : (p == q) ≡ false = other (p == q) refl in
            done_beside p q (run_node l pair.1 blobs (begins_at l nodes runs p pair)) runs apart_there ∙ agrees q out

    batch_from : (ps : List ℕ) → ((p : ℕ) → has ps p ≡ true → has batch p ≡ true) → (runs : Runs S) → Agrees runs
        → run_batch l nodes blobs before ps runs ≡ run_all l nodes blobs ps runs
    batch_from [] within runs agrees = refl
    batch_from (p ∷ ps) within runs agrees =
        let here = within p (has_itself ps p) in
        ap (run_batch l nodes blobs before ps) (one_beside runs agrees p here)
        ∙ batch_from ps (λ q h. within q (has_tail p q ps h)) (run_one l nodes blobs runs p) (still runs agrees p here)

    one_batch : run_batch l nodes blobs before batch before ≡ run_all l nodes blobs batch before
    one_batch = batch_from batch (λ p h. h) before (λ q out. refl)

  run_both : (xs ys : List ℕ) (runs : Runs S) → run_all l nodes blobs (xs ++ ys) runs ≡ run_all l nodes blobs ys (run_all l nodes blobs xs runs)
  run_both [] ys runs = refl
  run_both (x ∷ xs) ys runs = run_both xs ys (run_one l nodes blobs runs x)

  batches_from : (front batches : List (List ℕ)) → AreBatches nodes (front ++ batches) → (runs : Runs S)
      → run_batches l nodes blobs batches runs ≡ run_all l nodes blobs (concat batches) runs
  batches_from front [] are runs = refl
  batches_from front (batch ∷ batches) are runs =
      ap (run_batches l nodes blobs batches) (one_batch front batches batch are runs)
      ∙ batches_from (front ++ batch ∷ []) batches (subst (AreBatches nodes) (sym (append_assoc front (batch ∷ []) batches)) are)
      (run_all l nodes blobs batch runs)
      ∙ sym (run_both batch (concat batches) runs)

  pub is_scratch : (batches : List (List ℕ)) → AreBatches nodes batches → run_batches l nodes blobs batches [] ≡ scratch l nodes blobs
  is_scratch batches are = batches_from [] batches are [] ∙ ap (λ ps. run_all l nodes blobs ps []) (join batches are)
