-- The nodes of a document one after the other.
-- state.
use Rattle.std.proofs.Common.{◌≡◌, ℕ, ◌<◌, ◌==◌, Bool, true, false, cond, List, [], ◌∷◌, ◌++◌, length, find, slice_get, Option, Some, refl, sym, ap, subst, ◌∙◌, append_assoc}
use Rattle.std.specs.List.{AllByRecursion}
use Rattle.std.specs.Option.{option_map_or}
use Rattle.std.proofs.lemmas.Bool.{false≢true}
use Rattle.text_words.specs.Members.{has}
use Rattle.text_words.proofs.KnownMembers.{has_middle, has_other}
use Rattle.doc_nodes.specs.declared.node.Node.{Node}
use Rattle.doc_nodes.specs.Imports.{NodeList, order}
use Rattle.exec_rules.specs.Kept.{BlobList}
use Rattle.exec_rules.proofs.KnownThere.{get_there}
use Rattle.core_rules.specs.Scratch.{Runs, final, begins_at, run_node, run_one, run_all}
use Rattle.isar_rules.specs.declared.state.Place.TheVariants as place
use Rattle.isar_rules.specs.declared.state.State.{State}
use Rattle.isar_rules.specs.Isar.{isar}
use Rattle.soundness_laws.specs.Imports.{AreCleanFrom}
use Rattle.soundness_laws.specs.Theories.{IsStatedFrom, IsTheoryOf}
use Rattle.soundness_laws.proofs.NodeRuns.{IsDone, AreDone, One, Order, all as all_of}
use Rattle.soundness_laws.proofs.Handing.{new as new_of, new_run, new_just}

module _ (nodes : NodeList) (blobs : BlobList) (laws : Order nodes) where
  abbrev all : Runs State
  all = all_of nodes blobs laws

  module _ (front rest : List ℕ) (p : ℕ) (runs : Runs State) (split : order nodes ≡ front ++ p ∷ rest) (done : AreDone nodes blobs laws front runs) (pair : List ℕ × Node)
      (at : slice_get nodes p ≡ Some pair) (at_last : all ≡ run_all isar nodes blobs rest (new_of nodes blobs laws front rest p runs split done pair at ∷ runs)) where
    abbrev new : One
    new = new_of nodes blobs laws front rest p runs split done pair at

    new_done : AreDone nodes blobs laws (front ++ p ∷ []) (new ∷ runs)
    new_done = record {
      each = (record { run = new_run nodes blobs laws front rest p runs split done pair at; good = new_just nodes blobs laws front rest p runs split done pair at at_last }, done.each);
      there = λ q inside. here q (p == q) refl inside;
    }
      where
        here : (q : ℕ) (b : Bool) → (p == q) ≡ b → has (front ++ p ∷ []) q ≡ true → (one : One) × (cond b (Some new) (find (λ o. o.0 == q) runs) ≡ Some one)
        here q true e inside = (new, refl)
        here q false e inside = done.there q (has_other front p q e inside)

  one_done : (front rest : List ℕ) (p : ℕ) (runs : Runs State) → order nodes ≡ front ++ p ∷ rest → all ≡ run_all isar nodes blobs (p ∷ rest) runs → AreDone nodes blobs laws front runs
      → AreDone nodes blobs laws (front ++ p ∷ []) (run_one isar nodes blobs runs p)
  one_done front rest p runs split at_last done =
      let pair = get_there nodes p ((laws.every p).0 (ap (λ ps. has ps p) split ∙ has_middle front p rest)) in
      let more : Option (List ℕ × Node) → Runs State = λ o. option_map_or (λ pair. (p, run_node isar pair.1 blobs (begins_at isar nodes runs p pair)) ∷ runs) o runs in
      subst (AreDone nodes blobs laws (front ++ p ∷ [])) (sym (ap more pair.1))
      (new_done front rest p runs split done pair.0 pair.1 (at_last ∙ ap (λ o. run_all isar nodes blobs rest (more o)) pair.1))

  all_done : (ps front : List ℕ) (runs : Runs State) → order nodes ≡ front ++ ps → all ≡ run_all isar nodes blobs ps runs → AreDone nodes blobs laws front runs → AllByRecursion (IsDone nodes blobs laws) all
  all_done [] front runs split at_last done = subst (AllByRecursion (IsDone nodes blobs laws)) (sym at_last) done.each
  all_done (p ∷ ps) front runs split at_last done =
      all_done ps (front ++ p ∷ []) (run_one isar nodes blobs runs p) (split ∙ sym (append_assoc front (p ∷ []) ps)) at_last
      (one_done front ps p runs split at_last done)

  abbrev IsJust : One → Type 0
  IsJust one = AreCleanFrom nodes blobs one.0 → 0 < length one.1.commands → IsTheoryOf (IsStatedFrom nodes blobs one.0) (final isar one.1)

  each_just : (runs : Runs State) → AllByRecursion (IsDone nodes blobs laws) runs → AllByRecursion IsJust runs
  each_just [] each = tt
  each_just (one ∷ runs) each = (
    λ clean some. let j = each.0.good clean some in record { facts = j.facts; has_them = j.there; just = j.just },
    each_just runs each.1,
  )

  -- all nodes
  pub document_just : AllByRecursion IsJust all
  document_just = each_just all (all_done (order nodes) [] [] refl refl (record { each = tt; there = λ q inside. absurd (false≢true inside) }))
