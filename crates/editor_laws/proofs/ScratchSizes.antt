-- Sources of commands that are checked from nothing are no longer than the texts.
use Rattle.std.proofs.Common.{◌≡◌, ℕ, ◌-◌, ◌≤◌, Bool, true, false, cond, List, [], ◌∷◌, length, drop, Option, Some, None, refl, subst, arith}
use Rattle.std.proofs.lemmas.List.{length-drop, length-take}
use Rattle.std.specs.Prelude.{slice_get, find, ◌==◌}
use Rattle.std.specs.Option.{option_map_or}
use Rattle.std.specs.List.{AllByRecursion}
use Rattle.text_words.proofs.KnownFinds.{find_all}
use Rattle.doc_nodes.specs.declared.node.Entry.{Entry}
use Rattle.doc_nodes.specs.declared.node.Node.{Node}
use Rattle.doc_nodes.specs.Imports.{NodeList, order}
use Rattle.exec_rules.specs.Kept.{BlobList}
use Rattle.exec_rules.proofs.KnownThere.{all_at}
use Rattle.language.specs.Lang.{Lang}
use Rattle.core_rules.specs.Settings.{Setting, state_behind}
use Rattle.core_rules.specs.Scratch.{Run, Runs, begins_at, run_all, run_from, run_node, run_one, scratch, scratch_at, set_in}
use Rattle.core_rules.specs.Updates.{source_in}

-- texts of so many scalars at most
abbrev pub AreShort : ℕ → NodeList → Type 0
AreShort n nodes = AllByRecursion (λ pair. length pair.1.text ≤ n) nodes

pub source_most : (node : Node) (e : Entry) → length (source_in node e) ≤ length node.text
source_most node e =
    let front = length-take (e.range.stop - e.range.start) (drop e.range.start node.text) in
    let rest = length-drop e.range.start node.text in omega (arith, front, rest)

module _ {S : Type 0} (l : Lang S) (n : ℕ) (nodes : NodeList) (blobs : BlobList)
    (short : AreShort n nodes) where
  abbrev pub SourceIsShort : Setting S → Type 0
  SourceIsShort s = length s.source ≤ n

  abbrev RunIsShort : ℕ × Run S → Type 0
  RunIsShort one = AllByRecursion SourceIsShort one.1.commands

  from_short : (node : Node) → length node.text ≤ n → (es : List Entry) (state : S)
      → AllByRecursion SourceIsShort (run_from l node blobs es state)
  from_short node le [] state = tt
  from_short node le (e ∷ es) state =
      let most = source_most node e in
      (omega (arith, le, most), from_short node le es (state_behind l (set_in node blobs e state)))

  one_short : (runs : Runs S) (p : ℕ) → AllByRecursion RunIsShort runs
      → AllByRecursion RunIsShort (run_one l nodes blobs runs p)
  one_short runs p all = go (slice_get nodes p) refl
    where
      go : (o : Option (List ℕ × Node)) → slice_get nodes p ≡ o
          → AllByRecursion RunIsShort (option_map_or (λ (pair : List ℕ × Node).
          (p, run_node l pair.1 blobs (begins_at l nodes runs p pair)) ∷ runs) o runs)
      go None at = all
      go (Some pair) at = (
        from_short pair.1 (all_at (λ (x : List ℕ × Node). length x.1.text ≤ n) nodes p pair short
            at) pair.1.entries (begins_at l nodes runs p pair),
        all,
      )

  all_short : (ps : List ℕ) (runs : Runs S) → AllByRecursion RunIsShort runs
      → AllByRecursion RunIsShort (run_all l nodes blobs ps runs)
  all_short [] runs all = all
  all_short (p ∷ ps) runs all = all_short ps (run_one l nodes blobs runs p) (one_short runs p all)

  pub scratch_short : (p : ℕ) → AllByRecursion SourceIsShort (scratch_at l nodes blobs p)
  scratch_short p = go (find (λ one. one.0 == p) (scratch l nodes blobs)) refl
    where
      go : (o : Option (ℕ × Run S)) → find (λ one. one.0 == p) (scratch l nodes blobs) ≡ o
          → AllByRecursion SourceIsShort (option_map_or (λ (one : ℕ × Run S). one.1.commands) o [])
      go None at = tt
      go (Some one) at = find_all (λ one. one.0 == p) RunIsShort (scratch l nodes blobs) one
          (all_short (order nodes) [] tt) at
