-- What is kept by places is what the imports hand on.
use Rattle.std.proofs.Common.{◌≡◌, ℕ, Bool, true, false, not, cond, List, [], ◌∷◌, Option, Some, None, find, filter_map, map, zip, refl, sym, ap, ap₂, ◌∙◌}
use Rattle.std.specs.Prelude.{slice_get, option_and_then}
use Rattle.std.specs.Option.{option_map}
use Rattle.std.specs.List.{cons_option}
use Rattle.doc_nodes.specs.Rounds.{is_known}
use Rattle.doc_nodes.specs.Looks.{AreMarks, aims_at, met_by}
use Rattle.doc_nodes.specs.declared.node.Node.{Node}
use Rattle.doc_nodes.specs.Graph.{Graph}
use Rattle.doc_nodes.specs.Graphs.{IsGraphOf}
use Rattle.doc_nodes.specs.declared.inherited.NodeAliases.{NodeAliases}
use Rattle.doc_nodes.specs.Aliases.{aliases_at}
use Rattle.doc_nodes.specs.Imports.{NodeList, is_bad, ordered_places, place_of}
use Rattle.language.specs.declared.made.Imports.{Imports}
use Rattle.language.specs.declared.made.Imports.TheVariants.{Ordered}
use Rattle.language.specs.Lang.{Lang}
use Rattle.core_rules.specs.Scratch.{Runs, begins_at, final_at, import_run, imports_run}
use Rattle.core_rules.proofs.KnownPlaces.{aims_found}
use Rattle.pide_build.specs.Handed.{AreBehind, bad_by, handed_by, imported_by, imports_by, imports_with, one_imported}

pub only_one : {X : Type 0} {x y : X} → Some x ≡ Some y → x ≡ y
only_one e = cc

pub aims_are : (nodes : NodeList) (graph : Graph) (p : ℕ) (pair : List ℕ × Node) → IsGraphOf nodes graph → slice_get nodes p ≡ Some pair
    → aims_at graph.aims p ≡ map (place_of nodes) pair.1.imports
aims_are nodes graph p pair is e = ap (λ rows. aims_at rows p) is.aims_are ∙ aims_found nodes nodes p pair e

module _ (nodes : NodeList) (marks : List Bool) (are : AreMarks marks (ordered_places nodes)) where
  met_is : (aim : Option ℕ) → met_by marks aim ≡ is_known (ordered_places nodes) aim
  met_is None = refl
  met_is (Some p) = are p

  bad_is : (names : List (List ℕ)) → bad_by marks (zip names (map (place_of nodes) names)) ≡ find (is_bad nodes) names
  bad_is [] = refl
  bad_is (name ∷ names) =
      ap (λ b. cond b (bad_by marks (zip names (map (place_of nodes) names))) (Some name)) (met_is (place_of nodes name))
      ∙ go (is_known (ordered_places nodes) (place_of nodes name)) (bad_is names)
    where
      go : (b : Bool) → bad_by marks (zip names (map (place_of nodes) names)) ≡ find (is_bad nodes) names
          → cond b (bad_by marks (zip names (map (place_of nodes) names))) (Some name) ≡ cond (not b) (Some name) (find (is_bad nodes) names)
      go true rest = rest
      go false rest = refl

module _ {S : Type 0} (l : Lang S) (nodes : NodeList) (runs : Runs S) (behind : List (Option S)) (kept : AreBehind l runs behind) where
  handed_is : (aim : Option ℕ) → handed_by behind aim ≡ option_and_then (final_at l runs) aim
  handed_is None = refl
  handed_is (Some q) = kept q

  imported_is : (names : List (List ℕ)) → imported_by behind (zip names (map (place_of nodes) names)) ≡ filter_map (import_run l nodes runs) names
  imported_is [] = refl
  imported_is (name ∷ names) =
      let aims = zip names (map (place_of nodes) names) in
      let first : one_imported behind (name, place_of nodes name) ≡ import_run l nodes runs name =
      ap (option_map (λ s. record { name = name; state = s })) (handed_is (place_of nodes name)) in
      ap (λ o. cons_option o (imported_by behind aims)) first
      ∙ ap (cons_option (import_run l nodes runs name)) (imported_is names)

  with_bad : (names : List (List ℕ)) (bad : Option (List ℕ))
      → imports_with behind (zip names (map (place_of nodes) names)) bad ≡ imports_run l nodes runs names bad
  with_bad names None = ap Ordered (imported_is names)
  with_bad names (Some name) = refl

  pub imports_are : (marks : List Bool) → AreMarks marks (ordered_places nodes)
      → (names : List (List ℕ))
      → imports_by marks behind (zip names (map (place_of nodes) names)) ≡ imports_run l nodes runs names (find (is_bad nodes) names)
  imports_are marks are names =
      ap (imports_with behind (zip names (map (place_of nodes) names))) (bad_is nodes marks are names)
      ∙ with_bad names (find (is_bad nodes) names)

-- so a node begins as it is told by what is kept
pub begins_is : {S : Type 0} (l : Lang S) (nodes : NodeList) (graph : Graph) (is : IsGraphOf nodes graph) (runs : Runs S) (behind : List (Option S))
    → AreBehind l runs behind → (p : ℕ) (pair : List ℕ × Node) → slice_get nodes p ≡ Some pair
    → (name : List ℕ) (node : Node) (names : List (List ℕ)) (aims : List (Option ℕ)) (imports : Imports S) (aliases : NodeAliases)
    → slice_get nodes p ≡ Some (name, node) → names ≡ node.imports → aims ≡ aims_at graph.aims p
    → imports ≡ imports_by graph.marks behind (zip names aims)
    → aliases ≡ aliases_at nodes p → l.start name imports aliases ≡ begins_at l nodes runs p pair
begins_is {S = S} l nodes graph is runs behind kept p pair at name node names aims imports aliases here names_so aims_so imports_so aliases_so =
    let pair_of : List ℕ × Node = (name, node) in
    let same : pair_of ≡ pair = only_one (sym here ∙ at) in
    let all : List (List ℕ) = pair.1.imports in
    let found : Imports S = imports_run l nodes runs all (find (is_bad nodes) all) in
    let names_are : names ≡ all = names_so ∙ ap (λ (x : List ℕ × Node). x.1.imports) same in
    let aims_so_far : aims ≡ map (place_of nodes) all = aims_so ∙ aims_are nodes graph p pair is at in
    let imports_are_so : imports ≡ found =
    imports_so ∙ ap₂ (λ ns qs. imports_by graph.marks behind (zip ns qs)) names_are aims_so_far
    ∙ imports_are l nodes runs behind kept graph.marks is.marks_are all in
    ap (λ n. l.start n imports aliases) (ap (λ (x : List ℕ × Node). x.0) same)
    ∙ ap (λ i. l.start pair.0 i aliases) imports_are_so ∙ ap (l.start pair.0 found) aliases_so
