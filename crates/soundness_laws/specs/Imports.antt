-- Nodes of a document with all of their imports, direct or not (this project's own).
use Rattle.std.specs.Prelude.{◌≡◌, ◌⊎◌, ℕ, List, [], ◌∷◌, slice_get, Some}
use Rattle.std.specs.List.{AllByRecursion}
use Rattle.nj_formula.specs.Statement.{Statement}
use Rattle.doc_nodes.specs.declared.node.Node.{Node}
use Rattle.doc_nodes.specs.Imports.{NodeList, place_of}
use Rattle.exec_rules.specs.Kept.{BlobList}
use Rattle.core_rules.specs.Scratch.{Run, scratch}
use Rattle.isar_rules.specs.declared.state.State.{State}
use Rattle.isar_rules.specs.Isar.{isar}
use Rattle.soundness_laws.specs.Clean.{AreClean}
use Rattle.soundness_laws.specs.Axioms.{IsAxiomOf}

-- the name is listed
abbrev pub IsListed : List (List ℕ) → List ℕ → Type 0
IsListed [] name = ⊥
IsListed (n ∷ more) name = (n ≡ name) ⊎ IsListed more name

-- the node at the first place is that at the second, or has it among its imports, direct or not
pub data Needs : NodeList → ℕ → ℕ → Type 0 where
  itself : {nodes : NodeList} {p : ℕ} → Needs nodes p p
  imports : {nodes : NodeList} {p q r : ℕ} (pair : List ℕ × Node) (name : List ℕ)
      → slice_get nodes p ≡ Some pair → IsListed pair.1.imports name
      → place_of nodes name ≡ Some q → Needs nodes q r → Needs nodes p r

-- the node at a place and its imports report no error when the document is checked from nothing
abbrev pub AreCleanFrom : NodeList → BlobList → ℕ → Type 0
AreCleanFrom nodes blobs p =
    AllByRecursion (λ one. Needs nodes p one.0 → AreClean one.1.commands) (scratch isar nodes blobs)

-- one of these nodes is needed, and has the axiom
abbrev pub IsAxiomAmong : NodeList → ℕ → List (ℕ × Run State) → Statement → Type 0
IsAxiomAmong nodes p [] f = ⊥
IsAxiomAmong nodes p (one ∷ runs) f =
    (Needs nodes p one.0 × IsAxiomOf one.1.commands f) ⊎ IsAxiomAmong nodes p runs f

-- an axiom of the node at a place or of its imports says the statement
abbrev pub IsAxiomFrom : NodeList → BlobList → ℕ → Statement → Type 0
IsAxiomFrom nodes blobs p = IsAxiomAmong nodes p (scratch isar nodes blobs)
