-- What is kept of the nodes that are done, by their places (this project's own).
use Rattle.std.specs.Prelude.{◌≡◌, ℕ, ◌==◌, List, [], ◌∷◌, ◌++◌, length, find, slice_get, slice_index_or, false, Option, None, option_and_then}
use Rattle.std.specs.Option.{option_map}
use Rattle.text_words.specs.Members.{has}
use Rattle.doc_nodes.specs.Imports.{NodeList}
use Rattle.language.specs.Lang.{Lang}
use Rattle.core_rules.specs.Scratch.{Run, Runs}
use Rattle.pide_build.specs.Handed.{AreBehind}
use Rattle.pide_build.specs.declared.telling.BuiltNode.{BuiltNode}
use Rattle.pide_build.specs.declared.telling.Checked.{Checked}
use Rattle.pide_build.specs.Tasks.{MakesSo, built_by}
use Rattle.pide_build.specs.declared.progress.Progress.{Progress}

-- the node at a place with what this run of it reports
abbrev pub built_there : {S : Type 0} → Lang S → NodeList → ℕ × Run S → Option BuiltNode
built_there l nodes one = option_map (λ pair. built_by l pair one.1) (slice_get nodes one.0)

module _ {S M : Type 0} (l : Lang S) (told : BuiltNode → M) (nodes : NodeList) where
  -- what is told of the node at a place, where it is done
  abbrev pub told_at : Runs S → ℕ → Option M
  told_at runs p = option_map told
      (option_and_then (built_there l nodes) (find (λ one. one.0 == p) runs))

  -- the state behind each node that is done is kept, and what is told of it
  pub record Keeps (runs : Runs S) (kept : Progress M S) : Type 0 where
    pub behind : AreBehind l runs kept.behind.items
    pub told_is : (p : ℕ) → slice_index_or kept.told.items p None ≡ told_at runs p
    pub states : length kept.behind.items ≡ length nodes
    pub tellings : length kept.told.items ≡ length nodes

  -- the nodes at these places make these, where the states behind those before them are kept
  abbrev pub MakeSo : List (Option S) → List ℕ → List (Checked M S) → Type 0
  MakeSo behind [] made = made ≡ []
  MakeSo behind (p ∷ ps) [] = ⊥
  MakeSo behind (p ∷ ps) (one ∷ more) = MakesSo l told nodes behind p one × MakeSo behind ps more

-- none of these places comes twice
abbrev pub AreOnce : List ℕ → Type 0
AreOnce places = (front rest : List ℕ) (p : ℕ) → places ≡ front ++ p ∷ rest → has front p ≡ false
