-- What nodes hand on, by their places (this project's own).
use Rattle.std.specs.Prelude.{◌≡◌, ℕ, Bool, if◌then◌else◌, List, [], ◌∷◌, filter_map, slice_index_or, Option, Some, None, option_and_then}
use Rattle.std.specs.Option.{option_map}
use Rattle.doc_nodes.specs.Looks.{met_by}
use Rattle.language.specs.declared.made.Imported.{Imported}
use Rattle.language.specs.declared.made.Imports.{Imports}
use Rattle.language.specs.declared.made.Imports.TheVariants.{Ordered, Bad}
use Rattle.language.specs.Lang.{Lang}
use Rattle.core_rules.specs.Scratch.{Runs, final_at}

-- an import's name and place
abbrev pub Aim : Type 0
Aim = List ℕ × Option ℕ

-- the first that is not marked
abbrev pub bad_by : List Bool → List Aim → Option (List ℕ)
bad_by marks [] = None
bad_by marks (aim ∷ aims) = if met_by marks aim.1 then bad_by marks aims else Some aim.0

module _ {S : Type 0} where
  -- the state that is kept at a place
  abbrev pub handed_by : List (Option S) → Option ℕ → Option S
  handed_by behind aim = option_and_then (λ p. slice_index_or behind p None) aim

  -- an import with its state, if there is one
  abbrev pub one_imported : List (Option S) → Aim → Option (Imported S)
  one_imported behind aim =
      option_map (λ s. record { name = aim.0; state = s }) (handed_by behind aim.1)

  -- the imports with their states
  abbrev pub imported_by : List (Option S) → List Aim → List (Imported S)
  imported_by behind aims = filter_map (one_imported behind) aims

  -- what a node has from its imports, by the first bad one, if there is one
  abbrev pub imports_with : List (Option S) → List Aim → Option (List ℕ) → Imports S
  imports_with behind aims None = Ordered (imported_by behind aims)
  imports_with behind aims (Some name) = Bad name

  abbrev pub imports_by : List Bool → List (Option S) → List Aim → Imports S
  imports_by marks behind aims = imports_with behind aims (bad_by marks aims)

  -- at each place the state behind the node is kept, where it is done
  abbrev pub AreBehind : Lang S → Runs S → List (Option S) → Type 0
  AreBehind l runs behind = (q : ℕ) → slice_index_or behind q None ≡ final_at l runs q
