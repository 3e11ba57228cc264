-- A document of one node: its order, and what the node has from its imports.
use Rattle.std.proofs.Common.{◌≡◌, ◌⊎◌, ℕ, Bool, true, false, not, List, [], ◌∷◌, ◌++◌, Option, Some, None, filter, refl, ap, inl, inr}
use Rattle.std.proofs.lemmas.Bool.{cond-true, cond-false}
use Rattle.std.specs.List.{filter_map}
use Rattle.std.specs.Option.{option_map, option_and_then}
use Rattle.text_words.specs.Members.{has}
use Rattle.doc_nodes.specs.Rounds.{is_next}
use Rattle.doc_nodes.specs.declared.node.Node.{Node}
use Rattle.doc_nodes.specs.Imports.{NodeList, aims, order, ordered_places, place_of}
use Rattle.language.specs.Lang.{Lang}
use Rattle.language.specs.declared.made.Imported.{Imported}
use Rattle.language.specs.declared.made.Imports.TheVariants.{Ordered}
use Rattle.core_rules.specs.Scratch.{final_at, import_run, imports_run}
use Rattle.text_check.specs.Headings.{imports_of}

-- one number passes a test, or none is left
filter_one : (f : ℕ → Bool) (p : ℕ) → (filter f (p ∷ []) ≡ p ∷ []) ⊎ (filter f (p ∷ []) ≡ [])
filter_one f p = go (f p) refl where
  go : (b : Bool) → f p ≡ b → (filter f (p ∷ []) ≡ p ∷ []) ⊎ (filter f (p ∷ []) ≡ [])
  go true test = inl (cond-true (f p) (p ∷ []) [] test)
  go false test = inr (cond-false (f p) (p ∷ []) [] test)

-- the others are behind it
with_others : (some : List ℕ) → (some ≡ 0 ∷ []) ⊎ (some ≡ [])
    → some ++ filter (λ p. not (has some p)) (0 ∷ []) ≡ 0 ∷ []
with_others some (inl one) = rw one refl
with_others some (inr none) = rw none refl

-- the only node is first, ordered or not
pub order_one : (name : List ℕ) (node : Node) → order ((name, node) ∷ []) ≡ 0 ∷ []
order_one name node = with_others (ordered_places ((name, node) ∷ []))
    (filter_one (is_next (aims ((name, node) ∷ [])) []) 0)

-- where no node is done no place has a state
nothing_done : {S : Type 0} (l : Lang S) (p : Option ℕ) → option_and_then (final_at l []) p ≡ None
nothing_done l None = refl
nothing_done l (Some p) = refl

-- an import with its state
abbrev with_state : {S : Type 0} → List ℕ → S → Imported S
with_state name state = record { name = name; state = state }

-- so no import has one
no_state : {S : Type 0} (l : Lang S) (nodes : NodeList) (name : List ℕ) → import_run l nodes [] name ≡ None
no_state l nodes name = ap (option_map (with_state name)) (nothing_done l (place_of nodes name))

no_states : {S : Type 0} (l : Lang S) (nodes : NodeList) (imports : List (List ℕ))
    → filter_map (import_run l nodes []) imports ≡ []
no_states l nodes [] = refl
no_states l nodes (name ∷ names) = rw (no_state l nodes name) (no_states l nodes names)

-- and the node has nothing from them
pub imports_one : {S : Type 0} (l : Lang S) (nodes : NodeList) (imports : List (List ℕ)) (bad : Option (List ℕ))
    → imports_run l nodes [] imports bad ≡ imports_of bad
imports_one l nodes imports None = ap Ordered (no_states l nodes imports)
imports_one l nodes imports (Some name) = refl
