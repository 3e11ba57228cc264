-- What the assignment of a node rests on outside of the node (this project's own).
use Rattle.std.specs.Prelude.{ℕ, ◌==◌, Bool, false, true, ◌&&◌, List, [], ◌∷◌, length, map, find, slice_get, Option, Some, None}
use Rattle.std.specs.Option.{option_map_or}
use Rattle.doc_nodes.specs.declared.node.Entry.{Entry}
use Rattle.doc_nodes.specs.declared.node.Node.{Node}
use Rattle.doc_nodes.specs.Names.{equal}
use Rattle.doc_nodes.specs.Imports.{NodeList, aims_of, is_bad}
use Rattle.exec_rules.specs.declared.key.Last.{Last}
use Rattle.exec_rules.specs.declared.key.Last.TheVariants.{Empty, Open, Made}
use Rattle.exec_rules.specs.declared.key.Key.{Key}
use Rattle.exec_rules.specs.declared.key.Key.TheVariants.{Lasts, BadImport}
use Rattle.exec_rules.specs.declared.row.Row.{Row}
use Rattle.exec_rules.specs.declared.row.Assigned.{Assigned}

-- what a last command has by its row
abbrev pub by_row : Option Row → Last
by_row None = Open
by_row (Some row) = Made row.evaluation

-- what the last of these commands has, where the first of them have these rows
abbrev pub last_of : List Entry → List Row → Last
last_of [] rows = Empty
last_of (e ∷ es) rows = by_row (slice_get rows (length es))

-- nothing is assigned
abbrev pub nothing_assigned : Assigned
nothing_assigned = record { key = Lasts []; rows = [] }

-- what the node at a place is assigned, among what is assigned so far
abbrev pub assigned_at : List (ℕ × Assigned) → ℕ → Assigned
assigned_at done p = option_map_or (λ one. one.1) (find (λ one. one.0 == p) done) nothing_assigned

-- what the last command of the node at a place has
abbrev pub last_at : NodeList → List (ℕ × Assigned) → ℕ → Last
last_at nodes done p = option_map_or
    (λ pair. last_of pair.1.entries (assigned_at done p).rows) (slice_get nodes p) Empty

-- what the last command of an import has
abbrev pub aimed : NodeList → List (ℕ × Assigned) → Option ℕ → Last
aimed nodes done None = Empty
aimed nodes done (Some p) = last_at nodes done p

-- by the first bad import, if there is one
abbrev pub key_by : Option (List ℕ) → List Last → Key
key_by None lasts = Lasts lasts
key_by (Some name) lasts = BadImport name

-- the key of a node, when its imports are assigned
abbrev pub key_of : NodeList → List (ℕ × Assigned) → Node → Key
key_of nodes done node =
    key_by (find (is_bad nodes) node.imports) (map (aimed nodes done) (aims_of nodes node))

-- both last commands have the same
abbrev pub same_last : Last → Last → Bool
same_last Empty Empty = true
same_last Open Open = true
same_last (Made e) (Made f) = e == f
same_last a b = false

-- and so have all
abbrev pub same_lasts : List Last → List Last → Bool
same_lasts [] [] = true
same_lasts (x ∷ xs) (y ∷ ys) = same_last x y && same_lasts xs ys
same_lasts xs ys = false

-- both keys are the same
abbrev pub same_key : Key → Key → Bool
same_key (Lasts xs) (Lasts ys) = same_lasts xs ys
same_key (BadImport x) (BadImport y) = equal x y
same_key a b = false
