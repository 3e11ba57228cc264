-- What an update tells of its nodes, by place.
use Rattle.std.proofs.Common.{◌≡◌, ℕ, zero, suc, ◌+◌, ◌<◌, ◌≤◌, Bool, true, false, cond, List, [], ◌∷◌, ◌++◌, length, map, filter, drop, get_or, Option, Some, refl, sym, ap, ◌∙◌, append_assoc, append-nil}
use Rattle.std.proofs.lemmas.List.{drop_more, drop_all}
use Rattle.std.specs.Prelude.{slice_get, not}
use Rattle.std.specs.Option.{option_map_or, option_and_then}
use Rattle.shared_map.specs.Pairs.{IsSorted}
use Rattle.doc_nodes.specs.declared.node.Entry.{Entry}
use Rattle.doc_nodes.specs.declared.node.Node.{Node}
use Rattle.doc_nodes.specs.Names.{in_order}
use Rattle.doc_nodes.specs.Imports.{NodeList}
use Rattle.doc_nodes.proofs.KnownPlaces.{place_named}
use Rattle.exec_rules.specs.declared.row.Row.{Row}
use Rattle.exec_rules.specs.declared.row.Assigned.{Assigned}
use Rattle.exec_rules.specs.Keys.{nothing_assigned}
use Rattle.exec_rules.specs.Assigning.{Update, entries_at, rows_in}
use Rattle.exec_rules.specs.Listed.{Told, told_commands, told_commands_in, is_other, listed}
use Rattle.exec_rules.proofs.KnownThere.{get_there}
use Rattle.exec_assign.specs.Telling.{update_version}
use Rattle.exec_assign.specs.Told.{told_at}
use Rattle.exec_assign.specs.Work.{HasStood}
use Rattle.exec_assign.proofs.FitLemmas.{got}
use Rattle.exec_assign.proofs.TellLemmas.{same_tells}

pub rows_or : (all : List Assigned) (p : ℕ) → option_map_or (λ a. a.rows) (slice_get all p) [] ≡ (get_or all p nothing_assigned).rows
rows_or [] p = refl
rows_or (a ∷ all) zero = refl
rows_or (a ∷ all) (suc p) = rows_or all p

-- what the version that is made tells of the node at a place
pub told_placed : (u : Update) (all : List Assigned) (p : ℕ) (pair : List ℕ × Node) → IsSorted in_order u.nodes → slice_get u.nodes p ≡ Some pair
    → (pair.0, told_commands_in (update_version u all) pair.0) ≡ told_at all p pair
told_placed u all p pair sorted at =
    ap (λ (ts : List Told). (pair.0, ts))
    (ap (λ (o : Option ℕ). told_commands (option_map_or (entries_at u.nodes) o [])
    (option_map_or (λ (a : Assigned). a.rows) (option_and_then (slice_get all) o) [])) (place_named u.nodes p pair sorted at)
    ∙ ap (λ (o : Option (List ℕ × Node)). told_commands (option_map_or (λ x. x.1.entries) o []) (option_map_or (λ (a : Assigned). a.rows) (slice_get all p) [])) at
    ∙ ap (λ (rs : List Row). told_commands pair.1.entries rs) (rows_or all p))

-- a node that has what it had is told as before
stood_tells : (u : Update) (pair : List ℕ × Node) (a : Assigned) → HasStood u pair a → told_commands pair.1.entries a.rows ≡ told_commands_in u.tip pair.0
stood_tells u pair a stood =
    sym (ap (λ (es : List Entry). told_commands es (rows_in u.tip pair.0)) stood.untouched.commands
    ∙ ap (λ (o : Option Assigned). told_commands pair.1.entries
    (option_map_or (λ x. x.rows) o [])) stood.had)

pub none_told : (u : Update) (all : List Assigned) (p : ℕ) (pair : List ℕ × Node) → HasStood u pair (get_or all p nothing_assigned)
    → filter (is_other u.tip) (told_at all p pair ∷ []) ≡ []
none_told u all p pair stood =
    let a = get_or all p nothing_assigned in
    ap (λ b. cond (not b) (told_at all p pair ∷ []) []) (same_tells (told_commands pair.1.entries a.rows) (told_commands_in u.tip pair.0) (stood_tells u pair a stood))

-- a node that is told otherwise is added
pub told_added : (u : Update) (made : List Assigned) (p : ℕ) (pair : List ℕ × Node) (name : List ℕ) (node : Node) (rows : List Row)
    → (one : List ℕ × List Told) (before more : List (List ℕ × List Told)) → (name, node) ≡ pair → rows ≡ (get_or made p nothing_assigned).rows
    → one ≡ (name, told_commands node.entries rows) → is_other u.tip (name, told_commands node.entries rows) ≡ true → more ≡ before ++ one ∷ []
    → more ≡ before ++ filter (is_other u.tip) (told_at made p pair ∷ [])
told_added u made p pair name node rows one before more ep er eo other em =
    let same : (name, told_commands node.entries rows) ≡ told_at made p pair =
    ap (λ (rs : List Row). (name, told_commands node.entries rs)) er ∙ ap (told_at made p) ep in
    em ∙ ap (λ (x : List ℕ × List Told). before ++ x ∷ []) (eo ∙ same)
    ∙ ap (λ b. before ++ cond b (told_at made p pair ∷ []) []) (sym (sym (ap (is_other u.tip) same) ∙ other))

filter_one : {X : Type 0} (test : X → Bool) (x : X) (xs : List X) → filter test (x ∷ xs) ≡ filter test (x ∷ []) ++ filter test xs
filter_one test x xs = go (test x)
  where
    go : (b : Bool) → cond b (x ∷ filter test xs) (filter test xs) ≡ cond b (x ∷ []) [] ++ filter test xs
    go true = refl
    go false = refl

-- what is told of nodes of the version that is made
abbrev pub told_of : Update → List Assigned → NodeList → List (List ℕ × List Told)
told_of u all nodes = filter (is_other u.tip)
    (map (λ pair. (pair.0, told_commands_in (update_version u all) pair.0)) nodes)

-- the next node
pub told_more : (u : Update) (made : List Assigned) (p : ℕ) (before more all : List (List ℕ × List Told)) → IsSorted in_order u.nodes → p < length u.nodes
    → ((pair : List ℕ × Node) → slice_get u.nodes p ≡ Some pair → more ≡ before ++ filter (is_other u.tip) (told_at made p pair ∷ []))
    → before ++ told_of u made (drop p u.nodes) ≡ all → more ++ told_of u made (drop (p + 1) u.nodes) ≡ all
told_more u made p before more all sorted lt here done =
    let found = get_there u.nodes p lt in
    let pair : List ℕ × Node = found.0 in
    let rest = told_of u made (drop (p + 1) u.nodes) in
    let nodes : drop p u.nodes ≡ pair ∷ drop (p + 1) u.nodes =
    drop_more u.nodes p pair lt ∙ ap (λ (x : List ℕ × Node). x ∷ drop (p + 1) u.nodes) (got u.nodes p pair pair found.1) in
    ap (λ (xs : List (List ℕ × List Told)). xs ++ rest) (here pair found.1)
    ∙ append_assoc before (filter (is_other u.tip) (told_at made p pair ∷ [])) rest
    ∙ ap (λ (xs : List (List ℕ × List Told)). before ++ xs)
    (ap (λ (x : List ℕ × List Told). filter (is_other u.tip) (x ∷ []) ++ rest) (sym (told_placed u made p pair sorted found.1))
    ∙ sym (filter_one (is_other u.tip) (pair.0, told_commands_in (update_version u made) pair.0) (map (λ pair. (pair.0, told_commands_in (update_version u made) pair.0)) (drop (p + 1) u.nodes)))
    ∙ ap (told_of u made) (sym nodes))
    ∙ done

-- none are left
pub told_done : (u : Update) (made : List Assigned) (p : ℕ) (all : List (List ℕ × List Told)) → length u.nodes ≤ p
    → all ++ told_of u made (drop p u.nodes) ≡ listed u.tip (update_version u made)
    → all ≡ listed u.tip (update_version u made)
told_done u made p all le done =
    sym (append-nil all) ∙ ap (λ (ns : NodeList). all ++ told_of u made ns) (sym (drop_all p u.nodes le)) ∙ done
