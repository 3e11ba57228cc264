-- Checking from nothing looks at no ids and no perspectives.
use Rattle.std.proofs.Common.{◌≡◌, ◌+◌, ℕ, zero, suc, Bool, false, not, cond, List, [], ◌∷◌, ◌++◌, length, map, filter, find, slice_get, nat_lt, Option, Some, None, option_map, refl, sym, ap, ap₂, ◌∙◌, if◌then◌else◌}
use Rattle.std.specs.List.{cons_option, flat_map, filter_map, position_or_len, range_with_len}
use Rattle.std.specs.Option.{option_and_then, option_map_or}
use Rattle.text_words.specs.Members.{has}
use Rattle.text_words.proofs.KnownLists.{map_alike}
use Rattle.doc_nodes.specs.Rounds.{in_rounds, is_known}
use Rattle.doc_nodes.specs.Looks.{aims_at}
use Rattle.doc_nodes.specs.declared.inherited.NodeAliases.{NodeAliases}
use Rattle.doc_nodes.specs.declared.node.Entry.{Entry}
use Rattle.doc_nodes.specs.declared.node.Node.{Node}
use Rattle.doc_nodes.specs.Aliases.{aliases_at, aliases_by, folded, in_turn, inherited, known, no_aliases, own_at, own_pairs, pairs_from}
use Rattle.doc_nodes.specs.Imports.{NodeList, aims, is_bad, order, ordered_places, place_of}
use Rattle.doc_nodes.specs.Names.{equal}
use Rattle.exec_rules.specs.Kept.{BlobList}
use Rattle.language.specs.Lang.{Lang}
use Rattle.language.specs.declared.made.Imported.{Imported}
use Rattle.language.specs.declared.made.Imports.TheVariants.{Ordered}
use Rattle.core_rules.specs.Scratch.{Runs, begins_at, final_at, imports_run, run_all, run_from, run_node, run_one, scratch, set_in}
use Rattle.core_rules.specs.Settings.{state_behind}
use Rattle.session_rules.specs.Checked.{CheckedCommand, CheckedNode, checked_command, checked_node, checked_nodes}

-- a node that is checked so
abbrev entry_of : CheckedCommand → Entry
entry_of c = record { command = 0; range = c.range; visible = false; needs = c.needs }

abbrev node_of : CheckedNode → Node
node_of c = record { text = c.text; entries = map entry_of c.commands; required = false; imports = c.imports; keywords = c.keywords }

abbrev pub pair_of : List ℕ × CheckedNode → List ℕ × Node
pair_of pair = (pair.0, node_of pair.1)

-- nodes without ids and perspectives
abbrev pub plain : NodeList → NodeList
plain nodes = map pair_of (checked_nodes nodes)

same_length : (nodes : NodeList) → length (plain nodes) ≡ length nodes
same_length [] = refl
same_length (pair ∷ nodes) = ap suc (same_length nodes)

same_first : (name : List ℕ) (nodes : NodeList) → position_or_len (λ (pair : List ℕ × Node). equal pair.0 name) (plain nodes) ≡ position_or_len (λ (pair : List ℕ × Node). equal pair.0 name) nodes
same_first name [] = refl
same_first name (pair ∷ nodes) = ap (λ n. cond (not (equal pair.0 name)) (1 + n) 0) (same_first name nodes)

pub same_place : (nodes : NodeList) (name : List ℕ) → place_of (plain nodes) name ≡ place_of nodes name
same_place nodes name = ap₂ (λ k n. cond (nat_lt k n) (Some k) None) (same_first name nodes) (same_length nodes)

module _ (all : NodeList) where
  same_rows : (nodes : NodeList) → map (λ (pair : List ℕ × Node). map (place_of (plain all)) pair.1.imports) (plain nodes) ≡ map (λ (pair : List ℕ × Node). map (place_of all) pair.1.imports) nodes
  same_rows [] = refl
  same_rows (pair ∷ nodes) = ap₂ (λ y ys. y ∷ ys) (map_alike (place_of (plain all)) (place_of all) (same_place all) pair.1.imports) (same_rows nodes)

  same_aims : aims (plain all) ≡ aims all
  same_aims = same_rows all

  same_ordered : ordered_places (plain all) ≡ ordered_places all
  same_ordered = ap in_rounds same_aims

  pub same_order : order (plain all) ≡ order all
  same_order = ap₂ (λ (some : List ℕ) (n : ℕ). some ++ filter (λ p. not (has some p)) (range_with_len 0 n)) same_ordered (same_length all)

  same_bad : (name : List ℕ) → is_bad (plain all) name ≡ is_bad all name
  same_bad name = ap₂ (λ some place. not (is_known some place)) same_ordered (same_place all name)

  find_same : (f g : List ℕ → Bool) → ((x : List ℕ) → f x ≡ g x) → (xs : List (List ℕ)) → find f xs ≡ find g xs
  find_same f g same [] = refl
  find_same f g same (x ∷ xs) = ap₂ (λ b o. cond b (Some x) o) (same x) (find_same f g same xs)

  pub same_at : (nodes : NodeList) (p : ℕ) → slice_get (plain nodes) p ≡ option_map (λ pair. pair_of (pair.0, checked_node pair.1)) (slice_get nodes p)
  same_at [] p = refl
  same_at (pair ∷ nodes) zero = refl
  same_at (pair ∷ nodes) (suc p) = same_at nodes p

  same_own : (p : ℕ) → own_at (plain all) p ≡ own_at all p
  same_own p = ap (λ o. option_map_or (λ (pair : List ℕ × Node). own_pairs pair.1) o []) (same_at all p) ∙ go (slice_get all p)
    where
      go : (o : Option (List ℕ × Node)) → option_map_or (λ (pair : List ℕ × Node). own_pairs pair.1) (option_map (λ pair. pair_of (pair.0, checked_node pair.1)) o) []
          ≡ option_map_or (λ (pair : List ℕ × Node). own_pairs pair.1) o []
      go None = refl
      go (Some pair) = refl

  same_inherited : (done : List (ℕ × NodeAliases)) (p : ℕ) → inherited (plain all) done p ≡ inherited all done p
  same_inherited done p = ap₂ (λ (some : List ℕ) (rows : List (List (Option ℕ))). if has some p then flat_map (pairs_from done) (aims_at rows p) else []) same_ordered same_aims

  same_aliases_by : (done : List (ℕ × NodeAliases)) (p : ℕ) → aliases_by (plain all) done p ≡ aliases_by all done p
  same_aliases_by done p = ap₂ (λ xs ys. folded no_aliases (xs ++ ys)) (same_inherited done p) (same_own p)

  same_turn : (ps : List ℕ) (done : List (ℕ × NodeAliases)) → in_turn (plain all) ps done ≡ in_turn all ps done
  same_turn [] done = refl
  same_turn (p ∷ ps) done =
      same_turn ps ((p, aliases_by (plain all) done p) ∷ done) ∙ ap (λ a. in_turn all ps ((p, a) ∷ done)) (same_aliases_by done p)

  pub same_aliases : (p : ℕ) → aliases_at (plain all) p ≡ aliases_at all p
  same_aliases p = ap (λ done. known done p) (ap (λ ps. in_turn (plain all) ps []) same_order ∙ same_turn (order all) [])

module _ {S : Type 0} (l : Lang S) (blobs : BlobList) where
  same_commands : (node : Node) (es : List Entry) (state : S)
      → run_from l (node_of (checked_node node)) blobs (map entry_of (map checked_command es)) state ≡ run_from l node blobs es state
  same_commands node [] state = refl
  same_commands node (e ∷ es) state = ap (λ more. set_in node blobs e state ∷ more) (same_commands node es (state_behind l (set_in node blobs e state)))

  filter_same : (f g : List ℕ → Option (Imported S)) → ((x : List ℕ) → f x ≡ g x) → (xs : List (List ℕ)) → filter_map f xs ≡ filter_map g xs
  filter_same f g same [] = refl
  filter_same f g same (x ∷ xs) = ap₂ cons_option (same x) (filter_same f g same xs)

  module _ (nodes : NodeList) (runs : Runs S) where
    abbrev as_import : List ℕ → S → Imported S
    as_import name state = record { name = name; state = state }

    same_imports : (imports : List (List ℕ)) (o : Option (List ℕ)) → imports_run l (plain nodes) runs imports o ≡ imports_run l nodes runs imports o
    same_imports imports None = ap Ordered (filter_same _ _
        (λ name. ap (λ o. option_map (as_import name) (option_and_then (final_at l runs) o)) (same_place nodes name)) imports)
    same_imports imports (Some name) = refl

    same_begins : (p : ℕ) (pair : List ℕ × Node) → begins_at l (plain nodes) runs p (pair_of (pair.0, checked_node pair.1)) ≡ begins_at l nodes runs p pair
    same_begins p pair =
        ap₂ (λ imports aliases. l.start pair.0 imports aliases)
        (ap (imports_run l (plain nodes) runs pair.1.imports) (find_same nodes (is_bad (plain nodes)) (is_bad nodes) (same_bad nodes) pair.1.imports)
        ∙ same_imports pair.1.imports (find (is_bad nodes) pair.1.imports))
        (same_aliases nodes p)

    same_one : (p : ℕ) → run_one l (plain nodes) blobs runs p ≡ run_one l nodes blobs runs p
    same_one p = ap (λ o. option_map_or (λ (pair : List ℕ × Node). (p, run_node l pair.1 blobs (begins_at l (plain nodes) runs p pair)) ∷ runs) o runs) (same_at nodes nodes p)
        ∙ go (slice_get nodes p)
      where
        go : (o : Option (List ℕ × Node))
            → option_map_or (λ (pair : List ℕ × Node). (p, run_node l pair.1 blobs (begins_at l (plain nodes) runs p pair)) ∷ runs) (option_map (λ pair. pair_of (pair.0, checked_node pair.1)) o) runs
            ≡ option_map_or (λ (pair : List ℕ × Node). (p, run_node l pair.1 blobs (begins_at l nodes runs p pair)) ∷ runs) o runs
        go None = refl
        go (Some pair) =
            ap₂ (λ state commands. (p, record { begins = state; commands = commands }) ∷ runs) (same_begins p pair)
            (ap (run_from l (node_of (checked_node pair.1)) blobs (map entry_of (map checked_command pair.1.entries))) (same_begins p pair)
            ∙ same_commands pair.1 pair.1.entries (begins_at l nodes runs p pair))

  same_all : (nodes : NodeList) (ps : List ℕ) (runs : Runs S) → run_all l (plain nodes) blobs ps runs ≡ run_all l nodes blobs ps runs
  same_all nodes [] runs = refl
  same_all nodes (p ∷ ps) runs = ap (run_all l (plain nodes) blobs ps) (same_one nodes runs p) ∙ same_all nodes ps (run_one l nodes blobs runs p)

  same_scratch : (nodes : NodeList) → scratch l (plain nodes) blobs ≡ scratch l nodes blobs
  same_scratch nodes = ap (λ ps. run_all l (plain nodes) blobs ps []) (same_order nodes) ∙ same_all nodes (order nodes) []

  -- nodes of which checking looks at the same
  pub checked_alike : (nodes more : NodeList) → checked_nodes nodes ≡ checked_nodes more → scratch l nodes blobs ≡ scratch l more blobs
  checked_alike nodes more same = sym (same_scratch nodes) ∙ ap (λ cs. scratch l (map pair_of cs) blobs) same ∙ same_scratch more
