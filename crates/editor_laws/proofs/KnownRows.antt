-- An assignment lists nodes and commands of its version alone.
use Rattle.std.proofs.Common.{◌≡◌, ℕ, zero, suc, Bool, true, false, cond, List, [], ◌∷◌, map, filter, Option, Some, refl, ap, sym, ◌∙◌}
use Rattle.std.specs.Prelude.{slice_get, not, ◌||◌}
use Rattle.std.specs.Option.{option_map_or}
use Rattle.std.specs.List.{list_any}
use Rattle.text_words.specs.Members.{has}
use Rattle.text_words.proofs.KnownOptions.{one_of}
use Rattle.shared_map.specs.Pairs.{IsSorted, found}
use Rattle.doc_nodes.specs.declared.node.Entry.{Entry}
use Rattle.doc_nodes.specs.declared.node.Node.{Node}
use Rattle.doc_nodes.specs.Names.{in_order}
use Rattle.doc_nodes.specs.Imports.{NodeList, place_of}
use Rattle.doc_nodes.proofs.KnownPlaces.{place_named}
use Rattle.exec_rules.specs.declared.row.Row.{Row}
use Rattle.exec_rules.specs.declared.version.Version.{Version}
use Rattle.exec_rules.specs.Assigning.{entries_in, rows_in}
use Rattle.exec_rules.specs.Listed.{is_other, told_commands, told_commands_in}
use Rattle.core_rules.proofs.KnownCommands.{ids, id_there}
use Rattle.reply_messages.specs.declared.told.CommandRow.{CommandRow}
use Rattle.session_rules.specs.Replies.{rows_told}
use Rattle.mirror_rules.specs.Rows.{has_command, is_unknown}
use Rattle.editor_laws.proofs.Known.{entries_named}
use Rattle.editor_laws.proofs.Listed.{told_rows}
use Rattle.editor_laws.proofs.Named.{found_at}

themselves : (nodes : NodeList) → map (λ (pair : List ℕ × Node). (pair.0, pair.1)) nodes ≡ nodes
themselves [] = refl
themselves (n ∷ ns) = ap (λ xs. n ∷ xs) (themselves ns)

-- the node of a name
pub node_found : (nodes : NodeList) (p : ℕ) (pair : List ℕ × Node) → IsSorted in_order nodes → slice_get nodes p ≡ Some pair
    → found in_order pair.0 nodes ≡ Some pair.1
node_found nodes p pair sorted at =
    ap (found in_order pair.0) (sym (themselves nodes)) ∙ found_at (λ (x : List ℕ × Node). x.1) nodes p pair one at
  where
    node : (o : Option (List ℕ × Node)) (a b : List ℕ × Node) → o ≡ Some a → o ≡ Some b → a.1 ≡ b.1
    node o a b x y = let same : a ≡ b = cc in ap (λ (z : List ℕ × Node). z.1) same

    one : (q : ℕ) (other : List ℕ × Node) → slice_get nodes q ≡ Some other → other.0 ≡ pair.0 → other.1 ≡ pair.1
    one q other there same =
        let e : q ≡ p = one_of (place_of nodes pair.0) q p (ap (place_of nodes) (sym same) ∙ place_named nodes q other sorted there) (place_named nodes p pair sorted at) in
        node (slice_get nodes p) other pair (ap (slice_get nodes) (sym e) ∙ there) at

rows_known : (name xs : List ℕ) (es : List Entry) (rows : List Row) → ((i : ℕ) (e : Entry) → slice_get es i ≡ Some e → has xs e.command ≡ true)
    → list_any (λ (r : CommandRow). not (has xs r.command))
    (told_rows (name, told_commands es rows)).rows ≡ false
rows_known name xs [] rows each = refl
rows_known name xs (e ∷ es) [] each =
    ap (λ b. not b || list_any (λ (r : CommandRow). not (has xs r.command)) (told_rows (name, told_commands es [])).rows) (each zero e refl)
    ∙ rows_known name xs es [] (λ i x at. each (suc i) x at)
rows_known name xs (e ∷ es) (row ∷ rows) each =
    ap (λ b. not b || list_any (λ (r : CommandRow). not (has xs r.command)) (told_rows (name, told_commands es rows)).rows) (each zero e refl)
    ∙ rows_known name xs es rows (λ i x at. each (suc i) x at)

module _ (tip new : Version) (sorted : IsSorted in_order new.nodes) where
  abbrev named : List ℕ × Node → List ℕ × List (ℕ × List ℕ)
  named n = (n.0, told_commands_in new n.0)

  known_at : (p : ℕ) (pair : List ℕ × Node) → slice_get new.nodes p ≡ Some pair → is_unknown new.nodes (told_rows (named pair)) ≡ false
  known_at p pair at =
      ap (λ o. option_map_or (λ (node : Node). list_any (λ (r : CommandRow). not (has_command node r.command)) (told_rows (named pair)).rows) o true)
      (node_found new.nodes p pair sorted at)
      ∙ rows_known pair.0 (ids pair.1.entries) (entries_in new pair.0) (rows_in new pair.0)
      (λ i e here. id_there pair.1.entries i e (ap (λ es. slice_get es i) (sym (entries_named new p pair sorted at)) ∙ here))

  none_listed : (ns : NodeList) → ((i : ℕ) (pair : List ℕ × Node) → slice_get ns i ≡ Some pair → is_unknown new.nodes (told_rows (named pair)) ≡ false)
      → list_any (is_unknown new.nodes) (map told_rows (filter (is_other tip) (map named ns))) ≡ false
  none_listed [] each = refl
  none_listed (n ∷ ns) each = go (is_other tip (named n)) (none_listed ns (λ i pair at. each (suc i) pair at))
    where
      go : (c : Bool) → list_any (is_unknown new.nodes) (map told_rows (filter (is_other tip) (map named ns))) ≡ false
          → list_any (is_unknown new.nodes) (map told_rows (cond c (named n ∷ filter (is_other tip) (map named ns)) (filter (is_other tip) (map named ns)))) ≡ false
      go true rest = ap (λ b. b || list_any (is_unknown new.nodes) (map told_rows (filter (is_other tip) (map named ns)))) (each zero n refl) ∙ rest
      go false rest = rest

  -- nothing unknown is listed
  pub none_unknown : list_any (is_unknown new.nodes) (rows_told tip new) ≡ false
  none_unknown = none_listed new.nodes known_at
