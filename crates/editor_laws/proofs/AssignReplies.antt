-- What updates assign has names and ids.
use Rattle.std.proofs.Common.{◌≡◌, ℕ, ◌<◌, ◌≤◌, Bool, true, false, cond, List, [], ◌∷◌, map, filter, Option, Some, None, refl, ap, ◌∙◌, arith}
use Rattle.std.specs.Prelude.{slice_get}
use Rattle.std.specs.Option.{option_map_or}
use Rattle.std.specs.List.{AllByRecursion}
use Rattle.text_words.proofs.KnownLists.{each-part, each-placed}
use Rattle.text_words.specs.Members.{has}
use Rattle.text_words.proofs.KnownMembers.{has_itself, has_tail}
use Rattle.pide_base.specs.Ids.{IsId, id_end}
use Rattle.doc_nodes.specs.declared.node.Entry.{Entry}
use Rattle.doc_nodes.specs.declared.node.Node.{Node}
use Rattle.doc_nodes.specs.Imports.{NodeList, place_of}
use Rattle.exec_rules.specs.declared.row.Row.{Row}
use Rattle.exec_rules.specs.declared.version.Version.{Version}
use Rattle.exec_rules.specs.Assigning.{entries_at, entries_in, rows_in}
use Rattle.exec_rules.specs.Listed.{Told, executions, is_other, print_list, told_commands, told_commands_in}
use Rattle.exec_rules.proofs.KnownThere.{all_at}
use Rattle.core_rules.specs.Assigned.{command_ids}
use Rattle.buffer_laws.specs.Known.{AreBelow}
use Rattle.reply_messages.specs.Fits.{FitsNode, FitsRow}
use Rattle.reply_messages.specs.declared.told.CommandRow.{CommandRow}
use Rattle.reply_messages.specs.declared.told.NodeRows.{NodeRows}
use Rattle.session_rules.specs.Replies.{rows_told}
use Rattle.editor_laws.proofs.CommandNumbers.{ArePositive}
use Rattle.editor_laws.proofs.NamedSheets.{AllNamed}

-- what holds of the commands of all nodes holds of those of a name
pub entries_all : (Q : Entry → Type 0) (v : Version) (name : List ℕ)
    → AllByRecursion (λ pair. AllByRecursion Q pair.1.entries) v.nodes
    → AllByRecursion Q (entries_in v name)
entries_all Q v name all = go (place_of v.nodes name)
  where
    at : (p : ℕ) (o : Option (List ℕ × Node)) → slice_get v.nodes p ≡ o
        → AllByRecursion Q (option_map_or (λ (pair : List ℕ × Node). pair.1.entries) o [])
    at p None is = tt
    at p (Some pair) is = all_at (λ (x : List ℕ × Node). AllByRecursion Q x.1.entries) v.nodes p
        pair all is

    go : (o : Option ℕ) → AllByRecursion Q (option_map_or (entries_at v.nodes) o [])
    go None = tt
    go (Some p) = at p (slice_get v.nodes p) refl

-- commands' numbers, from 1 on and below the next one, are ids
command_ids_fit : (next : ℕ) (es : List Entry) → next ≤ id_end
    → AllByRecursion (λ (e : Entry). 1 ≤ e.command) es
    → AreBelow next (map (λ (e : Entry). e.command) es) → AllByRecursion
    (λ (e : Entry). IsId e.command) es
command_ids_fit next [] le least below = tt
command_ids_fit next (e ∷ es) le least below = (
  (least.0, omega (arith, below.0, le)),
  command_ids_fit next es le least.1 below.1,
)

pub ids_fit : (next : ℕ) (nodes : NodeList) → next ≤ id_end → ArePositive nodes
    → AreBelow next (command_ids nodes)
    → AllByRecursion (λ pair. AllByRecursion (λ (e : Entry). IsId e.command) pair.1.entries) nodes
ids_fit next [] le least below = tt
ids_fit next (pair ∷ pairs) le least below =
    let both = each-part (λ id. id < next) (map (λ (e : Entry). e.command) pair.1.entries)
    (command_ids pairs) below in
    (command_ids_fit next pair.1.entries le least.0 both.0, ids_fit next pairs le least.1 both.1)

abbrev row : Told → CommandRow
row r = record { command = r.0; executions = r.1 }

told_fit : (es : List Entry) (rows : List Row) → AllByRecursion (λ (e : Entry). IsId e.command) es
    → AllByRecursion (λ r. AllByRecursion IsId (executions r)) rows
    → AllByRecursion FitsRow (map row (told_commands es rows))
told_fit [] rows ids execs = tt
told_fit (e ∷ es) [] ids execs = ((ids.0, tt), told_fit es [] ids.1 tt)
told_fit (e ∷ es) (r ∷ rows) ids execs = ((ids.0, execs.0), told_fit es rows ids.1 execs.1)

execs_fit : (r : Row) → ((e : ℕ) → has (executions r) e ≡ true → IsId e)
    → AllByRecursion IsId (executions r)
execs_fit r each = (
  each r.evaluation (has_itself (print_list r.print) r.evaluation),
  go r.print refl,
)
  where
    go : (o : Option ℕ) → r.print ≡ o → AllByRecursion IsId (print_list o)
    go None is = tt
    go (Some q) is = (
      each q (has_tail r.evaluation q (print_list r.print)
          (ap (λ x. has (print_list x) q) is ∙ has_itself [] q)),
      tt,
    )

module _ (tip new : Version) (named : AllNamed new.nodes)
    (ids : AllByRecursion (λ pair. AllByRecursion (λ (e : Entry). IsId e.command) pair.1.entries)
    new.nodes)
    (execs : (name : List ℕ) (i e : ℕ) (r : Row) → slice_get (rows_in new name) i ≡ Some r
    → has (executions r) e ≡ true → IsId e) where
  abbrev listing : List ℕ × Node → List ℕ × List Told
  listing pair = (pair.0, told_commands_in new pair.0)

  abbrev node_rows : List ℕ × List Told → NodeRows
  node_rows node = record { node = node.0; rows = map row node.1 }

  named_fit : (name : List ℕ) → AllByRecursion FitsRow (map row (told_commands_in new name))
  named_fit name = told_fit (entries_in new name) (rows_in new name)
      (entries_all (λ (e : Entry). IsId e.command) new name ids)
      (each-placed (λ r. AllByRecursion IsId (executions r)) (rows_in new name)
      (λ i r at. execs_fit r (λ e is. execs name i e r at is)))

  listed_fit : (nodes : NodeList) → AllNamed nodes → AllByRecursion FitsNode
      (map node_rows (filter (is_other tip) (map listing nodes)))
  listed_fit [] all = tt
  listed_fit (pair ∷ pairs) all = go (is_other tip (listing pair)) (listed_fit pairs all.1)
    where
      go : (b : Bool) → AllByRecursion FitsNode (map node_rows
          (filter (is_other tip) (map listing pairs)))
          → AllByRecursion FitsNode (map node_rows (cond b
          (listing pair ∷ filter (is_other tip) (map listing pairs))
          (filter (is_other tip) (map listing pairs))))
      go true rest = ((all.0, named_fit pair.0), rest)
      go false rest = rest

  -- what an update assigns
  pub rows_fit : AllByRecursion FitsNode (rows_told tip new)
  rows_fit = listed_fit new.nodes named
