-- Nodes that are cut one after the other (this project's own).
use Rattle.std.specs.Prelude.{◌≡◌, ℕ, ◌<◌, ◌≤◌, Bool, true, false, List, [], ◌∷◌, ◌++◌, length, slice_get, Option, Some, None, Result, Ok, Err}
use Rattle.std.specs.List.{AllZip}
use Rattle.shared_map.specs.Pairs.{IsSorted, found}
use Rattle.shared_map.specs.Changes.{put}
use Rattle.pide_base.specs.Ids.{id_end}
use Rattle.message_values.specs.declared.refusal.Refusal.TheVariants.{Limit}
use Rattle.doc_nodes.specs.declared.node.Node.{Node}
use Rattle.doc_nodes.specs.Names.{in_order}
use Rattle.doc_nodes.specs.Imports.{NodeList}
use Rattle.doc_nodes.specs.Needs.{AliasList}
use Rattle.buffer_rules.specs.Sheets.{SheetList}
use Rattle.buffer_rules.specs.Nodes.{AreKept, Numbered, cut, before_in, uncut_all, nodes_from, nodes_after}
use Rattle.editor_buffer.specs.OpenSheet.{OpenSheet}
use Rattle.editor_buffer.specs.declared.fault.PrepareError.{PrepareError}
use Rattle.editor_buffer.specs.declared.fault.PrepareError.TheVariants.{Refused, NoMemory}
use Rattle.editor_buffer.specs.Standing.{OpenList, sheets_of, IsCutFrom, Stands, AreInForce, Drafted}
use Rattle.editor_buffer.specs.CutNodes.{next_after}
use Rattle.editor_buffer.specs.declared.cutting.Remade.{Remade}
use Rattle.editor_buffer.specs.declared.cutting.Cutting.{Cutting}

-- the node of a name is cut from its sheet to this node, behind which this is the next id
pub record IsCutTo (tip : NodeList) (name : List ℕ) (opened : OpenSheet) (aliases : AliasList)
    (next : ℕ) (node : Node) (then : ℕ) : Type 0 where
  pub node_is : node ≡ cut opened.sheet aliases (before_in tip name) next
  pub next_is : then ≡ next_after opened.sheet aliases (before_in tip name) next
  pub within : then ≤ id_end
  pub cut_from : IsCutFrom opened.sheet aliases node

-- a node stays where it was cut under the same aliases and is the tip's; else it is cut
abbrev pub GivesRemade : NodeList → List ℕ → OpenSheet → Node → AliasList → ℕ
    → Result (Option Remade) PrepareError → Type 0
GivesRemade tip name opened node aliases next (Ok None) =
    IsCutTo tip name opened aliases next node next × (opened.cut_under ≡ Some aliases)
    × (found in_order name tip ≡ Some node)
GivesRemade tip name opened node aliases next (Ok (Some made)) =
    IsCutTo tip name opened aliases next made.node made.next
    × (made.opened ≡ record { sheet = opened.sheet; cut_under = Some aliases })
GivesRemade tip name opened node aliases next (Err NoMemory) = Unit {0}
GivesRemade tip name opened node aliases next (Err (Refused refusal)) = (refusal ≡ Limit)
    × (id_end < next_after opened.sheet aliases (before_in tip name) next)

-- a node that was cut is put in its place
pub record IsPut (c : Cutting) (name : List ℕ) (made : Remade) (d : Cutting) : Type 0 where
  pub open_is : d.opened ≡ put in_order (name, made.opened) c.opened
  pub nodes_are : d.nodes ≡ put in_order (name, made.node) c.nodes
  pub sorted_open : IsSorted in_order d.opened
  pub sorted : IsSorted in_order d.nodes
  pub next_is : d.next ≡ made.next
  pub marks_are : d.untouched.items ≡ c.untouched.items ++ false ∷ []

-- an error that tells that ids pass the last one, or nothing
abbrev pub PassesLast : Numbered → PrepareError → Type 0
PassesLast numbered (Refused refusal) = (refusal ≡ Limit) × (id_end < numbered.next)
PassesLast numbered NoMemory = Unit {0}

-- all of them, where this was the next id before the update
abbrev pub whole : NodeList → SheetList → ℕ → Numbered
whole tip sheets first = nodes_after tip sheets first

-- nodes of which those before a place are cut: then cutting the others comes to the whole
pub record IsCutUpTo (tip : NodeList) (sheets : SheetList) (first : ℕ) (place : ℕ)
    (c : Cutting) : Type 0 where
  pub front_open : OpenList
  pub rest_open : OpenList
  pub front : NodeList
  pub rest : NodeList
  pub open_is : c.opened ≡ front_open ++ rest_open
  pub nodes_is : c.nodes ≡ front ++ rest
  pub place_is : length front ≡ place
  pub sorted_open : IsSorted in_order c.opened
  pub sorted : IsSorted in_order c.nodes
  pub done : AllZip Stands front_open front
  pub in_force : AreInForce (uncut_all sheets) front_open
  pub drafted : AllZip (Drafted tip) rest_open rest
  pub sheets_are : sheets_of c.opened ≡ sheets
  pub made : front
      ++ (nodes_from tip (uncut_all sheets) place (sheets_of rest_open) c.next).nodes
      ≡ (whole tip sheets first).nodes
  pub then : (nodes_from tip (uncut_all sheets) place (sheets_of rest_open) c.next).next
      ≡ (whole tip sheets first).next
  pub least : 1 ≤ c.next
  pub most : c.next ≤ id_end
  pub counted : length c.untouched.items ≡ place
  pub kept : AreKept tip c.untouched.items front

-- all nodes are cut
pub record IsCutWhole (tip : NodeList) (sheets : SheetList) (first : ℕ)
    (c : Cutting) : Type 0 where
  pub nodes_are : c.nodes ≡ (whole tip sheets first).nodes
  pub next_is : c.next ≡ (whole tip sheets first).next
  pub sheets_are : sheets_of c.opened ≡ sheets
  pub stands : AllZip Stands c.opened c.nodes
  pub in_force : AreInForce c.nodes c.opened
  pub least : 1 ≤ c.next
  pub most : c.next ≤ id_end
  pub kept : AreKept tip c.untouched.items c.nodes
