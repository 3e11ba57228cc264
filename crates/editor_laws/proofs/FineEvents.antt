-- Updates with ids, names of nodes and headers of identifiers.
use Rattle.std.proofs.Common.{◌≡◌, ℕ, map}
use Rattle.std.specs.Prelude.{⊤}
use Rattle.std.specs.List.{AllByRecursion}
use Rattle.pide_base.specs.Ids.{IsId}
use Rattle.doc_nodes.specs.Imports.{NodeList}
use Rattle.buffer_rules.specs.Nodes.{nodes_after}
use Rattle.buffer_rules.specs.Sheets.{SheetList}
use Rattle.core_rules.specs.declared.event.Event.{Event}
use Rattle.core_rules.specs.declared.event.Event.TheVariants as event
use Rattle.session_rules.specs.Session.{Session}
use Rattle.editor_laws.specs.Headed.{AreHeaded}
use Rattle.editor_laws.proofs.NamedSheets.{AllNamed}

-- an update has the id of a version, names of nodes, and headers of identifiers
abbrev pub IsFine : Event → Type 0
IsFine (event.Update id nodes blobs) = IsId id × AllNamed nodes × AreHeaded nodes
IsFine other = ⊤

-- so of all events of a session, whose sheets have names of nodes
pub record FineSession (s : Session) : Type 0 where
  pub sheets : AllNamed s.buffer.document.sheets
  pub events : AllByRecursion IsFine s.events

-- what is known of nodes that are made of sheets
pub record NodeLaws : Type 0 where
  pub named : (tip : NodeList) (sheets : SheetList) (next : ℕ)
      → map (λ pair. pair.0) (nodes_after tip sheets next).nodes ≡ map (λ pair. pair.0) sheets
  pub headed : (tip : NodeList) (sheets : SheetList) (next : ℕ)
      → AreHeaded (nodes_after tip sheets next).nodes
