-- What is told of a node's results (this project's own).
use Rattle.std.specs.Prelude.{◌≡◌, ℕ, Bool, List, filter, map, Option, Some, None, is_some}
use Rattle.doc_nodes.specs.Imports.{place_of}
use Rattle.core_tables.specs.Live.{version_of}
use Rattle.exec_rules.specs.declared.version.Version.{Version}
use Rattle.language.specs.Lang.{Lang}
use Rattle.core_rules.specs.declared.event.Event.{Event}
use Rattle.core_rules.specs.Doc.{doc}
use Rattle.core_rules.specs.Shown.{PartShown, parts_shown, pending}
use Rattle.core_jobs.specs.declared.results.NodeResults.{NodeResults}
use Rattle.core_jobs.specs.Parts.{told_part}

-- the part is finished
abbrev pub is_reported : PartShown → Bool
is_reported part = is_some part.reports

-- these are the results of the node in a version: its finished parts in the order of commands, and
-- the executions with an unfinished part, rising
pub record AreResultsIn {S : Type 0} (l : Lang S) (h : List Event) (id : ℕ) (name : List ℕ)
    (results : NodeResults) : Type 0 where
  pub version : Version
  pub live : version_of (doc l h).live id ≡ Some version
  pub place : ℕ
  pub node : place_of version.nodes name ≡ Some place
  pub parts : map told_part results.parts.items
      ≡ filter is_reported (parts_shown l h (doc l h) version name)
  pub pending_is : results.pending.items ≡ pending l h (doc l h) version name

-- there are none exactly where no such version is live, or it has no such node
abbrev pub AreResults : {S : Type 0} → Lang S → List Event → ℕ → List ℕ → Option NodeResults
    → Type 0
AreResults l h id name (Some results) = AreResultsIn l h id name results
AreResults l h id name None = (version : Version) → version_of (doc l h).live id ≡ Some version
    → place_of version.nodes name ≡ None
