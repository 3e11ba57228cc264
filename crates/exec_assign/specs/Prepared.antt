-- What an update keeps at hand (this project's own).
use Rattle.std.specs.Prelude.{◌≡◌, ℕ, ◌<◌, Bool, List, length, slice_get, Some}
use Rattle.doc_nodes.specs.declared.inherited.NodeAliases.{NodeAliases}
use Rattle.doc_nodes.specs.Graph.{Graph}
use Rattle.doc_nodes.specs.Graphs.{IsGraphOf}
use Rattle.doc_nodes.specs.Wanted.{wanted_counts}
use Rattle.doc_nodes.specs.Aliases.{aliases_at}
use Rattle.exec_rules.specs.Assigning.{Update}
use Rattle.exec_assign.specs.Fitting.{RowsFit}
use Rattle.exec_assign.specs.Untouched.{AreChanged, AreUntouched}

-- what is told of an update holds, and the rest is that of its nodes
pub record IsPrepared (u : Update) (changed : List (List ℕ × Unit {0})) (untouched : List Bool)
    (graph : Graph) (wanted : List ℕ) (aliases : List NodeAliases) : Type 0 where
  pub changed_are : AreChanged changed u.tip.blobs u.blobs
  pub untouched_are : AreUntouched u untouched
  pub rows_fit : RowsFit u.tip
  pub graph_is : IsGraphOf u.nodes graph
  pub wanted_are : wanted ≡ wanted_counts u.nodes
  pub all_aliases : length aliases ≡ length u.nodes
  pub aliases_are : (p : ℕ) → p < length u.nodes → slice_get aliases p ≡ Some (aliases_at u.nodes p)
