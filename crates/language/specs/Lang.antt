-- A language of commands, as a record of functions over its states.
use Rattle.std.specs.Prelude.{ℕ, List, Option}
use Rattle.doc_nodes.specs.declared.inherited.NodeAliases.{NodeAliases}
use Rattle.report_markup.specs.declared.report.Report.{Report}
use Rattle.language.specs.declared.made.Imports.{Imports}
use Rattle.language.specs.declared.made.Made.{Made}

-- how a node begins; what a command makes, with its blob; what it forks, by the state before it;
-- what is printed, by the state behind it (Wenzel, ITP 2014)
pub record Lang (S : Type 0) : Type 0 where
  pub start : List ℕ → Imports S → NodeAliases → S
  pub step : List ℕ → Option (List ℕ) → S → Made S
  pub fork : List ℕ → S → List Report
  pub print : List ℕ → S → List Report
