-- A suggested proof that is put into its text (this project's own).
use Rattle.std.specs.Prelude.{◌≡◌, ℕ, ◌+◌, true, List, [], ◌∷◌, ◌++◌, length, map, take, drop, slice_get, Some}
use Rattle.outer_syntax.specs.Reading.{header_in}
use Rattle.doc_nodes.specs.declared.inherited.NodeAliases.{NodeAliases}
use Rattle.doc_nodes.specs.declared.node.Node.{Node}
use Rattle.exec_rules.specs.Kept.{BlobList}
use Rattle.doc_nodes.specs.Aliases.{aliases_at}
use Rattle.language.specs.declared.made.Imports.{Imports}
use Rattle.core_rules.specs.Settings.{Setting, made_of, state_behind}
use Rattle.core_rules.specs.Scratch.{Run, run_node}
use Rattle.report_markup.specs.declared.kind.ReportKind.TheVariants as kind
use Rattle.report_markup.specs.declared.report.Report.{Report}
use Rattle.buffer_rules.specs.declared.sheet.Sheet.{Sheet}
use Rattle.buffer_rules.specs.Numbers.{Command}
use Rattle.buffer_rules.specs.Nodes.{cut, uncut_all}
use Rattle.buffer_rules.specs.Sheets.{SheetList}
use Rattle.isar_rules.specs.declared.state.State.{State}
use Rattle.isar_rules.specs.Isar.{isar}
use Rattle.isar_rules.specs.Reports.{report, whole}
use Rattle.isar_rules.specs.Starts.{start_state}
use Rattle.soundness_laws.specs.Clean.{IsClean}

-- what a node begins with, beside its text
pub record Beginning : Type 0 where
  pub name : List ℕ
  pub imports : Imports State
  pub aliases : NodeAliases

-- how the node at a place of a document begins, under the aliases in force in it
abbrev pub beginning_at : SheetList → ℕ → List ℕ → Imports State → Beginning
beginning_at sheets p name imports =
    record { name = name; imports = imports; aliases = aliases_at (uncut_all sheets) p }

-- one document is the other with a new text in the sheet at a place
pub record IsEditedAt (sheets others : SheetList) (p : ℕ) (sheet : Sheet)
    (new : List ℕ) : Type 0 where
  pub front : SheetList
  pub back : SheetList
  pub name : List ℕ
  pub old_is : sheets ≡ front ++ (name, sheet) ∷ back
  pub new_is : others ≡ front ++ (name, record sheet { text = new }) ∷ back
  pub stands : length front ≡ p

-- a text as a node, when the commands before are these and the next id is this
abbrev pub node_of : Beginning → Sheet → List Command → ℕ → Node
node_of begins sheet before next = cut sheet begins.aliases.pairs before next

-- its commands, each in its state
abbrev pub run_of : Beginning → Sheet → List Command → ℕ → BlobList → Run State
run_of begins sheet before next blobs = run_node isar (node_of begins sheet before next) blobs
    (start_state begins.name begins.imports begins.aliases)

-- the report is among these
abbrev pub IsAmong : Report → List Report → Type 0
IsAmong r reports = (before : List Report) × (after : List Report) × (reports ≡ before ++ r ∷ after)

-- the print behind the command suggests the text
abbrev pub Suggests : Setting State → List ℕ → Type 0
Suggests s text = IsAmong (report kind.Suggest (whole s.source) [] text)
    (isar.print s.source (state_behind isar s))

-- the sources of a run's commands
abbrev pub sources_of : Run State → List (List ℕ)
sources_of run = map (λ s. s.source) run.commands

-- the command at a place of the run has this source, and neither its evaluation nor the fork that
-- it has reports an error
pub record IsProved (run : Run State) (k : ℕ) (text : List ℕ) : Type 0 where
  pub command : Setting State
  pub stands : slice_get run.commands k ≡ Some command
  pub source : command.source ≡ text
  pub forks : (made_of isar command).forks ≡ true
  pub clean : IsClean command

-- after the edit the header is the old one, the commands are the old ones with the text behind the
-- one that suggested it, and the text is a proof without an error
pub record IsTaken (old new : Run State) (before after text : List ℕ) (k : ℕ) : Type 0 where
  pub header : header_in after ≡ header_in before
  pub commands : sources_of new
      ≡ take (k + 1) (sources_of old) ++ text ∷ drop (k + 1) (sources_of old)
  pub proved : IsProved new (k + 1) text
