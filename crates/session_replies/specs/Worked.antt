-- What small replies tell, computed (this project's own).
use Rattle.std.specs.Prelude.{◌≡◌, ℕ, List, [], ◌∷◌, codes, Some, None}
use Rattle.pide_base.specs.declared.range.Range.{Range}
use Rattle.text_edits.specs.declared.edit.Edit.TheVariants.{Insert}
use Rattle.report_markup.specs.declared.kind.ReportKind.TheVariants as report
use Rattle.report_markup.specs.declared.report.Report.{Report}
use Rattle.message_values.specs.declared.protocol.Protocol.TheVariants.{Scalars, Symbols}
use Rattle.core_rules.specs.Shown.{PartShown}
use Rattle.session_replies.specs.Assigned.{nodes_told}
use Rattle.session_replies.specs.Marked.{marked}

-- a node of two commands, the first of which is evaluated and printed
pub record Assignments : Type 0 where
  pub told : nodes_told ((codes "A", (1, 5 ∷ 6 ∷ []) ∷ (2, []) ∷ []) ∷ []) ≡ record {
    node = codes "A";
    rows = record { command = 1; executions = 5 ∷ 6 ∷ [] }
        ∷ record { command = 2; executions = [] } ∷ [];
  } ∷ []

-- a range, and a command that is said there
abbrev pub range : ℕ → ℕ → Range
range start stop = record { start = start; stop = stop }

-- a report of a command at a range
abbrev pub said : ℕ → ℕ → Report
said start stop =
    record { range = range start stop; kind = report.Command; properties = []; text = [] }

-- a command behind a space is finished, its print is not
abbrev pub text : List ℕ
text = codes " \\<open>x"

-- a command that has reported, and one that has not
abbrev pub parts : List PartShown
parts = record { exec = 1; span = range 1 9; reports = Some (said 0 8 ∷ said 7 8 ∷ []) }
    ∷ record { exec = 2; span = range 1 9; reports = None } ∷ []

-- its reports at places of the text, in scalars from 0 and in symbols from 1; and behind an edit
-- that puts a scalar in before it
pub record Snapshots : Type 0 where
  pub scalars : marked Scalars text [] parts ≡ said 1 9 ∷ said 8 9 ∷ []
  pub symbols : marked Symbols text [] parts ≡ said 2 4 ∷ said 3 4 ∷ []
  pub edited : marked Scalars (codes "  \\<open>x") (Insert 0 (codes " ") ∷ []) parts
      ≡ said 2 10 ∷ said 9 10 ∷ []
