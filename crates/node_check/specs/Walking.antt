-- The commands of a text one after the other, with what they report (this project's own).
use Rattle.std.specs.Prelude.{ℕ, ◌≤◌, if◌then◌else◌, List, [], ◌∷◌, ◌++◌, map, None}
use Rattle.pide_base.specs.declared.range.Range.{Range}
use Rattle.report_markup.specs.declared.report.Report.{Report}
use Rattle.report_markup.specs.Ranges.{moved}
use Rattle.buffer_rules.specs.Cuts.{source}
use Rattle.language.specs.Lang.{Lang}
use Rattle.core_rules.specs.Settings.{Setting, made_of, forked, state_behind}

-- a range lies in a text of so many scalars
abbrev pub LiesIn : ℕ → Range → Type 0
LiesIn len range = (range.start ≤ range.stop) × (range.stop ≤ len)

-- the command at a place of the text, in a state: there are no blobs
abbrev pub setting_at : {S : Type 0} → List ℕ → Range → S → Setting S
setting_at text range state = record { source = source text range; blob = None; state = state }

-- what a command reports, and its fork if it has one
abbrev pub reports_in : {S : Type 0} → Lang S → Setting S → List Report
reports_in l s = (made_of l s).reports ++ (if (made_of l s).forks then forked l s else [])

-- the same, at its place
abbrev pub reports_at : {S : Type 0} → Lang S → List ℕ → Range → S → List Report
reports_at l text range state = map (moved range.start) (reports_in l (setting_at text range state))

-- the state behind it
abbrev pub state_at : {S : Type 0} → Lang S → List ℕ → Range → S → S
state_at l text range state = state_behind l (setting_at text range state)

-- what the commands at these places report, the first of them in a state
abbrev pub reports_from : {S : Type 0} → Lang S → List ℕ → List Range → S → List Report
reports_from l text [] state = []
reports_from l text (r ∷ rs) state =
    reports_at l text r state ++ reports_from l text rs (state_at l text r state)

-- the state behind the last of them
abbrev pub state_from : {S : Type 0} → Lang S → List ℕ → List Range → S → S
state_from l text [] state = state
state_from l text (r ∷ rs) state = state_from l text rs (state_at l text r state)
