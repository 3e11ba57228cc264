-- Small theories, and how their commands' answers are told (this project's own).
use Rattle.std.specs.Prelude.{ℕ, List, [], ◌∷◌, codes, None}
use Rattle.pide_base.specs.declared.range.Range.{Range}
use Rattle.nj_formula.specs.declared.formula.Formula.{Formula}
use Rattle.nj_formula.specs.declared.formula.Formula.TheVariants.{Atom}
use Rattle.theory_ctx.specs.Facts.{Fact}
use Rattle.proof_state.specs.declared.levels.Levels.{Levels}
use Rattle.proof_state.specs.declared.levels.Levels.TheVariants.{Prove, State as Stated}
use Rattle.proof_state.specs.declared.subgoal.Subgoal.{Subgoal}
use Rattle.report_markup.specs.declared.kind.ReportKind.{ReportKind}
use Rattle.report_markup.specs.declared.kind.ReportKind.TheVariants as kind
use Rattle.report_markup.specs.declared.property.Property.{Property}
use Rattle.report_markup.specs.declared.report.Report.{Report}
use Rattle.isar_rules.specs.declared.state.Given.TheVariants.{Facts}
use Rattle.isar_rules.specs.declared.state.Place.{Place}
use Rattle.isar_rules.specs.declared.state.Place.TheVariants as place
use Rattle.isar_rules.specs.declared.state.State.{State}
use Rattle.isar_rules.specs.Reports.{report, name_is}
use Rattle.isar_rules.specs.Steps.{step}
use Rattle.isar_rules.specs.Kept.{errors_in}

-- a range of a source
abbrev pub range : ℕ → ℕ → Range
range start stop = record { start = start; stop = stop }

-- a report of it
abbrev pub said : ReportKind → ℕ → ℕ → List Property → List ℕ → Report
said kind start stop properties text = report kind (range start stop) properties text

-- the report of a command's word
abbrev pub says_word : ℕ → List ℕ → Report
says_word stop word = said kind.Command 0 stop (name_is word ∷ []) []

-- the errors of a command
abbrev pub errors : List ℕ → State → List (List ℕ)
errors source state = errors_in (step source None state).reports

-- the reports of one
abbrev pub reports : List ℕ → State → List Report
reports source state = (step source None state).reports

-- the place behind one
abbrev pub behind : List ℕ → State → Place
behind source state = (step source None state).state.place

-- a state without aliases
abbrev pub state_at : Place → State
state_at place = record { place = place; aliases = [] }

-- before the first command of the node `A`, which imports nothing
abbrev pub at_start : State
at_start = state_at (place.Start (codes "A") (Facts []) None)

-- behind a first command that began no theory
abbrev pub outside : State
outside = state_at place.Outside

-- in the theory `A` of these facts
abbrev pub with_facts : List Fact → State
with_facts facts = state_at (place.Theory (record { name = codes "A"; facts = facts }))

-- in a theory without facts
abbrev pub in_theory : State
in_theory = with_facts []

-- a proposition
abbrev pub prop : List ℕ → Formula
prop x = Atom x []

-- in the proof of the lemma `l`, at these levels
abbrev pub proving : Formula → Levels → State
proving goal levels = state_at
    (place.Proof (record { name = codes "A"; facts = [] }) (codes "l") goal levels)

-- its goal `P` is open
abbrev pub in_prove : State
in_prove = proving (prop (codes "P")) (Prove (prop (codes "P")) [])

-- its goal is a block with these subgoals
abbrev pub in_block : List Subgoal → State
in_block pending = proving (prop (codes "P")) (Stated
    (record { goal = prop (codes "P"); pending = pending; variables = []; facts = [] }) [])

-- behind the end of `A`
abbrev pub at_end : State
at_end = state_at (place.End (record { name = codes "A"; facts = [] }))
