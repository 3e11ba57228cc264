-- The parts of executions (Wenzel, ITP 2014), what each waits for, and what it reports.
use Rattle.std.specs.Prelude.{ℕ, ◌==◌, Bool, true, false, ◌&&◌, if◌then◌else◌, List, [], ◌∷◌, map, filter_map, Option, Some, None}
use Rattle.std.specs.Option.{option_map, option_map_or}
use Rattle.pide_base.specs.declared.part.Part.{Part}
use Rattle.pide_base.specs.declared.part.PartKind.{PartKind}
use Rattle.pide_base.specs.declared.part.PartKind.TheVariants as kind
use Rattle.language.specs.report_markup_below.declared.report.Report.{Report}
use Rattle.exec_rules.specs.declared.key.Last.{Last}
use Rattle.exec_rules.specs.declared.key.Last.TheVariants.{Made}
use Rattle.exec_rules.specs.declared.key.Key.{Key}
use Rattle.exec_rules.specs.declared.key.Key.TheVariants.{Lasts, BadImport}
use Rattle.exec_rules.specs.declared.home.Input.{Input}
use Rattle.exec_rules.specs.declared.home.Input.TheVariants as input
use Rattle.exec_rules.specs.declared.home.Home.{Home}
use Rattle.language.specs.Lang.{Lang}
use Rattle.core_rules.specs.Numbered.{numbered}
use Rattle.core_rules.specs.Settings.{Setting, made_of, forked, printed, setting}

-- both kinds are the same
abbrev pub same_kind : PartKind → PartKind → Bool
same_kind kind.Eval kind.Eval = true
same_kind kind.Fork kind.Fork = true
same_kind kind.Print kind.Print = true
same_kind a b = false

-- both parts are the same
abbrev pub same_part : Part → Part → Bool
same_part p q = (p.exec == q.exec) && same_kind p.kind q.kind

-- the command of an evaluation forks
abbrev pub forks : {S : Type 0} → Lang S → List Home → ℕ → Bool
forks l homes e = option_map_or (λ s. (made_of l s).forks) (setting l homes e) false

-- the kinds of parts of an execution, by what it takes up and whether its command forks
abbrev pub kinds_by : Input → Bool → List PartKind
kinds_by (input.Print e) forking = kind.Print ∷ []
kinds_by taken forking = kind.Eval ∷ (if forking then kind.Fork ∷ [] else [])

-- the parts of an execution: an evaluation has its own and, where its command forks, the fork
abbrev pub parts_of : {S : Type 0} → Lang S → List Home → ℕ → List Part
parts_of l homes e = option_map_or
    (λ h. map (λ k. record { exec = e; kind = k }) (kinds_by h.input (forks l homes e)))
    (numbered homes e) []

-- the evaluation that a last command has
abbrev pub last_evaluation : Last → Option ℕ
last_evaluation (Made e) = Some e
last_evaluation other = None

-- the evaluations that something is taken up from
abbrev pub lasts_of : Key → List ℕ
lasts_of (Lasts lasts) = filter_map last_evaluation lasts
lasts_of (BadImport name) = []

-- the evaluations that an execution is taken up from
abbrev pub sources_of : Input → List ℕ
sources_of (input.First head) = lasts_of head.key
sources_of (input.Next e) = e ∷ []
sources_of (input.Print e) = e ∷ []

-- the executions whose evaluation a part of this kind waits for: a fork waits for its own
abbrev pub waits_by : List Home → PartKind → ℕ → List ℕ
waits_by homes kind.Fork e = e ∷ []
waits_by homes kind e = option_map_or (λ h. sources_of h.input) (numbered homes e) []

-- the executions whose evaluation a part waits for
abbrev pub waits_for : List Home → Part → List ℕ
waits_for homes part = waits_by homes part.kind part.exec

-- the evaluation of an execution, as a part
abbrev pub evaluation : ℕ → Part
evaluation e = record { exec = e; kind = kind.Eval }

-- what a part reports, by what its execution works on
abbrev pub reports_in : {S : Type 0} → Lang S → PartKind → Setting S → List Report
reports_in l kind.Eval s = (made_of l s).reports
reports_in l kind.Fork s = forked l s
reports_in l kind.Print s = printed l s

-- what comes of a part, once it is finished
abbrev pub reports_of : {S : Type 0} → Lang S → List Home → Part → Option (List Report)
reports_of l homes part = option_map (reports_in l part.kind) (setting l homes part.exec)
