-- Commands of proofs leave plain places, and tell plain words.
use Rattle.std.proofs.Common.{ℕ, List, codes, Option, Some, None, IfSome, Result, Ok, Err, refl}
use Rattle.std.specs.List.{AllByRecursion}
use Rattle.nj_formula.specs.declared.formula.Formula.{Formula}
use Rattle.nj_syntax.specs.Readable.{IsReadable}
use Rattle.theory_ctx.specs.Facts.{Fact}
use Rattle.proof_state.specs.declared.fault.ProofFault.{ProofFault}
use Rattle.proof_state.specs.declared.fault.ProofFault.TheVariants as Fault
use Rattle.proof_state.specs.declared.levels.Levels.{Levels}
use Rattle.proof_state.specs.declared.levels.Levels.TheVariants.{Closed, Prove, State}
use Rattle.proof_state.specs.Steps.{Command, step, show, by}
use Rattle.report_markup.specs.declared.report.Report.{Report}
use Rattle.isar_rules.specs.declared.shape.Shape.{Shape}
use Rattle.isar_rules.specs.declared.shape.Shape.TheVariants as shape
use Rattle.isar_rules.specs.declared.shape.Spot.{Spot}
use Rattle.isar_rules.specs.declared.state.Theory.{Theory}
use Rattle.isar_rules.specs.declared.state.Place.{Place}
use Rattle.isar_rules.specs.Effects.{Effect}
use Rattle.isar_rules.specs.Errors.{formula_in}
use Rattle.isar_rules.specs.Proofs.{Ordered, text_of_name, with_formula, ordered_command, levels_or}
use Rattle.isar_rules.specs.Proofs.{effect_of, stands, proof_made}
use Rattle.isar_rules.specs.Reports.{local_report}
use Rattle.editor_laws.proofs.PlainTexts.{Plain, spelled, joined, after}
use Rattle.editor_laws.proofs.FormulaTexts.{formula_plain}
use Rattle.editor_laws.proofs.PlainShapes.{SpotPlain, AnyNames, ShapePlain}
use Rattle.editor_laws.proofs.PlainStates.{ReportPlain, LevelsPlain, TheoryPlain, PlacePlain}
use Rattle.editor_laws.proofs.PlainFacts.{added_plain}
use Rattle.editor_laws.proofs.ToldTries.{IfTold, then_told, formula_told}
use Rattle.editor_laws.proofs.PlainLevels.{CommandPlain, IfReached, step_plain}

reached_told : (r : Result Levels ProofFault) → IfReached r → IfTold LevelsPlain (levels_or r)
reached_told (Ok levels) plain = plain
reached_told (Err Fault.NotAllowed) plain = spelled refl
reached_told (Err Fault.NoSuchSubgoal) plain = spelled refl
reached_told (Err Fault.SubgoalsRemain) plain = spelled refl
reached_told (Err (Fault.NotFresh x)) plain =
    after (codes "variable ") refl (joined plain (spelled refl))
reached_told (Err Fault.NoMemory) plain = spelled refl

abbrev OrderPlain : Ordered → Type 0
OrderPlain o = CommandPlain o.0 × AllByRecursion ReportPlain o.1

local_plain : (name : Option Spot) → IfSome name SpotPlain
    → AllByRecursion ReportPlain (local_report name)
local_plain None plain = tt
local_plain (Some n) plain = (((plain, tt), spelled refl), tt)

named_plain : (name : Option Spot) → IfSome name SpotPlain → IfSome (text_of_name name) Plain
named_plain None plain = tt
named_plain (Some n) plain = plain

formula_ordered : (command : Formula → Command) (name : Option Spot) (quoted : Spot)
    → IfSome name SpotPlain
    → ((f : Formula) → IsReadable f → CommandPlain (command f))
    → IfTold OrderPlain (with_formula command name quoted)
formula_ordered command name quoted plain each =
    then_told IsReadable OrderPlain (formula_in quoted.text) _ (formula_told quoted.text)
    (λ f readable. (each f readable, ((tt, formula_plain f readable), local_plain name plain)))

ordered_plain : (facts : List Fact) (s : Shape) (levels : Levels) → ShapePlain AnyNames s
    → IfTold OrderPlain (ordered_command facts s levels)
ordered_plain facts (shape.Proof dash) (Prove goal around) plain = (tt, tt)
ordered_plain facts shape.By (Prove goal around) plain = (tt, tt)
ordered_plain facts (shape.Fix x) (State block around) plain =
    (plain, (((plain, tt), spelled refl), tt))
ordered_plain facts (shape.Assume name quoted) (State block around) plain =
    formula_ordered _ name quoted plain (λ f readable. (named_plain name plain, readable))
ordered_plain facts (shape.Have name quoted) (State block around) plain =
    formula_ordered _ name quoted plain (λ f readable. (named_plain name plain, readable))
ordered_plain facts (shape.Show quoted) (State block around) plain =
    formula_ordered show None quoted tt (λ f readable. readable)
ordered_plain facts shape.Next (State block around) plain = (tt, tt)
ordered_plain facts shape.Qed (State block around) plain = (tt, tt)
ordered_plain facts _ _ plain = spelled refl

stands_plain : (theory : Theory) (name : List ℕ) (goal : Formula) (levels : Levels)
    → TheoryPlain theory → Plain name → LevelsPlain levels
    → PlacePlain (stands theory name goal levels)
stands_plain theory name goal Closed seen named plain =
    (seen.0, added_plain _ theory.facts (seen.0, named) seen.1)
stands_plain theory name goal (Prove inner around) seen named plain = (seen, named, plain)
stands_plain theory name goal (State block around) seen named plain = (seen, named, plain)

-- what a command leaves and tells
abbrev pub EffectPlain : Effect → Type 0
EffectPlain e = PlacePlain e.place × AllByRecursion ReportPlain e.reports

effect_plain : (c : Command) (p : Place) (reports : List Report) → PlacePlain p
    → AllByRecursion ReportPlain reports → EffectPlain (effect_of c p reports)
effect_plain by p reports plain all = (plain, tt)
effect_plain _ p reports plain all = (plain, all)

pub proof_plain : (theory : Theory) (name : List ℕ) (goal : Formula) (levels : Levels) (s : Shape)
    → TheoryPlain theory → Plain name → LevelsPlain levels → ShapePlain AnyNames s
    → IfTold EffectPlain (proof_made theory name goal levels s)
proof_plain theory name goal levels s seen named plain shape =
    then_told OrderPlain EffectPlain (ordered_command theory.facts s levels) _
    (ordered_plain theory.facts s levels shape)
    (λ o order. then_told LevelsPlain EffectPlain (levels_or (step o.0 levels)) _
    (reached_told (step o.0 levels) (step_plain o.0 levels order.0 plain))
    (λ after reached. effect_plain o.0 (stands theory name goal after) o.1
    (stands_plain theory name goal after seen named reached) order.1))
