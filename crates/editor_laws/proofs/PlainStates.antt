-- Places of plain names, at which all that is printed is readable, and reports of plain words.
use Rattle.std.proofs.Common.{IfSome, List}
use Rattle.std.specs.Prelude.{⊤}
use Rattle.std.specs.List.{AllByRecursion}
use Rattle.nj_syntax.specs.Readable.{IsReadable}
use Rattle.proof_state.specs.declared.block.Block.{Block}
use Rattle.proof_state.specs.declared.frame.Frame.{Frame}
use Rattle.proof_state.specs.declared.frame.Purpose.{Purpose}
use Rattle.proof_state.specs.declared.frame.Purpose.TheVariants.{Have, Show}
use Rattle.proof_state.specs.declared.levels.Levels.{Levels}
use Rattle.proof_state.specs.declared.levels.Levels.TheVariants as levels
use Rattle.proof_state.specs.declared.local_fact.LocalFact.{LocalFact}
use Rattle.report_markup.specs.declared.property.Property.{Property}
use Rattle.report_markup.specs.declared.report.Report.{Report}
use Rattle.isar_rules.specs.declared.state.Given.{Given}
use Rattle.isar_rules.specs.declared.state.Given.TheVariants.{Facts, Bad}
use Rattle.isar_rules.specs.declared.state.Theory.{Theory}
use Rattle.isar_rules.specs.declared.state.Place.{Place}
use Rattle.isar_rules.specs.declared.state.Place.TheVariants as place
use Rattle.editor_laws.proofs.PlainTexts.{Plain}
use Rattle.editor_laws.proofs.FormulaTexts.{IsSaid}
use Rattle.editor_laws.proofs.PlainFacts.{FactsPlain}

abbrev pub PropertyPlain : Property → Type 0
PropertyPlain p = Plain p.value

abbrev pub ReportPlain : Report → Type 0
ReportPlain r = AllByRecursion PropertyPlain r.properties × Plain r.text

abbrev pub TheoryPlain : Theory → Type 0
TheoryPlain theory = Plain theory.name × FactsPlain theory.facts

abbrev pub GivenPlain : Given → Type 0
GivenPlain (Facts facts) = FactsPlain facts
GivenPlain (Bad name) = Plain name

abbrev pub LocalPlain : LocalFact → Type 0
LocalPlain fact = IfSome fact.name Plain × IsReadable fact.formula

abbrev pub BlockPlain : Block → Type 0
BlockPlain block =
    IsReadable block.goal × AllByRecursion IsSaid block.pending
    × AllByRecursion LocalPlain block.facts

abbrev pub PurposePlain : Purpose → Type 0
PurposePlain (Have name) = IfSome name Plain
PurposePlain (Show place) = ⊤

abbrev pub FramePlain : Frame → Type 0
FramePlain frame = BlockPlain frame.block × PurposePlain frame.purpose

abbrev pub FramesPlain : List Frame → Type 0
FramesPlain = AllByRecursion FramePlain

abbrev pub LevelsPlain : Levels → Type 0
LevelsPlain levels.Closed = ⊤
LevelsPlain (levels.Prove goal around) = IsReadable goal × FramesPlain around
LevelsPlain (levels.State block around) = BlockPlain block × FramesPlain around

abbrev pub PlacePlain : Place → Type 0
PlacePlain (place.Start node given keyword) = GivenPlain given × IfSome keyword Plain
PlacePlain place.Outside = ⊤
PlacePlain (place.Theory theory) = TheoryPlain theory
PlacePlain (place.Proof theory name goal levels) =
    TheoryPlain theory × Plain name × LevelsPlain levels
PlacePlain (place.End theory) = TheoryPlain theory
