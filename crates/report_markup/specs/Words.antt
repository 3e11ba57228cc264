-- The words of kinds and keys.
use Rattle.std.specs.Prelude.{ℕ, List, codes}
use Rattle.report_markup.specs.declared.kind.ReportKind.{ReportKind}
use Rattle.report_markup.specs.declared.kind.ReportKind.TheVariants.{Command, Theory, Import, Def, Formula, Error, Proved, Ref, State, Loaded, Suggest}
use Rattle.report_markup.specs.declared.property.PropertyKey.{PropertyKey}
use Rattle.report_markup.specs.declared.property.PropertyKey.TheVariants.{Theory as TheoryKey, Name}

-- the word of a kind of report (this project's own, after the markup of Isabelle/PIDE)
abbrev pub kind_word : ReportKind → List ℕ
kind_word Command = codes "command"
kind_word Theory = codes "theory"
kind_word Import = codes "import"
kind_word Def = codes "def"
kind_word Formula = codes "formula"
kind_word Error = codes "error"
kind_word Proved = codes "proved"
kind_word Ref = codes "ref"
kind_word State = codes "state"
kind_word Loaded = codes "loaded"
kind_word Suggest = codes "suggest"

-- the word of a property's key (this project's own)
abbrev pub key_word : PropertyKey → List ℕ
key_word TheoryKey = codes "theory"
key_word Name = codes "name"
