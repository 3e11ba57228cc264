-- The word of a kind tells the kind.
use Rattle.std.proofs.Common.{◌≡◌, ℕ, List, refl, sym, ap, ◌∙◌, codes, bytes_eq, if◌then◌else◌}
use Rattle.report_markup.specs.declared.kind.ReportKind.{ReportKind}
use Rattle.report_markup.specs.declared.kind.ReportKind.TheVariants.{Command, Theory, Import, Def, Formula, Error, Proved, Ref, State, Loaded, Suggest}
use Rattle.report_markup.specs.Words.{kind_word}

kind_of : List ℕ → ReportKind
kind_of w = if bytes_eq w (codes "command") then Command else if bytes_eq w (codes "theory") then Theory
    else if bytes_eq w (codes "import") then Import else if bytes_eq w (codes "def") then Def
    else if bytes_eq w (codes "formula") then Formula else if bytes_eq w (codes "error") then Error
    else if bytes_eq w (codes "proved") then Proved else if bytes_eq w (codes "ref") then Ref
    else if bytes_eq w (codes "state") then State else if bytes_eq w (codes "loaded") then Loaded else Suggest

kind_of-word : (k : ReportKind) → kind_of (kind_word k) ≡ k
unfolding kind_of
kind_of-word Command = refl
kind_of-word Theory = refl
kind_of-word Import = refl
kind_of-word Def = refl
kind_of-word Formula = refl
kind_of-word Error = refl
kind_of-word Proved = refl
kind_of-word Ref = refl
kind_of-word State = refl
kind_of-word Loaded = refl
kind_of-word Suggest = refl

pub kind_told : (j k : ReportKind) → kind_word j ≡ kind_word k → j ≡ k
kind_told j k e = sym (kind_of-word j) ∙ ap kind_of e ∙ kind_of-word k
