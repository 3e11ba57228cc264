-- Reports of whole sources, which lie in them and are equal in range.
use Rattle.std.specs.Prelude.{ℕ, List, [], ◌∷◌, length}
use Rattle.std.specs.List.{AllByRecursion}
use Rattle.std.proofs.Common.{arith, inr, inl}
use Rattle.report_markup.specs.Ranges.{AreTreelike}
use Rattle.report_markup.specs.declared.kind.ReportKind.{ReportKind}
use Rattle.report_markup.specs.declared.report.Report.{Report}
use Rattle.language.specs.Laws.{LiesIn}

-- a report of the whole source, which tells a text
abbrev pub whole : ReportKind → List ℕ → List ℕ → Report
whole kind source text = record {
  range = record { start = 0; stop = length source };
  kind = kind;
  properties = [];
  text = text;
}

-- it alone
abbrev pub about : ReportKind → List ℕ → List ℕ → List Report
about kind source text = whole kind source text ∷ []

-- it lies in the source
pub lies : (kind : ReportKind) (source text : List ℕ) → LiesIn source (whole kind source text)
lies kind source text = (omega arith, (omega arith, omega arith))

-- two of them are equal in range
alike : (j k : ReportKind) (source s t : List ℕ)
    → AreTreelike (whole j source s).range (whole k source t).range
alike j k source s t = inr (inr (inl (omega arith, omega arith)))

-- so is one of these kinds to each of two
pub to_two : (i j k : ReportKind) (source r s t : List ℕ)
    → AllByRecursion (λ b. AreTreelike (whole i source r).range b.range)
    (whole j source s ∷ whole k source t ∷ [])
to_two i j k source r s t = (alike i j source r s, (alike i k source r t, tt))

-- and to each of three
pub to_three : (h i j k : ReportKind) (source q r s t : List ℕ)
    → AllByRecursion (λ b. AreTreelike (whole h source q).range b.range)
    (whole i source r ∷ whole j source s ∷ whole k source t ∷ [])
to_three h i j k source q r s t = (alike h i source q r, to_two h j k source q s t)
