-- What the command that loads a blob makes, and its errors, the first that holds (this project's
-- own).
use Rattle.std.specs.Prelude.{ℕ, if◌then◌else◌, List, [], ◌∷◌, length, decimal, Option, Some, None, Result, Ok, Err}
use Rattle.report_markup.specs.declared.kind.ReportKind.TheVariants as kind
use Rattle.isar_rules.specs.declared.shape.Spot.{Spot}
use Rattle.isar_rules.specs.declared.state.Theory.{Theory}
use Rattle.isar_rules.specs.declared.state.Place.TheVariants as place
use Rattle.isar_rules.specs.BlobLines.{Listed, listed_facts}
use Rattle.isar_rules.specs.Errors.{Tried, and_then, unknown_blob, bad_blob_line, name_taken}
use Rattle.isar_rules.specs.Reports.{report}
use Rattle.isar_rules.specs.Theories.{with_fact, has_fact}
use Rattle.isar_rules.specs.Effects.{Effect, makes}

-- the blob's text, if the blob is there
abbrev pub blob_or : List ℕ → Option (List ℕ) → Tried (List ℕ)
blob_or name None = Err (unknown_blob name)
blob_or name (Some text) = Ok text

-- the facts that it lists, if all of its lines are good
abbrev pub facts_or_bad_line : Result (List Listed) ℕ → Tried (List Listed)
facts_or_bad_line (Ok facts) = Ok facts
facts_or_bad_line (Err line) = Err (bad_blob_line line)

-- the theory with all of these facts more, unless a name is taken
abbrev pub with_all : Theory → List Listed → Tried Theory
with_all theory [] = Ok theory
with_all theory (fact ∷ more) = if has_fact fact.0 theory then Err (name_taken fact.0)
    else with_all (with_fact fact.0 fact.1 theory) more

-- how many facts were loaded, as a report of the blob's name
abbrev pub loaded : Spot → List Listed → Theory → Effect
loaded name facts theory = makes (place.Theory theory)
    (report kind.Loaded name.range [] (decimal (length facts)) ∷ [])

-- `load`, with the text of the blob where there is one
abbrev pub load_made : Option (List ℕ) → Theory → Spot → Tried Effect
load_made blob theory name = and_then (blob_or name.text blob)
    (λ text. and_then (facts_or_bad_line (listed_facts text))
    (λ facts. and_then (with_all theory facts) (λ more. Ok (loaded name facts more))))
