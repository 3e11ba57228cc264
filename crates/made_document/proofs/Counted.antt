-- Counts of lists, put together.
use Rattle.std.proofs.Common.{◌≡◌, ℕ, ◌+◌, Bool, List, [], ◌∷◌, ◌++◌, length, filter, refl, ap, sym, ◌∙◌, cond, true, false, drop, append_assoc}
use Rattle.std.proofs.lemmas.List.{length-append}
use Rattle.report_markup.specs.declared.report.Report.{Report}
use Rattle.core_jobs.specs.declared.results.PartResult.{PartResult}
use Rattle.made_document.specs.declared.tally.Tally.{Tally}
use Rattle.made_document.specs.Summary.{is_error}
use Rattle.made_document.specs.Tallies.{IsTally, results_reports}

pub filter_append : (xs ys : List Report) → filter is_error (xs ++ ys) ≡ filter is_error xs ++ filter is_error ys
filter_append [] ys = refl
filter_append (x ∷ xs) ys = go (is_error x) (filter_append xs ys)
  where
    go : (b : Bool) → filter is_error (xs ++ ys) ≡ filter is_error xs ++ filter is_error ys
        → cond b (x ∷ filter is_error (xs ++ ys)) (filter is_error (xs ++ ys)) ≡ cond b (x ∷ filter is_error xs) (filter is_error xs) ++ filter is_error ys
    go true rest = ap (λ zs. x ∷ zs) rest
    go false rest = rest

pub counted : (old new : Tally) (all more : List Report) → new.reports ≡ old.reports + length more
    → new.errors ≡ old.errors + length (filter is_error more) → IsTally old all → IsTally new (all ++ more)
counted old new all more reports_are errors_are is = record {
  reports = reports_are ∙ ap (λ n. n + length more) is.reports ∙ sym (length-append all more);
  errors = errors_are ∙ ap (λ n. n + length (filter is_error more)) is.errors
      ∙ sym (ap length (filter_append all more) ∙ length-append (filter is_error all) (filter is_error more));
}

-- one part more
pub part_counted : (parts : List PartResult) (i : ℕ) (part : PartResult) (first old new : Tally) → drop i parts ≡ part ∷ drop (i + 1) parts
    → ((all : List Report) → IsTally first all → (so : List Report) × (so ++ results_reports (drop i parts) ≡ all ++ results_reports parts) × IsTally old so)
    → ((all : List Report) → IsTally old all → IsTally new (all ++ part.reports.now))
    → (all : List Report) → IsTally first all
    → (so : List Report) × (so ++ results_reports (drop (i + 1) parts) ≡ all ++ results_reports parts) × IsTally new so
part_counted parts i part first old new at so more all is =
    let here = so all is in (
      here.0 ++ part.reports.now,
      append_assoc here.0 part.reports.now (results_reports (drop (i + 1) parts))
          ∙ ap (λ ps. here.0 ++ results_reports ps) (sym at) ∙ here.1,
      more here.0 here.2,
    )
