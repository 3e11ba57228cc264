-- The ranges of reports as they are told lie in the source, and are had back from it.
use Rattle.std.proofs.Common.{◌≡◌, ℕ, ◌+◌, Bool, true, false, cond, List, [], ◌∷◌, length, map, filter, refl, ap, sym, ◌∙◌, arith, le-leb}
use Rattle.std.specs.Prelude.{◌==◌, ◌&&◌, nat_le}
use Rattle.std.specs.List.{AllByRecursion, list_all, sum_by}
use Rattle.std.proofs.lemmas.Bool.{and_from}
use Rattle.std.proofs.lemmas.List.Folds.{sum_by-zero}
use Rattle.report_markup.specs.declared.report.Report.{Report}
use Rattle.report_markup.specs.Sorting.{ordered_reports}
use Rattle.language.specs.Laws.{LiesIn}
use Rattle.message_values.specs.declared.protocol.Protocol.{Protocol}
use Rattle.message_values.specs.declared.protocol.Protocol.TheVariants.{Scalars, Symbols}
use Rattle.outer_syntax.specs.Symbols.{symbols_of}
use Rattle.symbol_markup.specs.Places.{StandsOnSymbols, symbol_place}
use Rattle.symbol_markup.specs.Told.{at_symbols, is_filled}
use Rattle.session_rules.specs.Shown.{protocol_reports}
use Rattle.mirror_rules.specs.Reports.{in_scalars, lies_in}
use Rattle.editor_laws.proofs.Known.{Same}
use Rattle.editor_laws.proofs.ReportLaws.{Laws}

-- what a test says of all is told by how many fail
abbrev fails : (Report → Bool) → Report → ℕ
fails p r = cond (p r) 0 1

all_by : (p : Report → Bool) (xs : List Report) → (sum_by (fails p) xs == 0) ≡ list_all p xs
all_by p xs = sum_by-zero (fails p) xs ∙ each xs
  where
    one : (b : Bool) → (cond b 0 1 == 0) ≡ b
    one true = refl
    one false = refl

    each : (ys : List Report) → list_all (λ r. fails p r == 0) ys ≡ list_all p ys
    each [] = refl
    each (y ∷ ys) = ap (λ b. b && list_all (λ r. fails p r == 0) ys) (one (p y)) ∙ ap (λ b. p y && b) (each ys)

-- the same reports pass the same
pub same_all : (p : Report → Bool) (xs ys : List Report) → Same xs ys → list_all p xs ≡ list_all p ys
same_all p xs ys same = sym (all_by p xs) ∙ ap (λ n. n == 0) (same (fails p)) ∙ all_by p ys

pub all_filtered : (p g : Report → Bool) (xs : List Report) → list_all p xs ≡ true → list_all p (filter g xs) ≡ true
all_filtered p g [] all = refl
all_filtered p g (x ∷ xs) all = go (g x) (p x) refl all (all_filtered p g xs)
  where
    go : (a b : Bool) → p x ≡ b → (b && list_all p xs) ≡ true → (list_all p xs ≡ true → list_all p (filter g xs) ≡ true)
        → list_all p (cond a (x ∷ filter g xs) (filter g xs)) ≡ true
    go a false is all rest = absurd (cc)
    go true true is all rest = ap (λ b. b && list_all p (filter g xs)) is ∙ rest all
    go false true is all rest = rest all

-- a report of a command: it lies in the source, and stands on symbols
pub record IsGood (text : List ℕ) (r : Report) : Type 0 where
  pub lies : LiesIn text r
  pub stands : StandsOnSymbols text r.range

module _ (laws : Laws) (text : List ℕ) where
  scalars_lie : (rs : List Report) → AllByRecursion (IsGood text) rs → list_all (λ r. lies_in Scalars text r.range) rs ≡ true
  scalars_lie [] all = refl
  scalars_lie (r ∷ rs) all = and_from (lies_in Scalars text r.range) (list_all (λ x. lies_in Scalars text x.range) rs)
      (and_from (nat_le r.range.start r.range.stop) (nat_le r.range.stop (length text))
      (le-leb r.range.start r.range.stop all.0.lies.0) (le-leb r.range.stop (length text) all.0.lies.1.1))
      (scalars_lie rs all.1)

  symbols_lie : (rs : List Report) → AllByRecursion (IsGood text) rs
      → list_all (λ r. lies_in Symbols text r.range) (map (at_symbols text) rs) ≡ true
  symbols_lie [] all = refl
  symbols_lie (r ∷ rs) all =
      let start = symbol_place text r.range.start in
      let stop = symbol_place text r.range.stop in
      and_from (lies_in Symbols text (at_symbols text r).range) (list_all (λ x. lies_in Symbols text x.range) (map (at_symbols text) rs))
      (and_from (nat_le 1 start) (nat_le start stop && nat_le stop (length (symbols_of text) + 1))
      (le-leb 1 start (omega arith))
      (and_from (nat_le start stop) (nat_le stop (length (symbols_of text) + 1))
      (le-leb start stop (laws.rises text r.range.start r.range.stop all.0.lies.0))
      (le-leb stop (length (symbols_of text) + 1) (laws.counted text r.range.stop))))
      (symbols_lie rs all.1)

  pub ordered_same : (rs : List Report) → Same (ordered_reports rs) rs
  ordered_same rs measure = (laws.order rs).0.same measure

  -- each range lies in the source
  pub told_lie : (protocol : Protocol) (rs : List Report) → AllByRecursion (IsGood text) rs
      → list_all (λ r. lies_in protocol text r.range) (protocol_reports protocol text rs) ≡ true
  told_lie Scalars rs all = scalars_lie rs all
  told_lie Symbols rs all =
      let kept : List Report = filter (λ r. is_filled r.range) (map (at_symbols text) rs) in
      same_all (λ r. lies_in Symbols text r.range) (ordered_reports kept) kept (ordered_same kept)
      ∙ all_filtered (λ r. lies_in Symbols text r.range) (λ r. is_filled r.range) (map (at_symbols text) rs) (symbols_lie rs all)

  unchanged : (rs : List Report) → map (in_scalars Scalars text) rs ≡ rs
  unchanged [] = refl
  unchanged (r ∷ rs) = ap (λ xs. r ∷ xs) (unchanged rs)

  stand : (rs : List Report) → AllByRecursion (IsGood text) rs → AllByRecursion (λ r. StandsOnSymbols text r.range) rs
  stand [] all = tt
  stand (r ∷ rs) all = (all.0.stands, stand rs all.1)

  -- and the reports are had back, in some order
  pub told_back : (protocol : Protocol) (rs : List Report) → AllByRecursion (IsGood text) rs
      → Same (map (in_scalars protocol text) (protocol_reports protocol text rs)) rs
  told_back Scalars rs all measure = ap (sum_by measure) (unchanged rs)
  told_back Symbols rs all measure = ap (sum_by measure) (laws.back text rs (stand rs all)) ∙ ordered_same rs measure
