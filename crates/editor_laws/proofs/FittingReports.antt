-- Reports whose ranges end at a place or before it, through edits, orders and protocols.
use Rattle.std.proofs.Common.{ℕ, ◌+◌, ◌<◌, ◌≤◌, ◌^◌, Bool, true, false, cond, List, [], ◌∷◌, length, map, filter, Some, None, nat_lt, arith}
use Rattle.std.specs.List.{AllByRecursion}
use Rattle.std.specs.Ordering.{is_gt}
use Rattle.text_words.proofs.KnownLists.{each-both, each-so, each-passing}
use Rattle.pide_base.specs.declared.range.Range.{Range}
use Rattle.text_edits.specs.declared.edit.Edit.{Edit}
use Rattle.report_markup.specs.declared.report.Report.{Report}
use Rattle.report_markup.specs.Order.{report_cmp}
use Rattle.report_markup.specs.Ranges.{moved}
use Rattle.report_markup.specs.Sorting.{ordered_reports, insert_if, insert_report}
use Rattle.snapshots.specs.Converted.{at_range, converted, left_by, left_range}
use Rattle.symbol_markup.specs.Places.{symbol_place}
use Rattle.symbol_markup.specs.Told.{at_symbols, is_filled}
use Rattle.message_values.specs.declared.protocol.Protocol.{Protocol}
use Rattle.message_values.specs.declared.protocol.Protocol.TheVariants.{Scalars, Symbols}
use Rattle.reply_messages.specs.Fits.{FitsProperty, FitsReport, IsPlainText}
use Rattle.session_rules.specs.Shown.{protocol_reports}
use Rattle.editor_laws.proofs.EditSizes.{convert_most, sizes}

-- the range has no end behind this place, and properties and text are plain
abbrev pub Fitting : ℕ → Report → Type 0
Fitting m r = (r.range.start ≤ m) × (r.range.stop ≤ m) × AllByRecursion FitsProperty r.properties
    × IsPlainText r.text

-- so of all
abbrev pub AllFit : ℕ → List Report → Type 0
AllFit m rs = AllByRecursion (Fitting m) rs

pub fit_more : (m n : ℕ) → m ≤ n → (rs : List Report) → AllFit m rs → AllFit n rs
fit_more m n le rs all = each-so (Fitting m) (Fitting n)
    (λ r f. (omega (arith, f.0, le), omega (arith, f.1, le), f.2, f.3)) rs all

-- moved on
pub moved_fit : (n m k : ℕ) → n ≤ k → (rs : List Report) → AllFit m rs
    → AllFit (k + m) (map (moved n) rs)
moved_fit n m k le [] all = tt
moved_fit n m k le (r ∷ rs) all = (
  (omega (arith, all.0.0, le), omega (arith, all.0.1, le), all.0.2, all.0.3),
  moved_fit n m k le rs all.1,
)

left_one : (es : List Edit) (m : ℕ) (r : Report) → Fitting m r
    → AllFit (m + sizes es) (at_range r (left_range es r.range))
left_one [] m r f = ((omega (arith, f.0), omega (arith, f.1), f.2, f.3), tt)
left_one (e ∷ es) m r f = go (nat_lt to.start to.stop)
  where
    to : Range
    to = converted (e ∷ es) r.range

    go : (b : Bool) → AllFit (m + sizes (e ∷ es)) (at_range r (cond b (Some to) None))
    go true =
        let first = convert_most (e ∷ es) r.range.start in
        let last = convert_most (e ∷ es) r.range.stop in
        ((omega (arith, f.0, first), omega (arith, f.1, last), f.2, f.3), tt)
    go false = tt

-- what edits leave
pub left_fit : (es : List Edit) (m : ℕ) (rs : List Report) → AllFit m rs
    → AllFit (m + sizes es) (left_by es rs)
left_fit es m [] all = tt
left_fit es m (r ∷ rs) all =
    each-both (Fitting (m + sizes es)) (at_range r (left_range es r.range)) (left_by es rs)
    (left_one es m r all.0) (left_fit es m rs all.1)

module _ (Q : Report → Type 0) where
  insert_all : (r : Report) (rs : List Report) → Q r → AllByRecursion Q rs
      → AllByRecursion Q (insert_report r rs)
  insert_all r [] q all = (q, tt)
  insert_all r (next ∷ rest) q all = go (is_gt (report_cmp r next)) (insert_all r rest q all.1)
    where
      go : (b : Bool) → AllByRecursion Q (insert_report r rest)
          → AllByRecursion Q (insert_if b r next rest (insert_report r rest))
      go true inserted = (all.0, inserted)
      go false inserted = (q, all)

  pub order_all : (rs : List Report) → AllByRecursion Q rs → AllByRecursion Q (ordered_reports rs)
  order_all [] all = tt
  order_all (r ∷ rs) all = insert_all r (ordered_reports rs) all.0 (order_all rs all.1)

module _ (within : (text : List ℕ) (place : ℕ) → symbol_place text place ≤ length text + 1) where
  symbols_fit : (text : List ℕ) (m : ℕ) (rs : List Report) → AllFit m rs
      → AllFit (length text + 1) (map (at_symbols text) rs)
  symbols_fit text m [] all = tt
  symbols_fit text m (r ∷ rs) all = (
    (within text r.range.start, within text r.range.stop, all.0.2, all.0.3),
    symbols_fit text m rs all.1,
  )

  -- as a protocol tells them
  pub told_fit : (p : Protocol) (text : List ℕ) (m n : ℕ) (rs : List Report) → m ≤ n
      → length text + 1 ≤ n → AllFit m rs → AllFit n (protocol_reports p text rs)
  told_fit Scalars text m n rs le long all = fit_more m n le rs all
  told_fit Symbols text m n rs le long all =
      fit_more (length text + 1) n long (protocol_reports Symbols text rs)
      (order_all (Fitting (length text + 1)) (filter (λ r. is_filled r.range)
      (map (at_symbols text) rs))
      (each-passing (Fitting (length text + 1)) (λ r. is_filled r.range) (map (at_symbols text) rs)
      (symbols_fit text m rs all)))

-- a reply can tell them
pub told_fits : (m : ℕ) → m < 2 ^ 64 → (rs : List Report) → AllFit m rs
    → AllByRecursion FitsReport rs
told_fits m less rs all = each-so (Fitting m) FitsReport
    (λ r f. record {
      range = (omega (arith, f.0, less), omega (arith, f.1, less));
      properties = f.2;
      text = f.3;
    }) rs all
