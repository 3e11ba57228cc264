-- What is told so far, with one report more.
use Rattle.std.proofs.Common.{◌≡◌, ℕ, ◌+◌, ◌<◌, List, [], ◌∷◌, ◌++◌, length, map, filter, drop, get_or, sym, ap, ◌∙◌}
use Rattle.std.proofs.lemmas.List.{append_assoc, drop_more}
use Rattle.std.proofs.lemmas.List.Elements.{filter-append}
use Rattle.pide_base.specs.declared.range.Range.{Range}
use Rattle.report_markup.specs.declared.report.Report.{Report}
use Rattle.snapshots.specs.declared.shown.Shown.{Shown}
use Rattle.snapshots.specs.Seen.{seen}
use Rattle.symbol_markup.specs.Places.{symbol_range}
use Rattle.symbol_markup.specs.Told.{at_symbols, is_filled}

-- what is told of these, in the order in which they are shown
abbrev pub told : List ℕ → List Shown → List Report
told text shown = filter (λ r. is_filled r.range) (map (at_symbols text) (map seen shown))

pub told-more : (text : List ℕ) (all : List Shown) (i : ℕ) (x : Shown) (range : Range) (old new total : List Report)
    → i < length all → x ≡ get_or all i x → range ≡ symbol_range text x.range
    → new ≡ old ++ filter (λ r. is_filled r.range) (record x.report.now { range = range } ∷ [])
    → old ++ told text (drop i all) ≡ total → new ++ told text (drop (i + 1) all) ≡ total
told-more text all i x range old new total below is at more before =
    let rest = drop (i + 1) all in
    let one = λ (r : Range). record x.report.now { range = r } ∷ [] in
    let next : drop i all ≡ x ∷ rest = drop_more all i x below ∙ ap (λ y. y ∷ rest) (sym is) in
    let joined : filter (λ r. is_filled r.range) (one range) ++ told text rest ≡ told text (x ∷ rest) =
    ap (λ r. filter (λ q. is_filled q.range) (one r) ++ told text rest) at
    ∙ sym (filter-append (λ r. is_filled r.range) (one (symbol_range text x.range)) (map (at_symbols text) (map seen rest))) in
    ap (λ ys. ys ++ told text rest) more
    ∙ append_assoc old _ (told text rest)
    ∙ ap (λ ys. old ++ ys) (joined ∙ ap (told text) (sym next))
    ∙ before
