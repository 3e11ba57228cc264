-- Nodes have the headers of their first commands.
use Rattle.std.proofs.Common.{◌≡◌, ℕ, ◌+◌, List, [], ◌∷◌, map, Some, ap}
use Rattle.std.specs.Prelude.{slice_get}
use Rattle.std.specs.List.{zip, AllByRecursion}
use Rattle.std.specs.Option.{option_map_or}
use Rattle.text_words.specs.Pieces.{text_between}
use Rattle.pide_base.specs.declared.range.Range.{Range}
use Rattle.outer_syntax.specs.Reading.{header_in}
use Rattle.doc_nodes.specs.declared.node.Entry.{Entry}
use Rattle.doc_nodes.specs.Imports.{NodeList}
use Rattle.doc_nodes.specs.Aliases.{aliases_at}
use Rattle.doc_nodes.specs.Needs.{AliasList}
use Rattle.buffer_rules.specs.declared.sheet.Sheet.{Sheet}
use Rattle.buffer_rules.specs.Cuts.{command_ranges}
use Rattle.buffer_rules.specs.Numbers.{Command, ids_of, new_count}
use Rattle.buffer_rules.specs.Sheets.{SheetList}
use Rattle.buffer_rules.specs.Nodes.{entry, ranges_in, sources, before_in, cut, nodes_from}
use Rattle.buffer_laws.specs.Known.{HasOwnHeader}

first_range : (sheet : Sheet) (aliases : AliasList) (ids : List ℕ) (ranges : List Range) (e : Entry)
    → slice_get (map (entry sheet aliases) (zip ids ranges)) 0 ≡ Some e → (rs : List Range) × (ranges ≡ e.range ∷ rs)
first_range sheet aliases [] ranges e at = absurd (cc)
first_range sheet aliases (i ∷ ids) [] e at = absurd (cc)
first_range sheet aliases (i ∷ ids) (r ∷ rs) e at =
    let same : entry sheet aliases (i, r) ≡ e = cc in
    (rs, ap (λ (x : Entry). x.range ∷ rs) same)

module _ (first : (text : List ℕ) (aliases : List (List ℕ)) (r : Range) (rs : List Range) → command_ranges text aliases ≡ r ∷ rs
    → header_in text ≡ header_in (text_between text r.start r.stop)) where
  own : (sheet : Sheet) (aliases : AliasList) (before : List Command) (next : ℕ) → HasOwnHeader (cut sheet aliases before next)
  own sheet aliases before next e at =
      let ranges = first_range sheet aliases (ids_of before (sources sheet aliases) next) (ranges_in sheet aliases) e at in
      let same = first sheet.text (map (λ pair. pair.0) aliases) e.range ranges.0 ranges.1 in
      (ap (λ o. option_map_or (λ header. header.imports) o []) same, ap (λ o. option_map_or (λ header. header.keywords) o []) same)

  pub all_own : (tip all : NodeList) (p : ℕ) (pairs : SheetList) (next : ℕ)
      → AllByRecursion (λ pair. HasOwnHeader pair.1) (nodes_from tip all p pairs next).nodes
  all_own tip all p [] next = tt
  all_own tip all p (pair ∷ pairs) next =
      let aliases = (aliases_at all p).pairs in
      let before = before_in tip pair.0 in
      (own pair.1 aliases before next, all_own tip all (p + 1) pairs (next + new_count before (sources pair.1 aliases)))
