-- Nodes without commands are bare.
use Rattle.std.proofs.Common.{◌≡◌, ℕ, ◌+◌, List, [], ◌∷◌, length, map, None, refl, ap, ◌∙◌, arith}
use Rattle.std.proofs.lemmas.List.{length-map}
use Rattle.std.specs.List.{zip, AllByRecursion}
use Rattle.std.specs.Option.{option_map_or}
use Rattle.pide_base.specs.declared.range.Range.{Range}
use Rattle.outer_syntax.specs.Reading.{header_in}
use Rattle.doc_nodes.specs.Imports.{NodeList}
use Rattle.doc_nodes.specs.Aliases.{aliases_at}
use Rattle.doc_nodes.specs.Needs.{AliasList}
use Rattle.buffer_rules.specs.declared.sheet.Sheet.{Sheet}
use Rattle.buffer_rules.specs.Cuts.{source, command_ranges}
use Rattle.buffer_rules.specs.Numbers.{Command, kept_runs, ids_of, new_count, IsNumbered}
use Rattle.buffer_rules.specs.Sheets.{SheetList}
use Rattle.buffer_rules.specs.Nodes.{entry, ranges_in, sources, before_in, cut, nodes_from}
use Rattle.buffer_laws.specs.Known.{IsBare}

none_zipped : (sheet : Sheet) (aliases : AliasList) (ids : List ℕ) (ranges : List Range) → length ids ≡ length ranges
    → map (entry sheet aliases) (zip ids ranges) ≡ [] → ranges ≡ []
none_zipped sheet aliases ids [] long none = refl
none_zipped sheet aliases [] (r ∷ rs) long none = absurd (omega arith)
none_zipped sheet aliases (i ∷ ids) (r ∷ rs) long none = absurd (cc)

module _ (ids_so : (before : List Command) (now : List (List ℕ)) (next : ℕ) → IsNumbered
    (kept_runs (map (λ c. c.1) before) now) (map (λ c. c.0) before) (length now) next
    (ids_of before now next))
    (bare : (text : List ℕ) (aliases : List (List ℕ)) → command_ranges text aliases ≡ [] → header_in text ≡ None) where
  node_bare : (sheet : Sheet) (aliases : AliasList) (before : List Command) (next : ℕ) → IsBare (cut sheet aliases before next)
  node_bare sheet aliases before next none =
      let now = sources sheet aliases in
      let long : length (ids_of before now next) ≡ length (ranges_in sheet aliases) =
      (ids_so before now next).counted ∙ length-map (ranges_in sheet aliases) (source sheet.text) in
      let no = bare sheet.text (map (λ pair. pair.0) aliases) (none_zipped sheet aliases (ids_of before now next) (ranges_in sheet aliases) long none) in
      (ap (λ o. option_map_or (λ header. header.imports) o []) no, ap (λ o. option_map_or (λ header. header.keywords) o []) no)

  pub all_bare : (tip all : NodeList) (p : ℕ) (pairs : SheetList) (next : ℕ)
      → AllByRecursion (λ pair. IsBare pair.1) (nodes_from tip all p pairs next).nodes
  all_bare tip all p [] next = tt
  all_bare tip all p (pair ∷ pairs) next =
      let aliases = (aliases_at all p).pairs in
      let before = before_in tip pair.0 in
      (node_bare pair.1 aliases before next, all_bare tip all (p + 1) pairs (next + new_count before (sources pair.1 aliases)))
