-- Documents of the same texts are checked alike, whatever ids their commands have.
use Rattle.std.proofs.Common.{◌≡◌, ◌+◌, ℕ, List, [], ◌∷◌, length, map, refl, sym, ap, ap₂, ◌∙◌, arith}
use Rattle.std.specs.List.{zip}
use Rattle.std.specs.Option.{option_map_or}
use Rattle.std.proofs.lemmas.List.{length-map}
use Rattle.pide_base.specs.declared.range.Range.{Range}
use Rattle.doc_nodes.specs.Needs.{AliasList, needs}
use Rattle.outer_syntax.specs.Reading.{header_in}
use Rattle.doc_nodes.specs.Aliases.{aliases_at}
use Rattle.doc_nodes.specs.Imports.{NodeList}
use Rattle.exec_rules.specs.Kept.{BlobList}
use Rattle.language.specs.Lang.{Lang}
use Rattle.core_rules.specs.Scratch.{scratch}
use Rattle.buffer_laws.specs.buffer_rules_below.declared.sheet.Sheet.{Sheet}
use Rattle.buffer_laws.specs.buffer_rules_below.Cuts.{command_ranges, source}
use Rattle.buffer_laws.specs.buffer_rules_below.Nodes.{before_in, cut, entry, nodes_after, nodes_from, ranges_in, sources, uncut_all}
use Rattle.buffer_laws.specs.buffer_rules_below.Numbers.{Command, ids_of, new_count}
use Rattle.buffer_laws.specs.buffer_rules_below.Sheets.{SheetList}
use Rattle.session_rules.specs.Checked.{CheckedCommand, CheckedNode, checked_command, checked_node, checked_nodes, texts_of}
use Rattle.session_rules.proofs.Unnumbered.{checked_alike, pair_of, plain, same_aliases}

abbrev Text : Type 0
Text = List ℕ × List ℕ

-- what checking looks at of a text
abbrev command_at : List ℕ → AliasList → Range → CheckedCommand
command_at text aliases range = record { range = range; needs = needs (source text range) aliases }

abbrev checked_text : List ℕ → List CheckedCommand → CheckedNode
checked_text text commands = record {
  text = text;
  imports = option_map_or (λ header. header.imports) (header_in text) [];
  keywords = option_map_or (λ header. header.keywords) (header_in text) [];
  commands = commands;
}

abbrev checked_cut : List ℕ → AliasList → CheckedNode
checked_cut text aliases = checked_text text (map (command_at text aliases) (command_ranges text (map (λ pair. pair.0) aliases)))

-- of all texts, under these aliases
checked_from : (ℕ → AliasList) → ℕ → List Text → List (List ℕ × CheckedNode)
checked_from aliases p [] = []
checked_from aliases p (t ∷ ts) = (t.0, checked_cut t.1 (aliases p)) ∷ checked_from aliases (p + 1) ts

same_from : (one other : ℕ → AliasList) → ((q : ℕ) → one q ≡ other q) → (p : ℕ) (ts : List Text) → checked_from one p ts ≡ checked_from other p ts
unfolding checked_from
same_from one other same p [] = refl
same_from one other same p (t ∷ ts) = ap₂ (λ aliases more. (t.0, checked_cut t.1 aliases) ∷ more) (same p) (same_from one other same (p + 1) ts)

-- the aliases of texts
abbrev uncut_texts : List Text → NodeList
uncut_texts ts = map (λ t. pair_of (t.0, checked_text t.1 [])) ts

plain_uncut : (sheets : SheetList) → plain (uncut_all sheets) ≡ uncut_texts (texts_of sheets)
plain_uncut [] = refl
plain_uncut (pair ∷ sheets) = ap (λ more. pair_of (pair.0, checked_text pair.1.text []) ∷ more) (plain_uncut sheets)

aliases_of : (sheets : SheetList) (q : ℕ) → (aliases_at (uncut_all sheets) q).pairs ≡ (aliases_at (uncut_texts (texts_of sheets)) q).pairs
aliases_of sheets q = ap (λ a. a.pairs) (sym (same_aliases (uncut_all sheets) q) ∙ ap (λ nodes. aliases_at nodes q) (plain_uncut sheets))

commands_at : (sheet : Sheet) (aliases : AliasList) (ids : List ℕ) (ranges : List Range) → length ids ≡ length ranges
    → map checked_command (map (entry sheet aliases) (zip ids ranges)) ≡ map (command_at sheet.text aliases) ranges
commands_at sheet aliases [] [] size = refl
commands_at sheet aliases [] (r ∷ ranges) size = absurd (omega (arith, size))
commands_at sheet aliases (x ∷ ids) [] size = absurd (omega (arith, size))
commands_at sheet aliases (x ∷ ids) (r ∷ ranges) size = ap (λ more. command_at sheet.text aliases r ∷ more) (commands_at sheet aliases ids ranges (omega (arith, size)))

module _ (counted : (before : List Command) (now : List (List ℕ)) (next : ℕ) → length (ids_of before now next) ≡ length now) where
  cut_checked : (sheet : Sheet) (aliases : AliasList) (before : List Command) (next : ℕ) → checked_node (cut sheet aliases before next) ≡ checked_cut sheet.text aliases
  cut_checked sheet aliases before next =
      ap (checked_text sheet.text) (commands_at sheet aliases (ids_of before (sources sheet aliases) next) (ranges_in sheet aliases)
      (counted before (sources sheet aliases) next ∙ length-map (ranges_in sheet aliases) (source sheet.text)))

  nodes_checked : (tip all : NodeList) (p : ℕ) (sheets : SheetList) (next : ℕ)
      → checked_nodes (nodes_from tip all p sheets next).nodes ≡ checked_from (λ q. (aliases_at all q).pairs) p (texts_of sheets)
  unfolding checked_from
  nodes_checked tip all p [] next = refl
  nodes_checked tip all p (pair ∷ sheets) next =
      let aliases = (aliases_at all p).pairs in
      let before = before_in tip pair.0 in
      ap₂ (λ node more. (pair.0, node) ∷ more) (cut_checked pair.1 aliases before next)
      (nodes_checked tip all (p + 1) sheets (next + new_count before (sources pair.1 aliases)))

  by_texts : (tip : NodeList) (sheets : SheetList) (next : ℕ)
      → checked_nodes (nodes_after tip sheets next).nodes ≡ checked_from (λ q. (aliases_at (uncut_texts (texts_of sheets)) q).pairs) 0 (texts_of sheets)
  by_texts tip sheets next =
      nodes_checked tip (uncut_all sheets) 0 sheets next ∙ same_from _ _ (aliases_of sheets) 0 (texts_of sheets)

  -- whatever the version before and the next id
  pub texts_alike : {S : Type 0} (l : Lang S) (sheets others : SheetList) (tip old : NodeList) (next last : ℕ) (blobs : BlobList) → texts_of sheets ≡ texts_of others
      → scratch l (nodes_after tip sheets next).nodes blobs ≡ scratch l (nodes_after old others last).nodes blobs
  texts_alike l sheets others tip old next last blobs same = checked_alike l blobs _ _
      (by_texts tip sheets next ∙ ap (λ ts. checked_from (λ q. (aliases_at (uncut_texts ts) q).pairs) 0 ts) same ∙ sym (by_texts old others last))
