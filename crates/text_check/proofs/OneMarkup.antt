-- The markup of a text, by its commands one after the other.
use Rattle.std.proofs.Common.{◌≡◌, ℕ, List, [], Option, Some, None, codes, length, map, true, refl, sym, ap, subst, ◌∙◌}
use Rattle.std.specs.List.{flat_map, zip, AllByRecursion}
use Rattle.std.specs.Option.{option_map_or}
use Rattle.std.proofs.lemmas.List.{length-map}
use Rattle.pide_base.specs.declared.range.Range.{Range}
use Rattle.report_markup.specs.Sorting.{ordered_reports}
use Rattle.outer_syntax.specs.Reading.{header_in}
use Rattle.outer_syntax.specs.declared.parts.Header.{Header}
use Rattle.doc_nodes.specs.declared.inherited.NodeAliases.{NodeAliases}
use Rattle.doc_nodes.specs.declared.node.Node.{Node}
use Rattle.doc_nodes.specs.Aliases.{aliases_at}
use Rattle.doc_nodes.specs.Needs.{AliasList}
use Rattle.language.specs.Lang.{Lang}
use Rattle.core_rules.specs.Updates.{AreRising}
use Rattle.buffer_rules.specs.declared.sheet.Sheet.{Sheet}
use Rattle.buffer_rules.specs.Cuts.{command_ranges, source}
use Rattle.buffer_rules.specs.Nodes.{cut as cut_sheet, nodes_after, ranges_in, sources, uncut, uncut_all}
use Rattle.buffer_rules.specs.Numbers.{ids_of}
use Rattle.text_check.specs.OneText.{markup_of, text_name, name_or_scratch, one_sheet, reported}
use Rattle.text_check.specs.declared.heading.Heading.{Heading}
use Rattle.text_check.specs.Headings.{begins, headed, heading_in, heading_of}
use Rattle.node_check.specs.Walking.{LiesIn, reports_from}
use Rattle.node_check.proofs.KnownRuns.{reported_so}
use Rattle.text_check.proofs.Alike.{aliases_alike}
use Rattle.text_check.proofs.OneWalk.{scratch_one}
use Rattle.node_check.proofs.KnownRanges.{lie_within, ranges_so}

-- the sheet, the aliases and the node of a text
abbrev sheet_of : List ℕ → Sheet
sheet_of text = record { text = text; required = true; ranges = [] }

abbrev aliases_of : List ℕ → AliasList
aliases_of text = (aliases_at (uncut_all (one_sheet text)) 0).pairs

abbrev node_of : List ℕ → Node
node_of text = cut_sheet (sheet_of text) (aliases_of text) [] 1

-- as many ids as sources
abbrev pub Numbered : Type 0
Numbered = (now : List (List ℕ)) → length (ids_of [] now 1) ≡ length now

-- its header, before it is cut
abbrev uncut_of : List ℕ → Node
uncut_of text = uncut (sheet_of text)

-- what its header tells
abbrev told : List ℕ → Option Header → Heading
told name h = headed name (option_map_or (λ header. header.imports) h []) (option_map_or (λ header. header.keywords) h [])

told_so : (name : List ℕ) (h : Option Header) → told name h ≡ heading_in name h
told_so name None = refl
told_so name (Some header) = refl

-- where the commands stand under the aliases of a heading
abbrev pub ranges_by : List ℕ → Heading → List Range
ranges_by text heading = command_ranges text (map (λ pair. pair.0) heading.aliases.pairs)

-- the commands stand where its text is cut
ranges_at : Numbered → (text : List ℕ)
    → map (λ e. e.range) (node_of text).entries ≡ ranges_by text
    (told (text_name text) (header_in text))
ranges_at numbered text =
    let sheet = sheet_of text in
    let aliases = aliases_of text in
    ranges_so sheet aliases (ids_of [] (sources sheet aliases) 1) (ranges_in sheet aliases)
    (numbered (sources sheet aliases) ∙ length-map (ranges_in sheet aliases) (source text))
    ∙ ap (λ (in_force : NodeAliases). command_ranges text (map (λ pair. pair.0) in_force.pairs)) (aliases_alike (text_name text) (uncut_of text))

-- the markup is what its commands report one after the other
pub markup_so : {S : Type 0} (l : Lang S) → Numbered → (text : List ℕ)
    → markup_of l text ≡ ordered_reports (reports_from l text (ranges_by text (heading_of text))
    (begins l (heading_of text)))
markup_so l numbered text =
    let heading = told (text_name text) (header_in text) in
    subst (λ h. markup_of l text ≡ ordered_reports (reports_from l text (ranges_by text h) (begins l h))) (told_so (text_name text) (header_in text))
    (ap ordered_reports (ap (λ settings. flat_map (reported l) (zip (node_of text).entries settings)) (scratch_one l (text_name text) (node_of text))
    ∙ reported_so l (node_of text) (node_of text).entries (begins l heading)
    ∙ ap (λ ranges. reports_from l text ranges (begins l heading)) (ranges_at numbered text)))

-- its commands lie in the text
pub lie_so : Numbered → (text : List ℕ)
    → AllByRecursion (λ pair. AreRising 0 (length pair.1.text) pair.1.entries) (nodes_after [] (one_sheet text) 1).nodes
    → AllByRecursion (LiesIn (length text)) (ranges_by text (heading_of text))
lie_so numbered text rising =
    subst (λ h. AllByRecursion (LiesIn (length text)) (ranges_by text h))
    (told_so (text_name text) (header_in text))
    (subst (AllByRecursion (LiesIn (length text))) (ranges_at numbered text)
    (lie_within 0 (length text) (node_of text).entries rising.0))

-- the heading of a text that has a header
pub heading_some : (text : List ℕ) (h : Header) → header_in text ≡ Some h
    → headed (name_or_scratch h.name) h.imports h.keywords ≡ heading_of text
heading_some text h found =
    sym (ap (λ x. heading_in (option_map_or (λ header. name_or_scratch header.name) x (codes
    "Scratch")) x) found)
