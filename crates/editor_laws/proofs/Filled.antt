-- No command of a text is empty.
use Rattle.std.proofs.Common.{◌≡◌, ℕ, zero, suc, ◌+◌, ◌-◌, ◌<◌, ◌≤◌, Bool, true, false, cond, List, [], ◌∷◌, length, map, filter, drop, Some, ap, subst, ◌∙◌, arith}
use Rattle.std.proofs.lemmas.List.{length-drop, length-take-le}
use Rattle.std.specs.Prelude.{slice_get, ◌≢◌}
use Rattle.std.specs.List.{zip, AllByRecursion}
use Rattle.pide_base.specs.declared.range.Range.{Range}
use Rattle.outer_syntax.specs.Tokens.{AreTokensBetween}
use Rattle.outer_syntax.specs.declared.token.Token.{Token}
use Rattle.command_spans.specs.Spans.{AreSpansOf, AreSpans}
use Rattle.command_spans.specs.Cutting.{spans_in}
use Rattle.command_spans.specs.declared.span.Span.{Span}
use Rattle.command_spans.proofs.KnownEnds.{ends, starts, some_tokens}
use Rattle.doc_nodes.specs.declared.node.Entry.{Entry}
use Rattle.doc_nodes.specs.declared.node.Node.{Node}
use Rattle.doc_nodes.specs.Imports.{NodeList}
use Rattle.doc_nodes.specs.Aliases.{aliases_at}
use Rattle.doc_nodes.specs.Needs.{AliasList}
use Rattle.exec_rules.proofs.KnownThere.{all_at}
use Rattle.core_rules.specs.Updates.{source_in}
use Rattle.buffer_rules.specs.declared.sheet.Sheet.{Sheet}
use Rattle.buffer_rules.specs.Cuts.{is_command, command_ranges}
use Rattle.buffer_rules.specs.Numbers.{new_count}
use Rattle.buffer_rules.specs.Sheets.{SheetList}
use Rattle.buffer_rules.specs.Nodes.{entry, ranges_in, sources, before_in, nodes_after, nodes_from, uncut_all}
use Rattle.editor_laws.proofs.Known.{AreFilled}

-- the range has a scalar of the text
abbrev IsFilled : List ℕ → Range → Type 0
IsFilled text r = (r.start < r.stop) × (r.stop ≤ length text)

module _ (names : ℕ → List ℕ → Bool) (text : List ℕ) where
  -- a token ends behind the place where those up to it begin
  token_behind : (from to j : ℕ) (tokens : List Token) (last : Token) → AreTokensBetween names text from to tokens
      → slice_get tokens j ≡ Some last
      → (from < last.range.stop) × AreTokensBetween names text last.range.stop to (drop (suc j) tokens)
  token_behind from to j [] last are at = absurd (cc)
  token_behind from to zero (t ∷ ts) last are at =
      let same : t ≡ last = cc in
      let longer = are.1.1 in (
        subst (λ (x : Token). from < x.range.stop) same (omega (arith, are.0, longer)),
        subst (λ (x : Token). AreTokensBetween names text x.range.stop to ts) same are.2,
      )
  token_behind from to (suc j) (t ∷ ts) last are at =
      let longer = are.1.1 in
      let rest = token_behind t.range.stop to j ts last are.2 at in
      (omega (arith, are.0, longer, rest.0), rest.1)

  spans_filled : (from : ℕ) (tokens : List Token) (spans : List Span) → AreTokensBetween names text from (length text) tokens
      → AreSpansOf tokens spans → AllByRecursion (IsFilled text) (map (λ s. s.range) (filter (λ s. is_command s.kind) spans))
  spans_filled from tokens [] are cut = tt
  spans_filled from tokens (s ∷ ss) are (n, is, (first, last, at, end, start, stop), rest) =
      let some = some_tokens s.kind tokens n is in
      let whole : suc (n - 1) ≡ n = omega (arith, some) in
      let more = subst (λ m. (from < last.range.stop) × AreTokensBetween names text last.range.stop (length text) (drop m tokens)) whole
      (token_behind from (length text) (n - 1) tokens last are end) in
      let begins : s.range.start ≡ from = start ∙ starts names text from (length text) tokens first are at in
      let within : s.range.stop ≤ length text = omega (arith, stop, ends names text last.range.stop (length text) (drop n tokens) more.1) in
      let longer : s.range.start < s.range.stop = omega (arith, begins, stop, more.0) in
      go (is_command s.kind) longer within (spans_filled last.range.stop (drop n tokens) ss more.1 rest)
    where
      go : (b : Bool) → s.range.start < s.range.stop → s.range.stop ≤ length text
          → AllByRecursion (IsFilled text) (map (λ s. s.range) (filter (λ s. is_command s.kind) ss))
          → AllByRecursion (IsFilled text) (map (λ s. s.range) (cond b (s ∷ filter (λ s. is_command s.kind) ss) (filter (λ s. is_command s.kind) ss)))
      go true longer within rest = ((longer, within), rest)
      go false longer within rest = rest

source_filled : (node : Node) (e : Entry) → IsFilled node.text e.range → source_in node e ≢ []
source_filled node e is empty =
    let left = length-drop e.range.start node.text in
    let long = length-take-le (e.range.stop - e.range.start) (drop e.range.start node.text) (omega (arith, left, is.1)) in
    let none : length (source_in node e) ≡ 0 = ap length empty in
    absurd (omega (arith, is.0, long, none))

module _ (just : (text : List ℕ) (aliases : List (List ℕ)) → AreSpans text aliases (spans_in text aliases)) where
  ranges_filled : (text : List ℕ) (aliases : List (List ℕ)) → AllByRecursion (IsFilled text) (command_ranges text aliases)
  ranges_filled text aliases = go (just text aliases)
    where
      go : AreSpans text aliases (spans_in text aliases) → AllByRecursion (IsFilled text) (command_ranges text aliases)
      go (tokens, (base, end, under, heading, are), cut) = spans_filled _ text 0 tokens (spans_in text aliases) are cut

  entries_filled : (sheet : Sheet) (aliases : AliasList) (ids : List ℕ) (ranges : List Range)
      → AllByRecursion (IsFilled sheet.text) ranges → AllByRecursion (λ (e : Entry). IsFilled sheet.text e.range) (map (entry sheet aliases) (zip ids ranges))
  entries_filled sheet aliases [] ranges all = tt
  entries_filled sheet aliases (i ∷ ids) [] all = tt
  entries_filled sheet aliases (i ∷ ids) (r ∷ ranges) all = (all.0, entries_filled sheet aliases ids ranges all.1)

  all_filled : (tip all : NodeList) (p : ℕ) (pairs : SheetList) (next : ℕ)
      → AllByRecursion (λ (pair : List ℕ × Node). AllByRecursion (λ (e : Entry). IsFilled pair.1.text e.range) pair.1.entries) (nodes_from tip all p pairs next).nodes
  all_filled tip all p [] next = tt
  all_filled tip all p (pair ∷ pairs) next =
      let aliases = (aliases_at all p).pairs in
      let before = before_in tip pair.0 in (
        entries_filled pair.1 aliases _ (ranges_in pair.1 aliases) (ranges_filled pair.1.text (map (λ a. a.0) aliases)),
        all_filled tip all (p + 1) pairs (next + new_count before (sources pair.1 aliases)),
      )

  -- so of all nodes that an update makes
  pub nodes_filled : (tip : NodeList) (sheets : SheetList) (next : ℕ) → AreFilled (nodes_after tip sheets next).nodes
  nodes_filled tip sheets next p i pair e stands at = source_filled pair.1 e
      (all_at (λ (x : Entry). IsFilled pair.1.text x.range) pair.1.entries i e
      (all_at (λ (n : List ℕ × Node). AllByRecursion (λ (x : Entry). IsFilled n.1.text x.range) n.1.entries) (nodes_after tip sheets next).nodes p pair
      (all_filled tip (uncut_all sheets) 0 sheets next) stands) at)
