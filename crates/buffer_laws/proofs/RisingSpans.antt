-- The commands of a text stand one behind the other.
use Rattle.std.proofs.Common.{◌≡◌, ℕ, zero, suc, ◌+◌, ◌-◌, ◌<◌, ◌≤◌, Bool, true, false, cond, List, [], ◌∷◌, length, map, filter, drop, Some, sym, subst, ◌∙◌, arith}
use Rattle.std.specs.Prelude.{slice_get}
use Rattle.std.specs.List.{zip, AllByRecursion}
use Rattle.pide_base.specs.declared.range.Range.{Range}
use Rattle.outer_syntax.specs.Tokens.{AreTokensBetween}
use Rattle.outer_syntax.specs.declared.token.Token.{Token}
use Rattle.command_spans.specs.Spans.{AreSpansOf, AreSpans}
use Rattle.command_spans.specs.Cutting.{spans_in}
use Rattle.command_spans.specs.declared.span.Span.{Span}
use Rattle.command_spans.proofs.KnownEnds.{ends, starts, some_tokens}
use Rattle.doc_nodes.specs.Imports.{NodeList}
use Rattle.doc_nodes.specs.Aliases.{aliases_at}
use Rattle.doc_nodes.specs.Needs.{AliasList}
use Rattle.core_rules.specs.Updates.{AreRising}
use Rattle.buffer_rules.specs.declared.sheet.Sheet.{Sheet}
use Rattle.buffer_rules.specs.Cuts.{is_command, command_ranges}
use Rattle.buffer_rules.specs.Numbers.{new_count}
use Rattle.buffer_rules.specs.Sheets.{SheetList}
use Rattle.buffer_rules.specs.Nodes.{entry, ranges_in, sources, before_in, cut, nodes_from}

-- ranges from a place on, one behind the other
AreBehind : ℕ → ℕ → List Range → Type 0
AreBehind from len [] = from ≤ len
AreBehind from len (r ∷ rs) = (from ≤ r.start) × (r.start ≤ r.stop) × AreBehind r.stop len rs

-- so from an earlier place on
earlier : (first from len : ℕ) (rs : List Range) → first ≤ from → AreBehind from len rs → AreBehind first len rs
unfolding AreBehind
earlier first from len [] le behind = omega (arith, le, behind)
earlier first from len (r ∷ rs) le behind = (omega (arith, le, behind.0), behind.1, behind.2)

module _ (names : ℕ → List ℕ → Bool) (text : List ℕ) where
  -- behind a token stand the others
  tokens_behind : (from to j : ℕ) (tokens : List Token) (last : Token) → AreTokensBetween names text from to tokens
      → slice_get tokens j ≡ Some last
      → (from ≤ last.range.stop) × AreTokensBetween names text last.range.stop to (drop (suc j) tokens)
  tokens_behind from to j [] last are at = absurd (cc)
  tokens_behind from to zero (t ∷ ts) last are at =
      let same : t ≡ last = cc in
      let longer = are.1.1 in (
        subst (λ (x : Token). from ≤ x.range.stop) same (omega (arith, are.0, longer)),
        subst (λ (x : Token). AreTokensBetween names text x.range.stop to ts) same are.2,
      )
  tokens_behind from to (suc j) (t ∷ ts) last are at =
      let longer = are.1.1 in
      let rest = tokens_behind t.range.stop to j ts last are.2 at in
      (omega (arith, are.0, longer, rest.0), rest.1)

  spans_behind : (from to : ℕ) (tokens : List Token) (spans : List Span) → AreTokensBetween names text from to tokens
      → AreSpansOf tokens spans → AreBehind from to (map (λ s. s.range) (filter (λ s. is_command s.kind) spans))
  unfolding AreBehind
  spans_behind from to tokens [] are cut = ends names text from to tokens are
  spans_behind from to tokens (s ∷ ss) are (n, is, (first, last, at, end, start, stop), rest) =
      let some = some_tokens s.kind tokens n is in
      let whole : suc (n - 1) ≡ n = omega (arith, some) in
      let more = subst (λ m. (from ≤ last.range.stop) × AreTokensBetween names text last.range.stop to (drop m tokens)) whole
      (tokens_behind from to (n - 1) tokens last are end) in
      let begins : s.range.start ≡ from = start ∙ starts names text from to tokens first are at in
      let within : from ≤ s.range.stop = omega (arith, more.0, stop) in
      let later = subst (λ place. AreBehind place to (map (λ s. s.range) (filter (λ s. is_command s.kind) ss))) (sym stop)
      (spans_behind last.range.stop to (drop n tokens) ss more.1 rest) in
      go (is_command s.kind) begins within later
    where
      go : (b : Bool) → s.range.start ≡ from → from ≤ s.range.stop
          → AreBehind s.range.stop to (map (λ s. s.range) (filter (λ s. is_command s.kind) ss))
          → AreBehind from to (map (λ s. s.range) (cond b (s ∷ filter (λ s. is_command s.kind) ss) (filter (λ s. is_command s.kind) ss)))
      go true begins within later = (omega (arith, begins), omega (arith, begins, within), later)
      go false begins within later = earlier from s.range.stop to (map (λ s. s.range) (filter (λ s. is_command s.kind) ss)) within later

module _ (just : (text : List ℕ) (aliases : List (List ℕ)) → AreSpans text aliases (spans_in text aliases)) where
  ranges_behind : (text : List ℕ) (aliases : List (List ℕ)) → AreBehind 0 (length text) (command_ranges text aliases)
  ranges_behind text aliases = go (just text aliases)
    where
      go : AreSpans text aliases (spans_in text aliases) → AreBehind 0 (length text) (command_ranges text aliases)
      go (tokens, (base, end, under, heading, are), cut) = spans_behind _ text 0 (length text) tokens (spans_in text aliases) are cut

  entries_rise : (sheet : Sheet) (aliases : AliasList) (from len : ℕ) (ids : List ℕ) (ranges : List Range)
      → AreBehind from len ranges → AreRising from len (map (entry sheet aliases) (zip ids ranges))
  unfolding AreBehind
  entries_rise sheet aliases from len [] [] behind = behind
  entries_rise sheet aliases from len [] (r ∷ rs) behind = past r rs behind
    where
      over : (from : ℕ) (rs : List Range) → AreBehind from len rs → from ≤ len
      over from [] behind = behind
      over from (r ∷ rs) behind = omega (arith, behind.0, behind.1, over r.stop rs behind.2)

      past : (r : Range) (rs : List Range) → AreBehind from len (r ∷ rs) → from ≤ len
      past r rs behind = omega (arith, behind.0, behind.1, over r.stop rs behind.2)
  entries_rise sheet aliases from len (i ∷ ids) [] behind = behind
  entries_rise sheet aliases from len (i ∷ ids) (r ∷ rs) behind =
      (behind.0, behind.1, entries_rise sheet aliases r.stop len ids rs behind.2)

  -- the commands of each node rise within its text
  pub all_rise : (tip all : NodeList) (p : ℕ) (pairs : SheetList) (next : ℕ)
      → AllByRecursion (λ pair. AreRising 0 (length pair.1.text) pair.1.entries) (nodes_from tip all p pairs next).nodes
  all_rise tip all p [] next = tt
  all_rise tip all p (pair ∷ pairs) next =
      let aliases = (aliases_at all p).pairs in
      let before = before_in tip pair.0 in (
        entries_rise pair.1 aliases 0 (length pair.1.text) _ (ranges_in pair.1 aliases)
            (ranges_behind pair.1.text (map (λ a. a.0) aliases)),
        all_rise tip all (p + 1) pairs (next + new_count before (sources pair.1 aliases)),
      )
