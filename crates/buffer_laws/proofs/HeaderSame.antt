-- A text has the header of its first command.
use Rattle.std.proofs.Common.{◌≡◌, ℕ, ◌+◌, ◌-◌, ◌≤◌, Bool, true, false, List, [], ◌∷◌, ◌++◌, length, map, drop, Option, Some, None, refl, sym, ap, subst, ◌∙◌, arith}
use Rattle.std.proofs.lemmas.Bool.{false≢true}
use Rattle.std.proofs.lemmas.List.{length-drop, length-take-le, map-append}
use Rattle.std.proofs.lemmas.List.Elements.{filter-append}
use Rattle.std.specs.Prelude.{is_some}
use Rattle.text_words.specs.Pieces.{text_between}
use Rattle.pide_base.specs.declared.range.Range.{Range}
use Rattle.outer_syntax.specs.Headings.{Heading, IsHeading, IsHeadingEnd, words, proper}
use Rattle.outer_syntax.specs.Kinds.{is_proper}
use Rattle.outer_syntax.specs.Lexing.{tokens_under}
use Rattle.outer_syntax.specs.Stages.{end_from}
use Rattle.outer_syntax.specs.Tokens.{AreTokensUnder, text_of}
use Rattle.outer_syntax.specs.Words.{is_in_force}
use Rattle.outer_syntax.specs.declared.stage.Stage.TheVariants.{Start}
use Rattle.outer_syntax.specs.declared.token.Token.{Token}
use Rattle.outer_syntax.proofs.KnownHeadings.{heading-end}
use Rattle.outer_syntax.proofs.KnownLexing.{AreStaged, all-tokens, staged-rises, tokens-staged}
use Rattle.command_spans.specs.Spans.{AreSpans}
use Rattle.command_spans.specs.Cutting.{spans_in}
use Rattle.outer_syntax.specs.Headers.{HasHeader, header_of}
use Rattle.outer_syntax.specs.Reading.{header_in}
use Rattle.outer_syntax.specs.declared.parts.Header.{Header}
use Rattle.buffer_rules.specs.Cuts.{command_ranges}
use Rattle.buffer_laws.proofs.FirstCommands.{FirstCommand, find_first}
use Rattle.buffer_laws.proofs.HeaderWords.{none_based, heading_on}
use Rattle.buffer_laws.proofs.HeaderSteps.{skip, keep_all}
use Rattle.buffer_laws.proofs.HeaderTokens.{base, base_tokens, end_read}
use Rattle.buffer_laws.proofs.PieceTokens.{piece, shift, all_moved, end_moved, words_moved}

-- the tokens of a text without aliases
abbrev plain : List ℕ → List Token
plain text = tokens_under (λ _. is_in_force []) text

module _ (one : (names : ℕ → List ℕ → Bool) (text : List ℕ) (tokens : List Token) → AreTokensUnder names text tokens → tokens ≡ tokens_under names text)
    (has : (text : List ℕ) (h : Header) → header_in text ≡ Some h → HasHeader text h)
    (told : (text : List ℕ) (h : Header) → HasHeader text h → header_in text ≡ Some h) where
  heading_in : (text : List ℕ) (h : Header) → header_in text ≡ Some h → (g : Heading) × (n : ℕ) × IsHeading text (proper (plain text)) g n × (h ≡ header_of g)
  heading_in text h e = go (has text h e)
    where
      go : HasHeader text h → (g : Heading) × (n : ℕ) × IsHeading text (proper (plain text)) g n × (h ≡ header_of g)
      go (tokens, g, n, are, is, same) =
          (g, n, subst (λ ts. IsHeading text (proper ts) g n) (one (λ _. is_in_force []) text tokens are) is, same)

  told_by : (text : List ℕ) (g : Heading) (n : ℕ) → IsHeading text (proper (plain text)) g n → header_in text ≡ Some (header_of g)
  told_by text g n is = told text (header_of g) (plain text, g, n, all-tokens (λ _. is_in_force []) text, is, refl)

  -- a header ends somewhere just where there is one
  ends_some : (text : List ℕ) (g : Heading) (n : ℕ) → IsHeading text (proper (plain text)) g n → is_some (end_from text Start (plain text)) ≡ true
  ends_some text g n is = go (end_from text Start (plain text)) (heading-end text (plain text))
    where
      go : (o : Option ℕ) → IsHeadingEnd text (proper (plain text)) o → is_some o ≡ true
      go None none = absurd (none g n is)
      go (Some stop) ends = refl

  some_told : (text : List ℕ) → is_some (end_from text Start (plain text)) ≡ true → header_in text ≡ None → ⊥
  some_told text some none = go (end_from text Start (plain text)) some (heading-end text (plain text))
    where
      go : (o : Option ℕ) → is_some o ≡ true → IsHeadingEnd text (proper (plain text)) o → ⊥
      go None some ends = false≢true some
      go (Some stop) some (g, n, last, is, at, end) = let e = sym none ∙ told_by text g n is in cc

  module _ (text : List ℕ) (aliases : List (List ℕ)) (tokens : List Token) (r : Range)
      (staged : AreStaged aliases text Start 0 (length text) tokens) (first : FirstCommand text aliases tokens r) where
    abbrev part : List ℕ
    part = piece text r.start r.stop

    abbrev own : List Token
    own = first.first ∷ first.others

    abbrev moved : List Token
    moved = map (shift text r.start r.stop) own

    rises : r.start ≤ r.stop
    rises = staged-rises aliases text Start r.start r.stop own first.staged

    long : length part ≡ r.stop - r.start
    long = length-take-le (r.stop - r.start) (drop r.start text) (omega (arith, length-drop r.start text, first.within, rises))

    part_staged : AreStaged aliases part Start 0 (length part) moved
    part_staged =
        let zero_at : r.start - r.start ≡ 0 = omega arith in
        subst (λ n. AreStaged aliases part Start 0 n moved) (sym long)
        (subst (λ p. AreStaged aliases part Start p (r.stop - r.start) moved) zero_at
        (all_moved text r.start r.stop aliases Start r.start r.stop own (omega arith) (omega arith) first.staged))

    own_words : words part (proper (plain part)) ≡ words text (proper (map (base aliases text) own))
    own_words = ap (λ ts. words part (proper ts)) (base_tokens aliases part moved part_staged)
        ∙ words_moved text r.start r.stop aliases Start r.start r.stop own (omega arith) (omega arith) first.staged

    all_words : words text (proper (plain text)) ≡ words part (proper (plain part)) ++ words text (proper (map (base aliases text) first.rest))
    all_words =
        let f = base aliases text in
        let after = own ++ first.rest in
        ap (λ ts. words text (proper ts)) (base_tokens aliases text tokens staged ∙ ap (map f) first.whole ∙ map-append f first.before after)
        ∙ ap (words text) (filter-append (λ (t : Token). is_proper t.kind) (map f first.before) (map f after))
        ∙ ap (λ ts. words text (ts ++ proper (map f after))) (none_based aliases text first.before first.improper)
        ∙ ap (λ ts. words text (proper ts)) (map-append f own first.rest)
        ∙ ap (words text) (filter-append (λ (t : Token). is_proper t.kind) (map f own) (map f first.rest))
        ∙ map-append (λ (t : Token). (t.kind, text_of text t)) (proper (map f own)) (proper (map f first.rest))
        ∙ ap (λ ws. ws ++ words text (proper (map f first.rest))) (sym own_words)

    -- so it has the part's header
    yes : (h : Header) → header_in part ≡ Some h → header_in text ≡ Some h
    yes h e = go (heading_in part h e)
      where
        go : (g : Heading) × (n : ℕ) × IsHeading part (proper (plain part)) g n × (h ≡ header_of g) → header_in text ≡ Some h
        go (g, n, is, same) = told_by text g n (heading_on part text (proper (plain part)) (proper (plain text)) _ g n all_words is) ∙ ap (λ x. Some x) (sym same)

    ends_same : end_from text Start (plain text) ≡ end_from text Start own
    ends_same = end_read aliases text tokens staged ∙ ap (end_from text Start) first.whole
        ∙ skip text Start first.before (own ++ first.rest) first.improper refl
        ∙ keep_all text first.first first.others first.rest first.begins first.none

    -- or neither has one
    no : header_in part ≡ None → (o : Option Header) → header_in text ≡ o → header_in text ≡ None
    no none None e = e
    no none (Some h) e = go (heading_in text h e)
      where
        go : (g : Heading) × (n : ℕ) × IsHeading text (proper (plain text)) g n × (h ≡ header_of g) → header_in text ≡ None
        go (g, n, is, same) =
            let here : is_some (end_from part Start (plain part)) ≡ true =
            ap is_some (end_read aliases part moved part_staged)
            ∙ end_moved text r.start r.stop aliases Start r.start r.stop own (omega arith) (omega arith) first.staged
            ∙ ap is_some (sym ends_same) ∙ ends_some text g n is in
            absurd (some_told part here none)

    pub same_header : header_in text ≡ header_in part
    same_header = go (header_in part) refl
      where
        go : (o : Option Header) → header_in part ≡ o → header_in text ≡ o
        go None e = no e (header_in text) refl
        go (Some h) e = yes h e

  -- a text has the header of its first command's source
  pub first_header : (spans_so : (text : List ℕ) (aliases : List (List ℕ)) → AreSpans text aliases (spans_in text aliases)) (text : List ℕ)
      (aliases : List (List ℕ)) (r : Range) (rs : List Range) → command_ranges text aliases ≡ r ∷ rs
      → header_in text ≡ header_in (text_between text r.start r.stop)
  first_header spans_so text aliases r rs e = go (spans_so text aliases)
    where
      go : AreSpans text aliases (spans_in text aliases) → header_in text ≡ header_in (text_between text r.start r.stop)
      go (tokens, are, cut) =
          let staged = tokens-staged text aliases tokens are in
          same_header text aliases tokens r staged (find_first text aliases 0 tokens (spans_in text aliases) r rs staged cut e)
