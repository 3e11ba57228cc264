-- A text without commands has no header.
use Rattle.std.proofs.Common.{◌≡◌, ℕ, zero, suc, ◌-◌, ◌≤◌, Bool, true, false, cond, if◌then◌else◌, List, [], ◌∷◌, length, map, filter, take, drop, Option, Some, None, refl, sym, subst, ap, ◌∙◌, arith}
use Rattle.std.proofs.lemmas.Bool.{false≢true}
use Rattle.std.proofs.lemmas.List.{take-append-drop}
use Rattle.std.specs.List.{AllByRecursion, AllWithin}
use Rattle.text_words.proofs.KnownLists.{each-both}
use Rattle.outer_syntax.specs.Headings.{Heading, IsHeading, proper, words, words_of}
use Rattle.outer_syntax.specs.Kinds.{is_proper}
use Rattle.outer_syntax.specs.Lexing.{tokens_under}
use Rattle.outer_syntax.specs.Tokens.{AreTokensBetween, AreTokensUnder}
use Rattle.outer_syntax.specs.Words.{kind_of, is_in_force, is_minor_keyword}
use Rattle.outer_syntax.specs.declared.bracket.Bracket.TheVariants.{Comment, String, Cartouche}
use Rattle.outer_syntax.specs.declared.kind.Kind.{Kind}
use Rattle.outer_syntax.specs.declared.kind.Kind.TheVariants as kind
use Rattle.outer_syntax.specs.declared.row.Row.{Row}
use Rattle.outer_syntax.specs.declared.row.Row.TheVariants.{Space, Enclosed, Error, Symbol, LongIdent, Word, Sym}
use Rattle.outer_syntax.specs.declared.token.Token.{Token}
use Rattle.command_spans.specs.Spans.{IsSpan, AreSpansOf, AreSpans}
use Rattle.command_spans.specs.Cutting.{spans_in}
use Rattle.command_spans.specs.declared.span.Span.{Span}
use Rattle.command_spans.specs.declared.span.SpanKind.{SpanKind}
use Rattle.command_spans.specs.declared.span.SpanKind.TheVariants.{Command, Malformed, Ignored}
use Rattle.outer_syntax.specs.Headers.{HasHeader}
use Rattle.outer_syntax.specs.Reading.{header_in}
use Rattle.outer_syntax.specs.declared.parts.Header.{Header}
use Rattle.buffer_rules.specs.Cuts.{is_command, command_ranges}

-- a token is a space or a comment
abbrev pub IsImproper : Token → Type 0
IsImproper t = is_proper t.kind ≡ false

-- whatever names are in force, it is
word_proper : (a b : Bool) → is_proper (if a then kind.Command else (if b then kind.Keyword else kind.Ident)) ≡ true
word_proper true b = refl
word_proper false true = refl
word_proper false false = refl

clash : {A : Type 0} (k l : Kind) → is_proper k ≡ false → is_proper l ≡ true → k ≡ l → A
clash k l improper is_so e = absurd (false≢true (sym improper ∙ ap is_proper e ∙ is_so))

same_kind : (f g : List ℕ → Bool) (row : Row) (s : List ℕ) (k : Kind) → is_proper k ≡ false → k ≡ kind_of f row s → k ≡ kind_of g row s
same_kind f g Space s k improper e = e
same_kind f g (Enclosed Comment) s k improper e = e
same_kind f g (Enclosed String) s k improper e = e
same_kind f g (Enclosed Cartouche) s k improper e = e
same_kind f g Error s k improper e = e
same_kind f g Symbol s k improper e = e
same_kind f g LongIdent s k improper e = e
same_kind f g Word s k improper e = clash k _ improper (word_proper (f s) (is_minor_keyword s)) e
same_kind f g Sym s k improper e = e

same_tokens : (f g : ℕ → List ℕ → Bool) (text : List ℕ) (from to : ℕ) (tokens : List Token) → AllByRecursion IsImproper tokens
    → AreTokensBetween f text from to tokens → AreTokensBetween g text from to tokens
same_tokens f g text from to [] all are = are
same_tokens f g text from to (t ∷ ts) all (at, (row, some, first, is), rest) =
    (at, (row, some, first, same_kind (f from) (g from) row _ t.kind all.0 is), same_tokens f g text t.range.stop to ts all.1 rest)

none_proper : (tokens : List Token) → AllByRecursion IsImproper tokens → proper tokens ≡ []
none_proper [] all = refl
none_proper (t ∷ ts) all = ap (λ b. cond b (t ∷ proper ts) (proper ts)) all.0 ∙ none_proper ts all.1

-- the first tokens, all of which are improper
pub front_improper : (tokens : List Token) (n : ℕ) → AllWithin (λ t. is_proper t.kind ≡ false) tokens 0 n → n ≤ length tokens
    → AllByRecursion IsImproper (take n tokens)
front_improper tokens zero all le = tt
front_improper [] (suc n) all le = tt
front_improper (t ∷ ts) (suc n) all le =
    (all zero t (omega arith) (omega arith), front_improper ts n (λ k d low high. all (suc k) d (omega arith) (omega arith)) (omega arith))

-- where no span is a command, all tokens are
all_improper : (tokens : List Token) (spans : List Span) → AreSpansOf tokens spans
    → map (λ s. s.range) (filter (λ s. is_command s.kind) spans) ≡ [] → AllByRecursion IsImproper tokens
all_improper tokens [] none_left none = subst (AllByRecursion IsImproper) (sym none_left) tt
all_improper tokens (s ∷ ss) (n, is, covers, rest) none =
    go s.kind is none (λ later. all_improper (drop n tokens) ss rest later)
  where
    go : (kind : SpanKind) → IsSpan kind tokens n
        → map (λ s. s.range) (cond (is_command kind) (s ∷ filter (λ s. is_command s.kind) ss) (filter (λ s. is_command s.kind) ss)) ≡ []
        → (map (λ s. s.range) (filter (λ s. is_command s.kind) ss) ≡ [] → AllByRecursion IsImproper (drop n tokens))
        → AllByRecursion IsImproper tokens
    go Command is none more = absurd (cc)
    go Malformed is none more = absurd (cc)
    go Ignored is none more =
        subst (AllByRecursion IsImproper) (take-append-drop n tokens)
        (each-both IsImproper (take n tokens) (drop n tokens) (front_improper tokens n is.2 is.1) (more none))

heading_some : (text : List ℕ) (tokens : List Token) (h : Heading) (n : ℕ) → IsHeading text tokens h n → tokens ≡ [] → ⊥
heading_some text tokens h zero is none = let e = is.spelled in cc
heading_some text tokens h (suc n) is none =
    let e : words text (take (suc n) []) ≡ words_of h = ap (λ ts. words text (take (suc n) ts)) (sym none) ∙ is.spelled in cc

module _ (spans_so : (text : List ℕ) (aliases : List (List ℕ)) → AreSpans text aliases (spans_in text aliases))
    (one : (names : ℕ → List ℕ → Bool) (text : List ℕ) (tokens : List Token) → AreTokensUnder names text tokens → tokens ≡ tokens_under names text)
    (has : (text : List ℕ) (h : Header) → header_in text ≡ Some h → HasHeader text h) where
  no_header : (text : List ℕ) (h : Header) (tokens : List Token) → AllByRecursion IsImproper tokens
      → AreTokensUnder (λ _. is_in_force []) text tokens → HasHeader text h → ⊥
  no_header text h tokens all are (base, heading, n, base_are, is, told) =
      let same : base ≡ tokens = one (λ _. is_in_force []) text base base_are ∙ sym (one (λ _. is_in_force []) text tokens are) in
      heading_some text (proper base) heading n is (ap proper same ∙ none_proper tokens all)

  pub bare : (text : List ℕ) (aliases : List (List ℕ)) → command_ranges text aliases ≡ [] → header_in text ≡ None
  bare text aliases none = go (spans_so text aliases) (header_in text) refl
    where
      go : AreSpans text aliases (spans_in text aliases) → (o : Option Header) → header_in text ≡ o → header_in text ≡ None
      go so None e = e
      go (tokens, (base, end, under, heading, are), cut) (Some h) e =
          let all = all_improper tokens (spans_in text aliases) cut none in
          absurd (no_header text h tokens all (same_tokens _ (λ _. is_in_force []) text 0 (length text) tokens all are) (has text h e))
