-- Tokens stand on symbols, whichever names are commands.
use Rattle.std.proofs.Common.{◌≡◌, inl, inr, ◌↔◌, ℕ, zero, suc, ◌+◌, ◌-◌, ◌<◌, ◌≤◌, Bool, true}
use Rattle.std.proofs.Common.{false, cond, List, [], ◌∷◌, length, map, refl, sym, subst}
use Rattle.std.proofs.Common.{arith, length-drop}
use Rattle.std.specs.Prelude.{◌≢◌, All}
use Rattle.std.specs.List.{AllByRecursion}
use Rattle.pide_base.specs.declared.range.Range.{Range}
use Rattle.outer_syntax.specs.Symbols.{IsBoundary, IsInside}
use Rattle.symbol_markup.specs.Places.{IsSymbolPlace, symbol_place, StandsOnSymbols}
use Rattle.outer_syntax.specs.Headings.{AreTokens, proper}
use Rattle.outer_syntax.specs.Kinds.{is_proper}
use Rattle.outer_syntax.specs.Lexing.{first_fit, tokens_from, tokens_under, tokens_of}
use Rattle.outer_syntax.specs.Tokens.{AreTokensBetween}
use Rattle.outer_syntax.specs.Words.{is_in_force}
use Rattle.outer_syntax.specs.declared.token.Token.{Token}
use Rattle.outer_syntax.proofs.KnownLexing.{are-tokens, all-tokens, between-rises}
use Rattle.doc_nodes.specs.Needs.{AliasList, source_tokens}
use Rattle.proof_terms.specs.Cited.{IsPlaceOf}
use Rattle.editor_laws.specs.Placed.{IsPlaced}

module _ (P : Range → Type 0) where
  abbrev Each : List Token → Type 0
  Each = AllByRecursion (λ t. P t.range)

  -- the names tell kinds alone
  renamed : (names others : ℕ → List ℕ → Bool) (k place : ℕ) (text : List ℕ)
      → Each (tokens_from names k place text) → Each (tokens_from others k place text)
  renamed names others k place [] all = tt
  renamed names others (suc k) place (c ∷ cs) all = renamed names others k (place + 1) cs all
  renamed names others zero place (c ∷ cs) all =
      (all.0, renamed names others ((first_fit (c ∷ cs)).1 - 1) (place + 1) cs all.1)

  proper-too : (ts : List Token) → Each ts → Each (proper ts)
  proper-too [] all = tt
  proper-too (t ∷ ts) all = go (is_proper t.kind) (proper-too ts all.1)
    where
      go : (b : Bool) → Each (proper ts) → Each (cond b (t ∷ proper ts) (proper ts))
      go true more = (all.0, more)
      go false more = more

  at-place : (ts : List Token) (r : Range) → Each ts → IsPlaceOf ts r → P r
  at-place [] r all here = absurd here
  at-place (t ∷ ts) r all (inl is) = subst P (sym is) all.0
  at-place (t ∷ ts) r all (inr later) = at-place ts r all.1 later

some-length : (text : List ℕ) → text ≢ [] → 0 < length text
some-length [] some = absurd (some refl)
some-length (c ∷ cs) some = omega arith

by-recursion : {X : Type 0} (P : X → Type 0) (xs : List X) → All P xs → AllByRecursion P xs
by-recursion P [] all = tt
by-recursion P (x ∷ xs) all =
    (all 0 x (omega arith), by-recursion P xs (λ k d below. all (suc k) d (omega (arith, below))))

module _ (text : List ℕ) where
  -- no symbol has an end inside
  abbrev IsApart : Range → Type 0
  IsApart r = (symbol : ℕ) → (IsInside text symbol r.start → ⊥) × (IsInside text symbol r.stop → ⊥)

  -- a scalar at least, in the text
  abbrev IsFilled : Range → Type 0
  IsFilled r = (r.start < r.stop) × (r.stop ≤ length text)

  filled : (names : ℕ → List ℕ → Bool) (from : ℕ) (ts : List Token)
      → AreTokensBetween names text from (length text) ts
      → AllByRecursion (λ t. IsFilled t.range) ts
  filled names from [] are = tt
  filled names from (t ∷ ts) are = (
    (are.1.1, between-rises names text t.range.stop (length text) ts are.2),
    filled names t.range.stop ts are.2,
  )

  end-apart : (symbol : ℕ) → IsInside text symbol (length text) → ⊥
  end-apart symbol (start, stop, boundary, at, after, before) = omega
      (arith, at.0, at.1.within, after, before, length-drop start text)

  module _ (law : (aliases : List (List ℕ)) (tokens : List Token) → AreTokens text aliases tokens
      → (symbol : ℕ)
      → All (λ t. (IsInside text symbol t.range.start → ⊥)
      × (IsInside text symbol t.range.stop → ⊥)) tokens)
      (just : (place number : ℕ) → place ≤ length text
      → IsSymbolPlace text place number ↔ (number ≡ symbol_place text place)) where
    between : (place : ℕ) → place ≤ length text → ((symbol : ℕ) → IsInside text symbol place → ⊥)
        → (n : ℕ) × IsBoundary text n place
    between place within apart = go ((just place (symbol_place text place) within).1 refl)
      where
        go : IsSymbolPlace text place (symbol_place text place) → (n : ℕ) × IsBoundary text n place
        go (n, inl boundary, is) = (n, boundary)
        go (n, inr inside, is) = absurd (apart n inside)

    on-symbols : (r : Range) → IsApart r → IsFilled r → StandsOnSymbols text r
    on-symbols r apart some = record {
      starts = between r.start (omega (arith, some.0, some.1)) (λ symbol. (apart symbol).0);
      stops = between r.stop some.1 (λ symbol. (apart symbol).1);
      filled = some.0;
    }

    tokens-apart : (aliases : AliasList)
        → AllByRecursion (λ t. IsApart t.range) (source_tokens aliases text)
    tokens-apart aliases =
        let tokens = tokens_of text [] in
        let each : All (λ (t : Token). IsApart t.range) tokens = λ k d below symbol. law [] tokens
        (are-tokens text []) symbol k d below in
        proper-too IsApart _
        (renamed IsApart _ (λ _. is_in_force (map (λ pair. pair.0) aliases)) 0 0 text
        (by-recursion _ tokens each))

    tokens-filled : (aliases : AliasList)
        → AllByRecursion (λ t. IsFilled t.range) (source_tokens aliases text)
    tokens-filled aliases =
        let names : ℕ → List ℕ → Bool = λ _. is_in_force (map (λ pair. pair.0) aliases) in
        proper-too IsFilled _ (filled names 0 (tokens_under names text) (all-tokens names text))

    -- what is placed stands on symbols
    pub placed_stands : (aliases : AliasList) → text ≢ [] → (r : Range)
        → IsPlaced text (source_tokens aliases text) r → StandsOnSymbols text r
    placed_stands aliases some r (inl is) = subst (StandsOnSymbols text) (sym is) (record {
      starts = (0, ([], refl, refl));
      stops = between (length text) (omega arith) end-apart;
      filled = some-length text some;
    })
    placed_stands aliases some r (inr here) =
        on-symbols r (at-place IsApart _ r (tokens-apart aliases) here)
        (at-place IsFilled _ r (tokens-filled aliases) here)
