-- The tokens of lexemes as marks, whatever marks are.
use Rattle.std.proofs.Common.{◌≡◌, ℕ, ◌+◌, ◌-◌, Bool, cond, List, [], ◌∷◌, ◌++◌, length, take, map, sym, refl, ap, ◌∙◌, subst, arith, length-append, append_assoc}
use Rattle.std.specs.List.{AllByRecursion}
use Rattle.std.proofs.lemmas.List.{drop_at, take_at}
use Rattle.pide_base.specs.declared.range.Range.{Range}
use Rattle.outer_syntax.specs.Headings.{proper}
use Rattle.outer_syntax.specs.Kinds.{is_proper}
use Rattle.outer_syntax.specs.Tokens as tokens
use Rattle.outer_syntax.specs.Words.{kind_of}
use Rattle.outer_syntax.specs.declared.kind.Kind.{Kind}
use Rattle.outer_syntax.specs.declared.kind.Kind.TheVariants as kind
use Rattle.outer_syntax.specs.declared.row.Row.TheVariants.{Word}
use Rattle.outer_syntax.specs.declared.token.Token.{Token}
use Rattle.outer_syntax.proofs.KnownProper.{proper-some, proper-none}
use Rattle.soundness_laws.specs.Lexemes.{Lexeme, word, space, opening, closing, quoted, scalars, text_of, row_of, tokens_of}
use Rattle.soundness_laws.proofs.CommandTexts.{IsQuiet}

-- the text of one lexeme and of others
scalars_first : (l : Lexeme) (ls : List Lexeme) (rest : List ℕ) → scalars l ++ (text_of ls ++ rest) ≡ text_of (l ∷ ls) ++ rest
scalars_first l ls rest = sym (append_assoc (scalars l) (text_of ls) rest)

module _ {M : Type 0} (mark : Kind → List ℕ → Range → M) where
  -- a lexeme of a kind at a place
  abbrev pub mark_at : Kind → ℕ → Lexeme → M
  mark_at k place l = mark k (scalars l) (record { start = place; stop = place + length (scalars l) })

  -- the marks of lexemes, the first of which stands at the place
  abbrev pub marks_of : ℕ → List Lexeme → List M
  marks_of place [] = []
  marks_of place (word x ∷ ls) = mark_at kind.Ident place (word x) ∷ marks_of (place + length x) ls
  marks_of place (space ∷ ls) = marks_of (place + 1) ls
  marks_of place (opening ∷ ls) = mark_at kind.Sym place opening ∷ marks_of (place + 1) ls
  marks_of place (closing ∷ ls) = mark_at kind.Sym place closing ∷ marks_of (place + 1) ls
  marks_of place (quoted u ∷ ls) = mark_at kind.String place (quoted u) ∷ marks_of (place + length (34 ∷ (u ++ 34 ∷ []))) ls

  -- those of two lists
  pub marks_both : (place : ℕ) (xs ys : List Lexeme) → marks_of place (xs ++ ys) ≡ marks_of place xs ++ marks_of (place + length (text_of xs)) ys
  marks_both place [] ys = ap (λ n. marks_of n ys) (omega arith)
  marks_both place (word x ∷ xs) ys =
      ap (λ ms. mark_at kind.Ident place (word x) ∷ ms)
      (marks_both (place + length x) xs ys ∙ ap (λ n. marks_of (place + length x) xs ++ marks_of n ys) (omega (arith, length-append x (text_of xs))))
  marks_both place (space ∷ xs) ys = marks_both (place + 1) xs ys ∙ ap (λ n. marks_of (place + 1) xs ++ marks_of n ys) (omega arith)
  marks_both place (opening ∷ xs) ys =
      ap (λ ms. mark_at kind.Sym place opening ∷ ms) (marks_both (place + 1) xs ys ∙ ap (λ n. marks_of (place + 1) xs ++ marks_of n ys) (omega arith))
  marks_both place (closing ∷ xs) ys =
      ap (λ ms. mark_at kind.Sym place closing ∷ ms) (marks_both (place + 1) xs ys ∙ ap (λ n. marks_of (place + 1) xs ++ marks_of n ys) (omega arith))
  marks_both place (quoted u ∷ xs) ys =
      let n : ℕ = length (34 ∷ (u ++ 34 ∷ [])) in
      ap (λ ms. mark_at kind.String place (quoted u) ∷ ms)
      (marks_both (place + n) xs ys ∙ ap (λ m. marks_of (place + n) xs ++ marks_of m ys) (omega (arith, length-append (34 ∷ (u ++ 34 ∷ [])) (text_of xs))))

  module _ (names : List ℕ → Bool) where
    -- the marks of tokens of a text
    abbrev pub marks_in : List ℕ → List Token → List M
    marks_in source ts = map (λ t. mark t.kind (tokens.text_of source t) t.range) ts

    name_kind : (x : List ℕ) → IsQuiet names (word x) → kind_of names Word x ≡ kind.Ident
    name_kind x quiet = λ i. cond (quiet.0 i) kind.Command (cond (quiet.1 i) kind.Keyword kind.Ident)

    abbrev token : ℕ → Lexeme → Token
    token place l = record { kind = kind_of names (row_of l) (scalars l); range = record { start = place; stop = place + length (scalars l) } }

    -- the scalars of a token in the text
    token_text : (l : Lexeme) (front rest : List ℕ) (place : ℕ) → length front ≡ place → tokens.text_of (front ++ (scalars l ++ rest)) (token place l) ≡ scalars l
    token_text l front rest place size =
        let n : ℕ = length (scalars l) in
        let wide : n ≡ place + n - place = omega arith in
        ap (take (place + n - place)) (drop_at front (scalars l ++ rest) place size) ∙ take_at (scalars l) rest (place + n - place) wide

    -- the mark of one, before those of the others
    one_mark : (l : Lexeme) (place : ℕ) (source : List ℕ) (ts : List Token) → IsQuiet names l → tokens.text_of source (token place l) ≡ scalars l
        → marks_in source (proper (token place l ∷ ts)) ≡ marks_of place (l ∷ []) ++ marks_in source (proper ts)
    one_mark (word x) place source ts quiet text =
        let k = name_kind x quiet in
        ap (marks_in source) (proper-some (token place (word x)) ts (ap is_proper k))
        ∙ (λ i. mark (k i) (text i) (record { start = place; stop = place + length x }) ∷ marks_in source (proper ts))
    one_mark space place source ts quiet text = ap (marks_in source) (proper-none (token place space) ts refl)
    one_mark opening place source ts quiet text =
        ap (marks_in source) (proper-some (token place opening) ts refl) ∙ (λ i. mark kind.Sym (text i) (record { start = place; stop = place + 1 }) ∷ marks_in source (proper ts))
    one_mark closing place source ts quiet text =
        ap (marks_in source) (proper-some (token place closing) ts refl) ∙ (λ i. mark kind.Sym (text i) (record { start = place; stop = place + 1 }) ∷ marks_in source (proper ts))
    one_mark (quoted u) place source ts quiet text =
        ap (marks_in source) (proper-some (token place (quoted u)) ts refl)
        ∙ (λ i. mark kind.String (text i) (record { start = place; stop = place + length (34 ∷ (u ++ 34 ∷ [])) }) ∷ marks_in source (proper ts))

    in_front : (l : Lexeme) (place : ℕ) (ls : List Lexeme) → marks_of place (l ∷ []) ++ marks_of (place + length (scalars l)) ls ≡ marks_of place (l ∷ ls)
    in_front (word x) place ls = refl
    in_front space place ls = refl
    in_front opening place ls = refl
    in_front closing place ls = refl
    in_front (quoted u) place ls = refl

    -- of all of them, behind and before another text
    pub marks_are : (ls : List Lexeme) (front rest : List ℕ) (place : ℕ) → length front ≡ place → AllByRecursion (IsQuiet names) ls
        → marks_in (front ++ (text_of ls ++ rest)) (proper (tokens_of names place ls)) ≡ marks_of place ls
    marks_are [] front rest place size quiet = refl
    marks_are (l ∷ ls) front rest place size quiet =
        let n : ℕ = length (scalars l) in
        let source : List ℕ = front ++ (text_of (l ∷ ls) ++ rest) in
        let here : front ++ (scalars l ++ (text_of ls ++ rest)) ≡ source = ap (λ s. front ++ s) (scalars_first l ls rest) in
        let later : (front ++ scalars l) ++ (text_of ls ++ rest) ≡ source = append_assoc front (scalars l) (text_of ls ++ rest) ∙ here in
        let text : tokens.text_of source (token place l) ≡ scalars l = subst (λ s. tokens.text_of s (token place l) ≡ scalars l) here (token_text l front (text_of ls ++ rest) place size) in
        let more = marks_are ls (front ++ scalars l) rest (place + n) (omega (arith, size, length-append front (scalars l))) quiet.1 in
        one_mark l place source (tokens_of names (place + n) ls) quiet.0 text
        ∙ (ap (λ ms. marks_of place (l ∷ []) ++ ms) (ap (λ s. marks_in s (proper (tokens_of names (place + n) ls))) (sym later) ∙ more)
        ∙ in_front l place ls)
