-- Lexemes that fit are the tokens of their text.
use Rattle.std.proofs.Common.{◌≡◌, ℕ, ◌+◌, ◌-◌, ◌<◌, Bool, List, [], ◌∷◌, ◌++◌, length, take, drop, sym, refl, ap, ◌∙◌, subst, arith, length-append, append_assoc}
use Rattle.std.proofs.lemmas.List.{append-nil, drop_at, take_at}
use Rattle.text_words.specs.Identifier.{IsIdentifier}
use Rattle.outer_syntax.specs.Rows.{IsFirstRow}
use Rattle.outer_syntax.specs.Words.{kind_of}
use Rattle.outer_syntax.specs.Tokens.{IsToken, AreTokensBetween, AreTokensUnder}
use Rattle.outer_syntax.specs.Lexing.{tokens_under}
use Rattle.outer_syntax.specs.declared.token.Token.{Token}
use Rattle.outer_syntax.proofs.KnownLexing.{all-tokens, same-tokens}
use Rattle.soundness_laws.specs.Lexemes.{Lexeme, word, space, opening, closing, quoted, scalars, text_of, row_of, Fits, Fitting, tokens_of}
use Rattle.soundness_laws.proofs.WordRows.{word_row}
use Rattle.soundness_laws.proofs.SignRows.{opening_row, closing_row, space_row}
use Rattle.soundness_laws.proofs.QuotedRows.{quoted_row}

pub row_fits : (l : Lexeme) (rest : List ℕ) → Fits l rest → IsFirstRow (scalars l ++ rest) (row_of l) (length (scalars l))
row_fits (word x) rest fits = word_row x rest fits.0 fits.1
row_fits space rest fits = space_row rest fits
row_fits opening rest fits = opening_row rest fits
row_fits closing rest fits = closing_row rest
row_fits (quoted u) rest fits = quoted_row u rest fits

some_scalar : (l : Lexeme) (rest : List ℕ) → Fits l rest → 0 < length (scalars l)
some_scalar (word x) rest fits = some x fits.0
  where
    some : (x : List ℕ) → IsIdentifier x → 0 < length x
    some [] id = absurd id
    some (c ∷ x) id = omega arith
some_scalar space rest fits = omega arith
some_scalar opening rest fits = omega arith
some_scalar closing rest fits = omega arith
some_scalar (quoted u) rest fits = omega arith

module _ (is_command : List ℕ → Bool) where
  -- one of them
  token : (l : Lexeme) (front rest : List ℕ) (place : ℕ) → length front ≡ place → Fits l rest
      → IsToken is_command (front ++ (scalars l ++ rest)) (record { kind = kind_of is_command (row_of l) (scalars l); range = record { start = place; stop = place + length (scalars l) } })
  token l front rest place size fits =
      let n : ℕ = length (scalars l) in
      let cut : drop place (front ++ (scalars l ++ rest)) ≡ scalars l ++ rest = drop_at front (scalars l ++ rest) place size in
      let wide : n ≡ place + n - place = omega arith in
      let row = subst (IsFirstRow (scalars l ++ rest) (row_of l)) wide (row_fits l rest fits) in
      let text : take (place + n - place) (drop place (front ++ (scalars l ++ rest))) ≡ scalars l =
      ap (take (place + n - place)) cut ∙ take_at (scalars l) rest (place + n - place) wide in (
        row_of l,
        omega (arith, some_scalar l rest fits),
        subst (λ s. IsFirstRow s (row_of l) (place + n - place)) (sym cut) row,
        ap (kind_of is_command (row_of l)) (sym text),
      )

  -- all of them, behind and before another text
  pub lexemes_between : (ls : List Lexeme) (front rest : List ℕ) (place : ℕ) → length front ≡ place → Fitting ls rest
      → AreTokensBetween (λ _. is_command) (front ++ (text_of ls ++ rest)) place (place + length (text_of ls)) (tokens_of is_command place ls)
  lexemes_between [] front rest place size fitting = omega arith
  lexemes_between (l ∷ ls) front rest place size fitting =
      let n : ℕ = length (scalars l) in
      let t : Token = record { kind = kind_of is_command (row_of l) (scalars l); range = record { start = place; stop = place + n } } in
      let whole : front ++ (scalars l ++ (text_of ls ++ rest)) ≡ front ++ ((scalars l ++ text_of ls) ++ rest) =
      ap (λ s. front ++ s) (sym (append_assoc (scalars l) (text_of ls) rest)) in
      let later : (front ++ scalars l) ++ (text_of ls ++ rest) ≡ front ++ ((scalars l ++ text_of ls) ++ rest) =
      append_assoc front (scalars l) (text_of ls ++ rest) ∙ whole in
      let end : place + n + length (text_of ls) ≡ place + length (scalars l ++ text_of ls) = omega (arith, length-append (scalars l) (text_of ls)) in (
        refl,
        subst (λ s. IsToken is_command s t) whole (token l front (text_of ls ++ rest) place size fitting.0),
        subst (λ s. AreTokensBetween (λ _. is_command) s (place + n) (place + length (scalars l ++ text_of ls)) (tokens_of is_command (place + n) ls)) later
            (subst (λ k. AreTokensBetween (λ _. is_command) ((front ++ scalars l) ++ (text_of ls ++ rest)) (place + n) k (tokens_of is_command (place + n) ls)) end
            (lexemes_between ls (front ++ scalars l) rest (place + n) (omega (arith, size, length-append front (scalars l))) fitting.1)),
      )

  pub lexemes_are : (ls : List Lexeme) → Fitting ls [] → tokens_under (λ _. is_command) (text_of ls) ≡ tokens_of is_command 0 ls
  lexemes_are ls fitting =
      let are : AreTokensUnder (λ _. is_command) (text_of ls) (tokens_of is_command 0 ls) =
      subst (λ s. AreTokensBetween (λ _. is_command) s 0 (length (text_of ls)) (tokens_of is_command 0 ls)) (append-nil (text_of ls))
      (subst (λ k. AreTokensBetween (λ _. is_command) (text_of ls ++ []) 0 k (tokens_of is_command 0 ls)) (omega arith) (lexemes_between ls [] [] 0 refl fitting)) in
      same-tokens (λ _. is_command) (text_of ls) _ _ (all-tokens (λ _. is_command) (text_of ls)) are

-- texts one behind the other
pub text_both : (xs ys : List Lexeme) → text_of (xs ++ ys) ≡ text_of xs ++ text_of ys
text_both [] ys = refl
text_both (x ∷ xs) ys = ap (λ s. scalars x ++ s) (text_both xs ys) ∙ sym (append_assoc (scalars x) (text_of xs) (text_of ys))

pub fitting_both : (xs ys : List Lexeme) (rest : List ℕ) → Fitting xs (text_of ys ++ rest) → Fitting ys rest → Fitting (xs ++ ys) rest
fitting_both [] ys rest one other = other
fitting_both (x ∷ xs) ys rest one other = (
  subst (Fits x) (sym (ap (λ s. s ++ rest) (text_both xs ys) ∙ append_assoc (text_of xs) (text_of ys) rest)) one.0,
  fitting_both xs ys rest one.1 other,
)
