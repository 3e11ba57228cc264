-- The proper tokens from a place on, token by token.
use Rattle.std.proofs.Common.{◌≡◌, ℕ, ◌≤◌, Bool, true, false, List, [], ◌∷◌, length, drop, ap, ◌∙◌, arith, length-drop}
use Rattle.outer_syntax.specs.Kinds.{is_proper}
use Rattle.outer_syntax.specs.Headings.{proper}
use Rattle.outer_syntax.specs.Lexing.{tokens_from}
use Rattle.outer_syntax.specs.ProperTokens.{proper_from}
use Rattle.outer_syntax.specs.Tokens.{IsTokenAt}
use Rattle.outer_syntax.specs.declared.token.Token.{Token}
use Rattle.outer_syntax.proofs.KnownLexing.{rest-tokens}
use Rattle.outer_syntax.proofs.KnownProper.{proper-some, proper-none}
use Rattle.outer_syntax.proofs.TokenLaws.{one-between}

pub token-inside : (is_command : List ℕ → Bool) (text : List ℕ) (place : ℕ) (t : Token) → place ≤ length text → IsTokenAt is_command text place t → t.range.stop ≤ length text
token-inside is_command text place t within at =
    omega (arith, at.0, at.1.1, at.1.2.longest.within, length-drop t.range.start text, within)

-- the tokens from a place on are the one there and those from its end on
tokens-next : (is_command : List ℕ → Bool) (text : List ℕ) (place : ℕ) (t : Token) → place ≤ length text → IsTokenAt is_command text place t → tokens_from (λ _. is_command) 0 place (drop place text) ≡ t ∷ tokens_from (λ _. is_command) 0 t.range.stop (drop t.range.stop text)
tokens-next is_command text place t within at =
    one-between (λ _. is_command) text place (length text) _ _ (rest-tokens (λ _. is_command) text place within)
    (at.0, at.1, rest-tokens (λ _. is_command) text t.range.stop (token-inside is_command text place t within at))

pub proper-found : (is_command : List ℕ → Bool) (text : List ℕ) (place : ℕ) (t : Token) → place ≤ length text → IsTokenAt is_command text place t → is_proper t.kind ≡ true → proper_from is_command text place ≡ t ∷ proper_from is_command text t.range.stop
proper-found is_command text place t within at e = ap proper (tokens-next is_command text place t within at) ∙ proper-some t (tokens_from (λ _. is_command) 0 t.range.stop (drop t.range.stop text)) e

pub proper-passed : (is_command : List ℕ → Bool) (text : List ℕ) (place : ℕ) (t : Token) → place ≤ length text → IsTokenAt is_command text place t → is_proper t.kind ≡ false → proper_from is_command text place ≡ proper_from is_command text t.range.stop
proper-passed is_command text place t within at e = ap proper (tokens-next is_command text place t within at) ∙ proper-none t (tokens_from (λ _. is_command) 0 t.range.stop (drop t.range.stop text)) e

pub proper-ended : (is_command : List ℕ → Bool) (text : List ℕ) (place : ℕ) → place ≡ length text → proper_from is_command text place ≡ []
proper-ended is_command text place e = ap proper (one-between (λ _. is_command) text place (length text) _ [] (rest-tokens (λ _. is_command) text place (omega (arith, e))) e)
