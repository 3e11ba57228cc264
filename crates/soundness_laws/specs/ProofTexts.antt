-- Texts of commands that prove a goal by a term (this project's own).
use Rattle.std.specs.Prelude.{◌≡◌, ℕ, List, ◌∷◌, Ok, IsOk}
use Rattle.nj_formula.specs.declared.formula.Formula.{Formula}
use Rattle.outer_syntax.specs.Headings.{proper}
use Rattle.outer_syntax.specs.Lexing.{tokens_under}
use Rattle.outer_syntax.specs.Words.{is_in_force}
use Rattle.outer_syntax.specs.declared.kind.Kind.TheVariants.{Command}
use Rattle.outer_syntax.specs.declared.token.Token.{Token}
use Rattle.theory_ctx.specs.Locals.{Scoped}
use Rattle.proof_terms.specs.declared.term.Term.{Term}
use Rattle.proof_terms.specs.Marks.{marks}
use Rattle.proof_terms.specs.Reading.{proof_of}
use Rattle.proof_checks.specs.Checks.{checked}

-- the word `by` as a token, at the beginning of a text
abbrev pub by_token : Token
by_token = record { kind = Command; range = record { start = 0; stop = 2 } }

-- where these are aliases of commands, the text is `by`, and behind it a term that proves the goal
-- in the scope
pub record IsProofText (aliases : List (List ℕ)) (goal : Formula) (scope : Scoped)
    (text : List ℕ) : Type 0 where
  pub more : List Token
  pub tokens : proper (tokens_under (λ _. is_in_force aliases) text) ≡ by_token ∷ more
  pub term : Term
  pub read : proof_of (marks text more) ≡ Ok term
  pub proves : IsOk (checked term goal scope)
