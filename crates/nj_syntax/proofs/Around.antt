-- What stands before the next operand or argument, and how it is pending.
use Rattle.std.proofs.Common.{◌≡◌, ◌≤◌, ℕ, ◌+◌, Bool, true, false, List, [], ◌∷◌, ◌++◌, length}
use Rattle.nj_formula.specs.declared.argument.Argument.{Argument}
use Rattle.nj_formula.specs.declared.formula.Formula.{Formula}
use Rattle.nj_syntax.specs.declared.token.Token.TheVariants as Tokens
use Rattle.nj_syntax.specs.declared.operator.Operator.{Operator}
use Rattle.nj_syntax.specs.declared.operator.Quantifier.{Quantifier}
use Rattle.nj_syntax.specs.declared.state.Pending.{Pending}
use Rattle.nj_syntax.specs.declared.state.Mode.{Mode}
use Rattle.nj_syntax.specs.Terms.{Deep, AreArguments}
use Rattle.nj_syntax.specs.Grammar.{Reads, priority, sign, word, is_word}
use Rattle.nj_syntax.specs.Reduced.{place, bound_names}
use Rattle.nj_syntax.specs.Steps.{State}

-- the tokens stand before an operand
pub data Around : List Pending → List Deep → Type 0 where
  top : Around [] []
  negated : {pending : List Pending} {read : List Deep} → Around pending read
      → Around (Pending.Not ∷ pending) (read ++ (Tokens.Not, length pending) ∷ [])
  right : {pending : List Pending} {read left : List Deep} {a : Formula} (op : Operator) → Around pending read
      → place pending ≤ priority op → Reads (priority op + 1) (length pending) (bound_names pending) left a
      → Around (Pending.Right op a ∷ pending) (read ++ (left ++ (sign op, length pending) ∷ []))
  parenthesis : {pending : List Pending} {read : List Deep} → Around pending read
      → Around (Pending.Parenthesis ∷ pending) (read ++ (Tokens.Open, length pending) ∷ [])
  body : {pending : List Pending} {read : List Deep} (q : Quantifier) (x : List ℕ) → Around pending read → place pending ≤ 10
      → Around (Pending.Body q x ∷ pending)
      (read ++ (Tokens.Name (word q), length pending) ∷ (Tokens.Name x, length pending) ∷ (Tokens.Dot, length pending) ∷ [])

-- the tokens are these arguments, each with a comma after it
pub data Gathered (bound : List (List ℕ)) (d : ℕ) : List Deep → List Argument → Type 0 where
  none : Gathered bound d [] []
  some : {inside : List Deep} {arguments : List Argument} → AreArguments bound d inside arguments
      → Gathered bound d (inside ++ (Tokens.Comma, d) ∷ []) arguments

-- the tokens stand before an argument, within a formula where the first holds, and otherwise within a term
pub data Within : Bool → List Pending → List Deep → Type 0 where
  bare : Within false [] []
  predicate : {pending : List Pending} {read inside : List Deep} {arguments : List Argument} (x : List ℕ)
      → Around pending read → is_word x ≡ false → Gathered (bound_names pending) (length pending + 1) inside arguments
      → Within true (Pending.Predicate x arguments ∷ pending) (read ++ (Tokens.Name x, length pending) ∷ (Tokens.Open, length pending) ∷ inside)
  function : {formula : Bool} {pending : List Pending} {read inside : List Deep} {arguments : List Argument} (f : List ℕ)
      → Within formula pending read → Gathered (bound_names pending) (length pending + 1) inside arguments
      → Within formula (Pending.Function f arguments ∷ pending) (read ++ (Tokens.Name f, length pending) ∷ (Tokens.Open, length pending) ∷ inside)

-- what a state says of the tokens read
pub data Reached : Bool → State → List Deep → Type 0 where
  operand : {pending : List Pending} {read : List Deep} → Around pending read → Reached true (Mode.Operand, pending) read
  binder : {pending : List Pending} {read : List Deep} (q : Quantifier) → Around pending read → place pending ≤ 10
      → Reached true (Mode.Binder q, pending) (read ++ (Tokens.Name (word q), length pending) ∷ [])
  dot : {pending : List Pending} {read : List Deep} (q : Quantifier) (x : List ℕ) → Around pending read → place pending ≤ 10
      → Reached true (Mode.Dot q x, pending) (read ++ (Tokens.Name (word q), length pending) ∷ (Tokens.Name x, length pending) ∷ [])
  atom : {pending : List Pending} {read : List Deep} (x : List ℕ) → Around pending read → is_word x ≡ false
      → Reached true (Mode.Atom x, pending) (read ++ (Tokens.Name x, length pending) ∷ [])
  operator : {pending : List Pending} {read last : List Deep} {a : Formula} → Around pending read
      → Reads 40 (length pending) (bound_names pending) last a → Reached true (Mode.Operator a, pending) (read ++ last)
  argument : {formula : Bool} {pending : List Pending} {read : List Deep} → Within formula pending read
      → Reached formula (Mode.Argument, pending) read
  head : {formula : Bool} {pending : List Pending} {read : List Deep} (x : List ℕ) → Within formula pending read
      → Reached formula (Mode.Head x, pending) (read ++ (Tokens.Name x, length pending) ∷ [])
  comma : {formula : Bool} {pending : List Pending} {read last : List Deep} {t : Argument} → Within formula pending read
      → AreArguments (bound_names pending) (length pending) last (t ∷ [])
      → Reached formula (Mode.Comma t, pending) (read ++ last)
