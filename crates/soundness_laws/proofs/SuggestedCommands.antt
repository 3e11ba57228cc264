-- The text of a suggested proof is one command by itself.
use Rattle.std.proofs.Common.{◌≡◌, ℕ, ◌||◌, false, List, [], ◌∷◌, Some, ap, subst}
use Rattle.std.specs.List.{AllByRecursion}
use Rattle.std.proofs.lemmas.Bool.{or_parts}
use Rattle.nj_formula.specs.declared.formula.Formula.{Formula}
use Rattle.nj_syntax.specs.Readable.{IsReadable}
use Rattle.outer_syntax.specs.Words.{is_base_command, is_in_force}
use Rattle.theory_ctx.specs.declared.local.Local.{Local}
use Rattle.proof_terms.specs.declared.term.Term.{Term}
use Rattle.suggest_rules.specs.Names.{is_alias}
use Rattle.suggest_rules.specs.Search.{suggested}
use Rattle.suggest_rules.specs.TermText.{by_text}
use Rattle.soundness_laws.specs.Lexemes.{text_of}
use Rattle.soundness_laws.specs.Insertion.{IsCommandText}
use Rattle.soundness_laws.specs.Citable.{IsFree, IsCitable}
use Rattle.soundness_laws.proofs.CommandTexts.{by_lexemes, by_command}
use Rattle.soundness_laws.proofs.SuggestedWritten.{suggested_written}
use Rattle.soundness_laws.proofs.Written.{IsWritten, lexemes}
use Rattle.soundness_laws.proofs.WrittenTexts.{lexemes_text}
use Rattle.soundness_laws.proofs.WrittenLexemes.{lexemes_sit, lexemes_quiet, lexemes_solid}

module _ (aliases : List (List ℕ)) (n : ℕ) (t : Term) (w : IsWritten aliases n t) where
  pub by_lexemes_text : text_of (by_lexemes (lexemes aliases n t w)) ≡ by_text t
  by_lexemes_text = ap (λ s. 98 ∷ 121 ∷ 32 ∷ s) (lexemes_text aliases n t w)

  written_command : (names : List (List ℕ)) → ((x : List ℕ) → IsFree aliases x → is_in_force names x ≡ false) → IsCommandText names (by_text t)
  written_command names quiet =
      let sits = lexemes_sit aliases n t w in
      subst (IsCommandText names) by_lexemes_text
      (by_command names (lexemes aliases n t w) (sits.ink []) (sits.fit [] tt) (lexemes_quiet aliases (is_in_force names) quiet n t w) (lexemes_solid aliases n t w))

-- a name that is free is no command of the language's own
free_bare : (aliases : List (List ℕ)) (x : List ℕ) → IsFree aliases x → is_in_force [] x ≡ false
free_bare aliases x free = ap (λ b. b || false) (or_parts (is_base_command x) (is_alias aliases x) free.1).0

module _ (goal : Formula) (locals : List Local) (aliases : List (List ℕ)) (t : Term) (readable : IsReadable goal)
    (all : AllByRecursion (IsCitable aliases) locals) (e : suggested goal locals aliases ≡ Some t) where
  pub aliased_command : IsCommandText aliases (by_text t)
  aliased_command = written_command aliases 200 t (suggested_written goal locals aliases t readable all e) aliases (λ x free. free.1)

  pub bare_command : IsCommandText [] (by_text t)
  bare_command = written_command aliases 200 t (suggested_written goal locals aliases t readable all e) [] (free_bare aliases)
