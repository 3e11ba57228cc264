-- The text of a suggested proof is read as a proof of its goal.
use Rattle.std.proofs.Common.{◌≡◌, ℕ, suc, ◌==◌, List, [], ◌∷◌, ◌++◌, codes, Some, IsOk, refl, sym, ap, ◌∙◌, subst, arith}
use Rattle.std.specs.List.{AllByRecursion, AllPass, onto_first}
use Rattle.std.proofs.lemmas.List.{append-nil}
use Rattle.std.proofs.lemmas.List.Splits.{slice_split-cons_no}
use Rattle.text_words.specs.Identifier.{is_identifier_part}
use Rattle.text_words.proofs.KnownIdentifiers.{identifier-parts}
use Rattle.text_words.proofs.KnownLists.{each-so}
use Rattle.outer_syntax.specs.Headings.{proper}
use Rattle.outer_syntax.specs.Lexing.{tokens_under}
use Rattle.outer_syntax.specs.Words.{is_in_force}
use Rattle.outer_syntax.specs.declared.kind.Kind.TheVariants as kind
use Rattle.outer_syntax.specs.declared.token.Token.{Token}
use Rattle.outer_syntax.proofs.KnownLeads.{apart}
use Rattle.outer_syntax.proofs.KnownProper.{proper-some, proper-none}
use Rattle.nj_formula.specs.declared.formula.Formula.{Formula}
use Rattle.nj_syntax.specs.Readable.{IsReadable}
use Rattle.theory_ctx.specs.declared.local.Local.{Local}
use Rattle.theory_ctx.specs.Locals.{Scoped}
use Rattle.theory_ctx.specs.Looked.{name_parts}
use Rattle.proof_terms.specs.declared.term.Term.{Term}
use Rattle.proof_terms.specs.Marks.{mark, marks}
use Rattle.proof_terms.specs.Reading.{whole, read_term, proof_of, deepest}
use Rattle.proof_checks.specs.Checks.{checked}
use Rattle.suggest_rules.specs.Search.{suggested}
use Rattle.suggest_rules.specs.TermText.{by_text}
use Rattle.nj_suggest.specs.Plain.{IsPlain}
use Rattle.soundness_laws.specs.Lexemes.{Lexeme, text_of, Fitting, EndsSpace, tokens_of}
use Rattle.soundness_laws.proofs.LexemeTokens.{lexemes_are}
use Rattle.soundness_laws.specs.Alike.{SayAlike}
use Rattle.soundness_laws.specs.Citable.{IsCitable}
use Rattle.soundness_laws.specs.ProofTexts.{by_token, IsProofText}
use Rattle.soundness_laws.proofs.AlikeTerms.{checked_alike}
use Rattle.soundness_laws.proofs.CommandTexts.{IsQuiet, by_lexemes, by_fitting}
use Rattle.soundness_laws.proofs.LexemeMarks.{marks_of, marks_are}
use Rattle.soundness_laws.proofs.ReadTerms.{term_read}
use Rattle.soundness_laws.proofs.SuggestedCommands.{by_lexemes_text}
use Rattle.soundness_laws.proofs.SuggestedWritten.{suggested_written}
use Rattle.soundness_laws.proofs.Written.{IsWritten, lexemes}
use Rattle.soundness_laws.proofs.WrittenLexemes.{lexemes_sit, lexemes_quiet}

-- an identifier has no dot
one_part : (x : List ℕ) → AllPass is_identifier_part x → name_parts x ≡ x ∷ []
one_part [] pass = refl
one_part (c ∷ x) pass =
    slice_split-cons_no (λ b. b == 46) c x (apart is_identifier_part 46 c refl (pass 0 0 (omega arith)))
    ∙ ap (onto_first c) (one_part x (λ k d low. pass (suc k) d (omega (arith, low))))

pub citable_plain : (aliases : List (List ℕ)) (locals : List Local) → AllByRecursion (IsCitable aliases) locals → AllByRecursion IsPlain locals
citable_plain aliases locals all =
    each-so (IsCitable aliases) IsPlain (λ local citable. one_part local.name (identifier-parts local.name citable.0.0)) locals all

say_same : (locals : List Local) → SayAlike locals locals
say_same [] = tt
say_same (local ∷ locals) = (refl, refl, say_same locals)

-- the tokens of `by` and lexemes, and the marks behind `by`
module _ (aliases : List (List ℕ)) (ls : List Lexeme) (ink : EndsSpace (text_of ls ++ [])) (fitting : Fitting ls []) (quiet : AllByRecursion (IsQuiet (is_in_force aliases)) ls) where
  abbrev later : List Token
  later = tokens_of (is_in_force aliases) 3 ls

  abbrev gap : Token
  gap = record { kind = kind.Space; range = record { start = 2; stop = 3 } }

  by_tokens : proper (tokens_under (λ _. is_in_force aliases) (text_of (by_lexemes ls))) ≡ by_token ∷ proper later
  by_tokens =
      ap proper (lexemes_are (is_in_force aliases) (by_lexemes ls) (by_fitting ls ink fitting))
      ∙ (proper-some by_token (gap ∷ later) refl ∙ ap (λ ts. by_token ∷ ts) (proper-none gap later refl))

  by_marks : marks (text_of (by_lexemes ls)) (proper later) ≡ marks_of mark 3 ls
  by_marks =
      ap (λ s. marks (98 ∷ 121 ∷ 32 ∷ s) (proper later)) (sym (append-nil (text_of ls)))
      ∙ marks_are mark (is_in_force aliases) ls (codes "by ") [] 3 refl quiet

module _ (goal : Formula) (scope : Scoped) (aliases : List (List ℕ)) (t : Term) (w : IsWritten aliases 200 t) (ok : IsOk (checked t goal scope)) where
  written_proof : IsProofText aliases goal scope (by_text t)
  unfolding deepest
  written_proof =
      let ls : List Lexeme = lexemes aliases 200 t w in
      let sits = lexemes_sit aliases 200 t w in
      let quiet = lexemes_quiet aliases (is_in_force aliases) (λ x free. free.1) 200 t w in
      let read = term_read aliases 200 t w 3 [] in
      subst (IsProofText aliases goal scope) (by_lexemes_text aliases 200 t w) (record {
        more = proper (tokens_of (is_in_force aliases) 3 ls);
        tokens = by_tokens aliases ls (sits.ink []) (sits.fit [] tt) quiet;
        term = read.term;
        read = ap proof_of (by_marks aliases ls (sits.ink []) (sits.fit [] tt) quiet) ∙ ap whole (ap (read_term 200) (sym (append-nil (marks_of mark 3 ls))) ∙ read.read);
        proves = subst IsOk (checked_alike t read.term goal goal scope scope.locals read.alike refl (say_same scope.locals)) ok;
      })

pub suggested_text : (goal : Formula) (scope : Scoped) (aliases : List (List ℕ)) (t : Term) → IsReadable goal → AllByRecursion (IsCitable aliases) scope.locals
    → suggested goal scope.locals aliases ≡ Some t → IsOk (checked t goal scope) → IsProofText aliases goal scope (by_text t)
suggested_text goal scope aliases t readable all e ok = written_proof goal scope aliases t (suggested_written goal scope.locals aliases t readable all e) ok
