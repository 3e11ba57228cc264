-- The lexemes of a term are its text.
use Rattle.std.proofs.Common.{◌≡◌, inl, inr, ℕ, zero, suc, List, [], ◌∷◌, ◌++◌, sym, refl, ap, ◌∙◌}
use Rattle.std.specs.List.{flat_map}
use Rattle.std.proofs.lemmas.List.{append-nil}
use Rattle.nj_kernel.specs.declared.rule.Rule.{Rule}
use Rattle.nj_kernel.specs.RuleNames.{rule_name}
use Rattle.proof_terms.specs.declared.term.Term.{Term}
use Rattle.proof_terms.specs.Slots.{Slot, formula, object, named, proof, slots}
use Rattle.proof_terms.proofs.KnownTerms.{fold-Fact}
use Rattle.nj_syntax.specs.Printed.{formula_text}
use Rattle.suggest_rules.specs.TermText as T
use Rattle.suggest_rules.specs.TermText.{ruled, term_layer, term_text}
use Rattle.soundness_laws.specs.Lexemes.{Lexeme, word, closing, text_of}
use Rattle.soundness_laws.proofs.LexemeTokens.{text_both}
use Rattle.soundness_laws.proofs.RuleParts.{Parts, texts, ruled_is}
use Rattle.soundness_laws.proofs.Written.{IsFact, AreWritten, IsWritten, parts_lexemes, rule_lexemes, lexemes}

rule_text : (r : Rule) (inside : List Lexeme) (parts : List (List ℕ)) → text_of inside ≡ flat_map (λ part. 32 ∷ part) parts → text_of (rule_lexemes r inside) ≡ ruled r parts
rule_text r inside parts is =
    ap (λ s. 40 ∷ (rule_name r ++ s)) (text_both inside (closing ∷ []) ∙ ap (λ s. s ++ 41 ∷ []) is)

module _ (aliases : List (List ℕ)) where
  module _ (S : Term → Type 0) (sub : (t : Term) → S t → List Lexeme) (whole : (t : Term) (w : S t) → text_of (sub t w) ≡ term_text t) where
    parts_text : (places : List Slot) (p : Parts places) (w : AreWritten aliases S places p)
        → text_of (parts_lexemes aliases S sub places p w) ≡ flat_map (λ part. 32 ∷ part) (texts places p)
    parts_text [] p w = refl
    parts_text (formula ∷ places) p w = ap (λ s. 32 ∷ (T.quoted (formula_text p.0) ++ s)) (parts_text places p.1 w.1)
    parts_text (object ∷ places) p w = absurd w
    parts_text (named ∷ places) p w = ap (λ s. 32 ∷ (p.0 ++ s)) (parts_text places p.1 w.1)
    parts_text (proof ∷ places) p w =
        ap (λ s. 32 ∷ s) (text_both (sub p.0 w.0) (parts_lexemes aliases S sub places p.1 w.1)
        ∙ (λ i. whole p.0 w.0 i ++ parts_text places p.1 w.1 i))

  fact_text : (t : Term) (w : IsFact aliases t) → text_of (word w.cite.name ∷ []) ≡ term_text t
  fact_text t w = append-nil w.cite.name ∙ sym (ap term_text w.is ∙ fold-Fact term_layer w.cite)

  pub lexemes_text : (n : ℕ) (t : Term) (w : IsWritten aliases n t) → text_of (lexemes aliases n t w) ≡ term_text t
  lexemes_text zero t w = fact_text t w
  lexemes_text (suc n) t (inl w) = fact_text t w
  lexemes_text (suc n) t (inr w) =
      rule_text w.rule (parts_lexemes aliases (IsWritten aliases n) (lexemes aliases n) (slots w.rule) w.parts w.inside) (texts (slots w.rule) w.parts) (parts_text (IsWritten aliases n) (lexemes aliases n) (lexemes_text n) (slots w.rule) w.parts w.inside)
      ∙ sym (ap term_text w.is ∙ ruled_is w.rule w.parts)
