-- Terms that can be written so that they are read again, and what they are written of.
use Rattle.std.proofs.Common.{◌≡◌, ◌⊎◌, inl, inr, ℕ, zero, suc, List, [], ◌∷◌, ◌++◌}
use Rattle.std.specs.Prelude.{⊤}
use Rattle.nj_kernel.specs.declared.rule.Rule.{Rule}
use Rattle.nj_kernel.specs.declared.rule.Rule.TheVariants as R
use Rattle.nj_kernel.specs.RuleNames.{rule_name}
use Rattle.nj_syntax.specs.Readable.{IsReadable}
use Rattle.nj_syntax.specs.Printed.{formula_text}
use Rattle.proof_terms.specs.declared.term.Cite.{Cite}
use Rattle.proof_terms.specs.declared.term.Term.{Term}
use Rattle.proof_terms.specs.declared.term.Term.TheVariants.{Fact}
use Rattle.proof_terms.specs.Slots.{Slot, formula, object, named, proof, slots}
use Rattle.soundness_laws.specs.Lexemes.{Lexeme, word, space, opening, closing, quoted}
use Rattle.soundness_laws.specs.Citable.{IsFree}
use Rattle.soundness_laws.proofs.RuleParts.{Parts, term_of}

-- no rule of a quantifier
abbrev pub IsPropositional : Rule → Type 0
IsPropositional R.AllI = ⊥
IsPropositional R.AllE = ⊥
IsPropositional R.ExI = ⊥
IsPropositional R.ExE = ⊥
IsPropositional _ = ⊤

-- a rule with the lexemes inside
abbrev pub rule_lexemes : Rule → List Lexeme → List Lexeme
rule_lexemes r inside = (opening ∷ word (rule_name r) ∷ inside) ++ closing ∷ []

module _ (aliases : List (List ℕ)) where
  -- a fact that is cited by a free name
  pub record IsFact (t : Term) : Type 0 where
    pub cite : Cite
    pub is : t ≡ Fact cite
    pub free : IsFree aliases cite.name

  -- formulas are readable, names free, terms so
  abbrev pub AreWritten : (Term → Type 0) → (places : List Slot) → Parts places → Type 0
  AreWritten S [] p = ⊤
  AreWritten S (formula ∷ places) p = IsReadable p.0 × AreWritten S places p.1
  AreWritten S (object ∷ places) p = ⊥
  AreWritten S (named ∷ places) p = IsFree aliases p.0 × AreWritten S places p.1
  AreWritten S (proof ∷ places) p = S p.0 × AreWritten S places p.1

  -- a rule of a free name, of such parts
  pub record IsRuled (S : Term → Type 0) (t : Term) : Type 0 where
    pub rule : Rule
    pub propositional : IsPropositional rule
    pub parts : Parts (slots rule)
    pub is : t ≡ term_of rule parts
    pub free : IsFree aliases (rule_name rule)
    pub inside : AreWritten S (slots rule) parts

  -- of at most so many nested rules
  abbrev pub IsWritten : ℕ → Term → Type 0
  IsWritten zero t = IsFact t
  IsWritten (suc n) t = IsFact t ⊎ IsRuled (IsWritten n) t

  pub of_fact : (n : ℕ) (t : Term) → IsFact t → IsWritten n t
  of_fact zero t fact = fact
  of_fact (suc n) t fact = inl fact

  -- the lexemes of parts, each behind a space
  abbrev pub parts_lexemes : (S : Term → Type 0) → ((t : Term) → S t → List Lexeme) → (places : List Slot) (p : Parts places) → AreWritten S places p → List Lexeme
  parts_lexemes S sub [] p w = []
  parts_lexemes S sub (formula ∷ places) p w = space ∷ quoted (formula_text p.0) ∷ parts_lexemes S sub places p.1 w.1
  parts_lexemes S sub (object ∷ places) p w = absurd w
  parts_lexemes S sub (named ∷ places) p w = space ∷ word p.0 ∷ parts_lexemes S sub places p.1 w.1
  parts_lexemes S sub (proof ∷ places) p w = space ∷ (sub p.0 w.0 ++ parts_lexemes S sub places p.1 w.1)

  abbrev pub lexemes : (n : ℕ) (t : Term) → IsWritten n t → List Lexeme
  lexemes zero t w = word w.cite.name ∷ []
  lexemes (suc n) t (inl w) = word w.cite.name ∷ []
  lexemes (suc n) t (inr w) = rule_lexemes w.rule (parts_lexemes (IsWritten n) (lexemes n) (slots w.rule) w.parts w.inside)
