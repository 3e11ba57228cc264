-- The fault at a token has a plain text.
use Rattle.std.proofs.Common.{ℕ, zero, suc, ◌==◌, List, [], ◌∷◌, codes, Option, Some, None, Result}
use Rattle.std.proofs.Common.{Ok, Err, refl}
use Rattle.std.specs.Prelude.{⊤}
use Rattle.pide_base.specs.declared.range.Range.{Range}
use Rattle.outer_syntax.specs.Contents.{content_of}
use Rattle.outer_syntax.specs.declared.kind.Kind.{Kind}
use Rattle.outer_syntax.specs.declared.kind.Kind.TheVariants as kind
use Rattle.nj_kernel.specs.declared.rule.Rule.{Rule}
use Rattle.nj_syntax.specs.Answer.{formula_of, term_of}
use Rattle.nj_syntax.specs.declared.fault.FormulaFault.{FormulaFault}
use Rattle.proof_terms.specs.declared.fault.TermFault.{TermFault}
use Rattle.proof_terms.specs.Faults.{Awaited, in_slot, rule, closing, quoted_fault, Judged}
use Rattle.proof_terms.specs.Faults.{judge_quoted, judge_rule, judge}
use Rattle.proof_terms.specs.Marks.{is_ascii, sign, mark}
use Rattle.proof_terms.specs.RuleNames.{rule_of}
use Rattle.proof_terms.specs.Slots.{formula, object, named, proof}
use Rattle.proof_terms.specs.Texts.{fault_text}
use Rattle.editor_laws.proofs.PlainTexts.{Plain, spelled, after, decimal_plain}
use Rattle.editor_laws.proofs.ReadNames.{either}

abbrev pub FaultPlain : TermFault → Type 0
FaultPlain fault = Plain (fault_text fault)

abbrev pub IfJudged : Judged → Type 0
IfJudged (Ok awaited) = ⊤
IfJudged (Err fault) = FaultPlain fault

quoted_plain : (fault : FormulaFault) → FaultPlain (quoted_fault fault)
quoted_plain (FormulaFault.At at kind) = after (codes "bad formula at ") refl (decimal_plain at)
quoted_plain FormulaFault.TooDeep = spelled refl
quoted_plain FormulaFault.NoMemory = spelled refl

module _ (more : List Awaited) where
  quoted_judged : {A : Type 0} (told : Result A FormulaFault) → IfJudged (judge_quoted told more)
  quoted_judged (Ok a) = tt
  quoted_judged (Err fault) = quoted_plain fault

  rule_judged : (n : ℕ) (r : Option Rule) → IfJudged (judge_rule n r more)
  rule_judged n None = spelled refl
  rule_judged zero (Some r) = spelled refl
  rule_judged (suc n) (Some r) = tt

  -- what is no mark of a term
  other_judged : (a : Awaited) → IfJudged (judge a (sign []) more)
  other_judged (in_slot n proof) = spelled refl
  other_judged _ = spelled refl

  opening_judged : (a : Awaited) → IfJudged (judge a (sign (40 ∷ [])) more)
  opening_judged (in_slot n proof) = tt
  opening_judged _ = spelled refl

  closing_judged : (a : Awaited) → IfJudged (judge a (sign (41 ∷ [])) more)
  closing_judged closing = tt
  closing_judged (in_slot n proof) = spelled refl
  closing_judged _ = spelled refl

  sign_judged : (a : Awaited) (s : List ℕ) → IfJudged (judge a (sign s) more)
  sign_judged a [] = other_judged a
  sign_judged a (c ∷ []) =
      either (λ m. IfJudged (judge a m more)) (c == 40) (opening_judged a)
      (either (λ m. IfJudged (judge a m more)) (c == 41) (closing_judged a) (other_judged a))
  sign_judged a (c ∷ d ∷ s) = other_judged a

  name_judged : (a : Awaited) (s : List ℕ) (r : Range)
      → IfJudged (judge a (mark kind.Ident s r) more)
  name_judged (in_slot n formula) s r =
      either (λ m. IfJudged (judge (in_slot n formula) m more)) (is_ascii s) (spelled refl)
      (spelled refl)
  name_judged (in_slot n object) s r =
      either (λ m. IfJudged (judge (in_slot n object) m more)) (is_ascii s) (spelled refl)
      (spelled refl)
  name_judged (in_slot n named) s r =
      either (λ m. IfJudged (judge (in_slot n named) m more)) (is_ascii s) tt (spelled refl)
  name_judged (in_slot n proof) s r =
      either (λ m. IfJudged (judge (in_slot n proof) m more)) (is_ascii s) tt (spelled refl)
  name_judged (rule n) s r =
      either (λ m. IfJudged (judge (rule n) m more)) (is_ascii s) (rule_judged n (rule_of s))
      (spelled refl)
  name_judged closing s r =
      either (λ m. IfJudged (judge closing m more)) (is_ascii s) (spelled refl) (spelled refl)

  long_judged : (a : Awaited) (s : List ℕ) (r : Range)
      → IfJudged (judge a (mark kind.LongIdent s r) more)
  long_judged (in_slot n formula) s r =
      either (λ m. IfJudged (judge (in_slot n formula) m more)) (is_ascii s) (spelled refl)
      (spelled refl)
  long_judged (in_slot n object) s r =
      either (λ m. IfJudged (judge (in_slot n object) m more)) (is_ascii s) (spelled refl)
      (spelled refl)
  long_judged (in_slot n named) s r =
      either (λ m. IfJudged (judge (in_slot n named) m more)) (is_ascii s) (spelled refl)
      (spelled refl)
  long_judged (in_slot n proof) s r =
      either (λ m. IfJudged (judge (in_slot n proof) m more)) (is_ascii s) tt (spelled refl)
  long_judged (rule n) s r =
      either (λ m. IfJudged (judge (rule n) m more)) (is_ascii s) (spelled refl) (spelled refl)
  long_judged closing s r =
      either (λ m. IfJudged (judge closing m more)) (is_ascii s) (spelled refl) (spelled refl)

  content_judged : (a : Awaited) (s : List ℕ) (r : Range)
      → IfJudged (judge a (mark kind.Cartouche s r) more)
  content_judged (in_slot n formula) s r = quoted_judged (formula_of (content_of kind.Cartouche s))
  content_judged (in_slot n object) s r = quoted_judged (term_of (content_of kind.Cartouche s))
  content_judged _ s r = spelled refl

  string_judged : (a : Awaited) (s : List ℕ) (r : Range)
      → IfJudged (judge a (mark kind.String s r) more)
  string_judged (in_slot n formula) s r = quoted_judged (formula_of (content_of kind.String s))
  string_judged (in_slot n object) s r = quoted_judged (term_of (content_of kind.String s))
  string_judged _ s r = spelled refl

  pub mark_judged : (a : Awaited) (k : Kind) (s : List ℕ) (r : Range)
      → IfJudged (judge a (mark k s r) more)
  mark_judged a kind.Ident s r = name_judged a s r
  mark_judged a kind.LongIdent s r = long_judged a s r
  mark_judged a kind.String s r = string_judged a s r
  mark_judged a kind.Cartouche s r = content_judged a s r
  mark_judged a kind.Sym s r = sign_judged a s
  mark_judged a _ s r = other_judged a
