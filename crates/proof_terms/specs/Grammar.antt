-- The grammar of proof terms (this project's own).
use Rattle.std.specs.Prelude.{◌≡◌, ℕ, suc, List, [], ◌∷◌, ◌++◌, Some, Ok}
use Rattle.nj_formula.specs.declared.argument.Argument.{Argument}
use Rattle.nj_formula.specs.declared.formula.Formula.{Formula}
use Rattle.nj_syntax.specs.Answer.{formula_of, term_of}
use Rattle.proof_terms.specs.declared.term.Cite.{Cite}
use Rattle.proof_terms.specs.declared.term.Term.{Term}
use Rattle.proof_terms.specs.declared.term.Term.TheVariants.{Fact}
use Rattle.proof_terms.specs.declared.mark.Mark.{Mark}
use Rattle.proof_terms.specs.declared.mark.Mark.TheVariants.{Opens, Closes, Name, Long, Quoted}
use Rattle.nj_kernel.specs.declared.rule.Rule.{Rule}
use Rattle.proof_terms.specs.RuleNames.{rule_of}
use Rattle.proof_terms.specs.Slots.{Slot, formula, object, named, proof, slots}
use Rattle.proof_terms.specs.Slots.{Part, a_formula, an_object, a_name, a_proof, built_term}

-- the fact that the mark names
pub data IsCite : Mark → Cite → Type 0 where
  by_name : {c : Cite} → IsCite (Name c) c
  by_long_name : {c : Cite} → IsCite (Long c) c

mutual
  -- the tokens are a term in which at most so many rules are nested
  pub data IsTerm : ℕ → List Mark → Term → Type 0 where
    fact : {n : ℕ} {m : Mark} {c : Cite} → IsCite m c → IsTerm n (m ∷ []) (Fact c)
    ruled : {n : ℕ} {c : Cite} {inside : List Mark} {parts : List Part} {t : Term}
        (r : Rule) → rule_of c.name ≡ Some r
        → AreParts n (slots r) inside parts → built_term r parts ≡ Some t
        → IsTerm (suc n) (Opens ∷ Name c ∷ inside ++ Closes ∷ []) t

  -- the tokens are what stands in these places, one after the other
  pub data AreParts : ℕ → List Slot → List Mark → List Part → Type 0 where
    none : {n : ℕ} → AreParts n [] [] []
    then_formula : {n : ℕ} {more : List Slot} {s : List ℕ} {a : Formula} {back : List Mark}
        {parts : List Part} → formula_of s ≡ Ok a → AreParts n more back parts
        → AreParts n (formula ∷ more) (Quoted s ∷ back) (a_formula a ∷ parts)
    then_object : {n : ℕ} {more : List Slot} {s : List ℕ} {a : Argument} {back : List Mark}
        {parts : List Part} → term_of s ≡ Ok a → AreParts n more back parts
        → AreParts n (object ∷ more) (Quoted s ∷ back) (an_object a ∷ parts)
    then_name : {n : ℕ} {more : List Slot} {c : Cite} {back : List Mark}
        {parts : List Part} → AreParts n more back parts
        → AreParts n (named ∷ more) (Name c ∷ back) (a_name c.name ∷ parts)
    then_proof : {n : ℕ} {more : List Slot} {front back : List Mark} {t : Term}
        {parts : List Part} → IsTerm n front t → AreParts n more back parts
        → AreParts n (proof ∷ more) (front ++ back) (a_proof t ∷ parts)
