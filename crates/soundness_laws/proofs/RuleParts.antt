-- What stands in the places of a rule, and the term and the text that come of it.
use Rattle.std.proofs.Common.{◌≡◌, ℕ, List, [], ◌∷◌, Some, refl}
use Rattle.std.specs.Prelude.{⊤}
use Rattle.nj_formula.specs.declared.argument.Argument.{Argument}
use Rattle.nj_formula.specs.declared.formula.Formula.{Formula}
use Rattle.nj_kernel.specs.declared.rule.Rule.{Rule}
use Rattle.nj_kernel.specs.declared.rule.Rule.TheVariants as R
use Rattle.nj_syntax.specs.ArgumentText.{argument_text}
use Rattle.nj_syntax.specs.Printed.{formula_text}
use Rattle.proof_terms.specs.declared.term.Term.{Term}
use Rattle.proof_terms.specs.declared.term.Term.TheVariants.{ConjI, ConjE1, ConjE2, DisjI1, DisjI2, DisjE, ImpI, ImpE, NotI, NotE, FalseE, AllI, AllE, ExI, ExE}
use Rattle.proof_terms.specs.Slots.{Slot, formula, object, named, proof, slots, Part, a_formula, an_object, a_name, a_proof, built_term}
use Rattle.proof_terms.proofs.KnownTerms.{fold-ConjI, fold-ConjE1, fold-ConjE2, fold-DisjI1, fold-DisjI2, fold-DisjE, fold-ImpI, fold-ImpE, fold-NotI, fold-NotE, fold-FalseE, fold-AllI, fold-AllE, fold-ExI, fold-ExE}
use Rattle.suggest_rules.specs.TermText.{ruled, quoted, term_layer, term_text}

-- one thing in each place
abbrev pub Parts : List Slot → Type 0
Parts [] = ⊤
Parts (formula ∷ places) = Formula × Parts places
Parts (object ∷ places) = Argument × Parts places
Parts (named ∷ places) = List ℕ × Parts places
Parts (proof ∷ places) = Term × Parts places

-- the same as a list
abbrev pub listed : (places : List Slot) → Parts places → List Part
listed [] p = []
listed (formula ∷ places) p = a_formula p.0 ∷ listed places p.1
listed (object ∷ places) p = an_object p.0 ∷ listed places p.1
listed (named ∷ places) p = a_name p.0 ∷ listed places p.1
listed (proof ∷ places) p = a_proof p.0 ∷ listed places p.1

-- their texts
abbrev pub texts : (places : List Slot) → Parts places → List (List ℕ)
texts [] p = []
texts (formula ∷ places) p = quoted (formula_text p.0) ∷ texts places p.1
texts (object ∷ places) p = quoted (argument_text [] p.0) ∷ texts places p.1
texts (named ∷ places) p = p.0 ∷ texts places p.1
texts (proof ∷ places) p = term_text p.0 ∷ texts places p.1

-- the term of a rule with these parts
abbrev pub term_of : (r : Rule) → Parts (slots r) → Term
term_of R.ConjI p = ConjI p.0 p.1.0
term_of R.ConjE1 p = ConjE1 p.0 p.1.0
term_of R.ConjE2 p = ConjE2 p.0 p.1.0
term_of R.DisjI1 p = DisjI1 p.0
term_of R.DisjI2 p = DisjI2 p.0
term_of R.DisjE p = DisjE p.0 p.1.0 p.1.1.0 p.1.1.1.0 p.1.1.1.1.0 p.1.1.1.1.1.0 p.1.1.1.1.1.1.0
term_of R.ImpI p = ImpI p.0 p.1.0
term_of R.ImpE p = ImpE p.0 p.1.0 p.1.1.0
term_of R.NotI p = NotI p.0 p.1.0
term_of R.NotE p = NotE p.0 p.1.0 p.1.1.0
term_of R.FalseE p = FalseE p.0
term_of R.AllI p = AllI p.0 p.1.0
term_of R.AllE p = AllE p.0 p.1.0 p.1.1.0
term_of R.ExI p = ExI p.0 p.1.0
term_of R.ExE p = ExE p.0 p.1.0 p.1.1.0 p.1.1.1.0 p.1.1.1.1.0

-- it is what reading builds of them
pub built_is : (r : Rule) (p : Parts (slots r))
    → built_term r (listed (slots r) p) ≡ Some (term_of r p)
built_is R.ConjI p = refl
built_is R.ConjE1 p = refl
built_is R.ConjE2 p = refl
built_is R.DisjI1 p = refl
built_is R.DisjI2 p = refl
built_is R.DisjE p = refl
built_is R.ImpI p = refl
built_is R.ImpE p = refl
built_is R.NotI p = refl
built_is R.NotE p = refl
built_is R.FalseE p = refl
built_is R.AllI p = refl
built_is R.AllE p = refl
built_is R.ExI p = refl
built_is R.ExE p = refl

-- its text is the rule's with their texts
pub ruled_is : (r : Rule) (p : Parts (slots r)) → term_text (term_of r p) ≡ ruled r (texts (slots r) p)
ruled_is R.ConjI p = fold-ConjI term_layer _ _
ruled_is R.ConjE1 p = fold-ConjE1 term_layer _ _
ruled_is R.ConjE2 p = fold-ConjE2 term_layer _ _
ruled_is R.DisjI1 p = fold-DisjI1 term_layer _
ruled_is R.DisjI2 p = fold-DisjI2 term_layer _
ruled_is R.DisjE p = fold-DisjE term_layer _ _ _ _ _ _ _
ruled_is R.ImpI p = fold-ImpI term_layer _ _
ruled_is R.ImpE p = fold-ImpE term_layer _ _ _
ruled_is R.NotI p = fold-NotI term_layer _ _
ruled_is R.NotE p = fold-NotE term_layer _ _ _
ruled_is R.FalseE p = fold-FalseE term_layer _
ruled_is R.AllI p = fold-AllI term_layer _ _
ruled_is R.AllE p = fold-AllE term_layer _ _ _
ruled_is R.ExI p = fold-ExI term_layer _ _
ruled_is R.ExE p = fold-ExE term_layer _ _ _ _ _
