-- What stands in a rule of a proof term, in order (this project's own; the rules are Gentzen's,
-- 1935).
use Rattle.std.specs.Prelude.{ℕ, List, [], ◌∷◌, Option, Some, None}
use Rattle.nj_formula.specs.declared.argument.Argument.{Argument}
use Rattle.nj_formula.specs.declared.formula.Formula.{Formula}
use Rattle.nj_kernel.specs.declared.rule.Rule.{Rule}
use Rattle.nj_kernel.specs.declared.rule.Rule.TheVariants as R
use Rattle.proof_terms.specs.declared.term.Term.{Term}
use Rattle.proof_terms.specs.declared.term.Term.TheVariants.{ConjI, ConjE1, ConjE2, DisjI1, DisjI2, DisjE}
use Rattle.proof_terms.specs.declared.term.Term.TheVariants.{ImpI, ImpE, NotI, NotE, FalseE}
use Rattle.proof_terms.specs.declared.term.Term.TheVariants.{AllI, AllE, ExI, ExE}

-- a place in a rule: of a quoted formula, of a quoted term of the object language, of a name, and
-- of a proof term
pub data Slot : Type 0 where
  formula : Slot
  object : Slot
  named : Slot
  proof : Slot

-- the places of each rule
abbrev pub slots : Rule → List Slot
slots R.ConjI = proof ∷ proof ∷ []
slots R.ConjE1 = formula ∷ proof ∷ []
slots R.ConjE2 = formula ∷ proof ∷ []
slots R.DisjI1 = proof ∷ []
slots R.DisjI2 = proof ∷ []
slots R.DisjE = formula ∷ formula ∷ proof ∷ named ∷ proof ∷ named ∷ proof ∷ []
slots R.ImpI = named ∷ proof ∷ []
slots R.ImpE = formula ∷ proof ∷ proof ∷ []
slots R.NotI = named ∷ proof ∷ []
slots R.NotE = formula ∷ proof ∷ proof ∷ []
slots R.FalseE = proof ∷ []
slots R.AllI = named ∷ proof ∷ []
slots R.AllE = formula ∷ object ∷ proof ∷ []
slots R.ExI = object ∷ proof ∷ []
slots R.ExE = formula ∷ named ∷ named ∷ proof ∷ proof ∷ []

-- what stands in a place
pub data Part : Type 0 where
  a_formula : Formula → Part
  an_object : Argument → Part
  a_name : List ℕ → Part
  a_proof : Term → Part

-- the term of a rule with these parts; none where they don't stand in its places
abbrev pub built_term : Rule → List Part → Option Term
built_term R.ConjI (a_proof t ∷ a_proof u ∷ []) = Some (ConjI t u)
built_term R.ConjE1 (a_formula b ∷ a_proof t ∷ []) = Some (ConjE1 b t)
built_term R.ConjE2 (a_formula a ∷ a_proof t ∷ []) = Some (ConjE2 a t)
built_term R.DisjI1 (a_proof t ∷ []) = Some (DisjI1 t)
built_term R.DisjI2 (a_proof t ∷ []) = Some (DisjI2 t)
built_term R.DisjE
    (a_formula a ∷ a_formula b ∷ a_proof t ∷ a_name x ∷ a_proof u ∷ a_name y ∷ a_proof v ∷ []) =
    Some (DisjE a b t x u y v)
built_term R.ImpI (a_name x ∷ a_proof t ∷ []) = Some (ImpI x t)
built_term R.ImpE (a_formula a ∷ a_proof t ∷ a_proof u ∷ []) = Some (ImpE a t u)
built_term R.NotI (a_name x ∷ a_proof t ∷ []) = Some (NotI x t)
built_term R.NotE (a_formula a ∷ a_proof t ∷ a_proof u ∷ []) = Some (NotE a t u)
built_term R.FalseE (a_proof t ∷ []) = Some (FalseE t)
built_term R.AllI (a_name x ∷ a_proof t ∷ []) = Some (AllI x t)
built_term R.AllE (a_formula q ∷ an_object s ∷ a_proof t ∷ []) = Some (AllE q s t)
built_term R.ExI (an_object s ∷ a_proof t ∷ []) = Some (ExI s t)
built_term R.ExE (a_formula q ∷ a_name x ∷ a_name h ∷ a_proof t ∷ a_proof u ∷ []) = Some
    (ExE q x h t u)
built_term _ _ = None
