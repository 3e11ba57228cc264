-- The text of a proof term (this project's own).
use Rattle.std.specs.Prelude.{ℕ, List, [], ◌∷◌, ◌++◌, codes}
use Rattle.std.specs.List.{flat_map}
use Rattle.nj_formula.specs.declared.formula.Formula.{Formula}
use Rattle.nj_kernel.specs.declared.rule.Rule.{Rule}
use Rattle.nj_kernel.specs.declared.rule.Rule.TheVariants as R
use Rattle.nj_kernel.specs.RuleNames.{rule_name}
use Rattle.nj_syntax.specs.ArgumentText.{argument_text}
use Rattle.proof_terms.specs.declared.term.Term.{Term, fold-Term}
use Rattle.proof_terms.specs.declared.term.Term.TheOpen.{Term-F}
use Rattle.nj_syntax.specs.Printed.{formula_text}

-- a rule with what stands in it, each after a space
abbrev pub ruled : Rule → List (List ℕ) → List ℕ
ruled rule parts =
    codes "(" ++ (rule_name rule ++ (flat_map (λ part. 32 ∷ part) parts ++ codes ")"))

-- a text in quotes
abbrev pub quoted : List ℕ → List ℕ
quoted text = 34 ∷ (text ++ 34 ∷ [])

-- a formula in quotes
abbrev pub formula : Formula → List ℕ
formula a = quoted (formula_text a)

-- one layer, with the texts of the parts
abbrev pub term_layer : Term-F (List ℕ) → List ℕ
term_layer (Term-F.Fact c) = c.name
term_layer (Term-F.ConjI t u) = ruled R.ConjI (t ∷ u ∷ [])
term_layer (Term-F.ConjE1 b t) = ruled R.ConjE1 (formula b ∷ t ∷ [])
term_layer (Term-F.ConjE2 a t) = ruled R.ConjE2 (formula a ∷ t ∷ [])
term_layer (Term-F.DisjI1 t) = ruled R.DisjI1 (t ∷ [])
term_layer (Term-F.DisjI2 t) = ruled R.DisjI2 (t ∷ [])
term_layer (Term-F.DisjE a b t x u y v) =
    ruled R.DisjE (formula a ∷ formula b ∷ t ∷ x ∷ u ∷ y ∷ v ∷ [])
term_layer (Term-F.ImpI x t) = ruled R.ImpI (x ∷ t ∷ [])
term_layer (Term-F.ImpE a t u) = ruled R.ImpE (formula a ∷ t ∷ u ∷ [])
term_layer (Term-F.NotI x t) = ruled R.NotI (x ∷ t ∷ [])
term_layer (Term-F.NotE a t u) = ruled R.NotE (formula a ∷ t ∷ u ∷ [])
term_layer (Term-F.FalseE t) = ruled R.FalseE (t ∷ [])
term_layer (Term-F.AllI x t) = ruled R.AllI (x ∷ t ∷ [])
term_layer (Term-F.AllE q s t) = ruled R.AllE (formula q ∷ quoted (argument_text [] s) ∷ t ∷ [])
term_layer (Term-F.ExI s t) = ruled R.ExI (quoted (argument_text [] s) ∷ t ∷ [])
term_layer (Term-F.ExE q x h t u) = ruled R.ExE (formula q ∷ x ∷ h ∷ t ∷ u ∷ [])

-- the text of a proof term
abbrev pub term_text : Term → List ℕ
term_text = fold-Term (List ℕ) term_layer

-- the command that proves a goal by the term
abbrev pub by_text : Term → List ℕ
by_text t = codes "by " ++ term_text t
