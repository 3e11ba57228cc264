-- The names that the check of a term may tell: those that it cites, and those to be fresh.
use Rattle.std.proofs.Common.{◌≡◌, ℕ, List, [], ◌∷◌, ◌++◌, Option, Some, None, refl, sym, subst}
use Rattle.std.specs.Prelude.{⊤}
use Rattle.std.specs.List.{AllByRecursion}
use Rattle.text_words.proofs.KnownLists.{each-both}
use Rattle.nj_kernel.specs.RuleNames.{rule_name}
use Rattle.nj_kernel.specs.declared.rule.Rule.{Rule}
use Rattle.nj_kernel.specs.declared.rule.Rule.TheVariants as R
use Rattle.proof_terms.specs.declared.term.Term.{Term, fold-Term, fold-roll-Term, roll-Term}
use Rattle.proof_terms.specs.declared.term.Term.{map-Term}
use Rattle.proof_terms.specs.declared.term.Term.TheOpen.{Term-F}
use Rattle.proof_terms.specs.declared.term.Term.TheVariants as T
use Rattle.proof_terms.specs.Slots.{Part, a_formula, an_object, a_name, a_proof, built_term}
use Rattle.editor_laws.proofs.PlainTexts.{Plain, spelled}

abbrev pub Names : Type 0
Names = List (List ℕ)

abbrev pub names_layer : Term-F Names → Names
names_layer (Term-F.Fact c) = c.name ∷ []
names_layer (Term-F.ConjI t u) = t ++ u
names_layer (Term-F.ConjE1 b t) = t
names_layer (Term-F.ConjE2 a t) = t
names_layer (Term-F.DisjI1 t) = t
names_layer (Term-F.DisjI2 t) = t
names_layer (Term-F.DisjE a b t x u y v) = t ++ (u ++ v)
names_layer (Term-F.ImpI x t) = t
names_layer (Term-F.ImpE a t u) = t ++ u
names_layer (Term-F.NotI x t) = t
names_layer (Term-F.NotE a t u) = t ++ u
names_layer (Term-F.FalseE t) = t
names_layer (Term-F.AllI x t) = x ∷ t
names_layer (Term-F.AllE q s t) = t
names_layer (Term-F.ExI s t) = t
names_layer (Term-F.ExE q x h t u) = x ∷ (t ++ u)

abbrev pub names_of : Term → Names
names_of = fold-Term Names names_layer

abbrev pub AllPlain : Names → Type 0
AllPlain = AllByRecursion Plain

abbrev pub TermPlain : Term → Type 0
TermPlain t = AllPlain (names_of t)

pub rolled : (y : Term-F Term) (t : Term) → roll-Term y ≡ t
    → AllPlain (names_layer (map-Term Term Names names_of y)) → TermPlain t
rolled y t e plain =
    subst TermPlain e (subst AllPlain (sym (fold-roll-Term Names names_layer y)) plain)

abbrev pub PartPlain : Part → Type 0
PartPlain (a_proof t) = TermPlain t
PartPlain (a_name x) = Plain x
PartPlain _ = ⊤

abbrev pub IfBuilt : Option Term → Type 0
IfBuilt None = ⊤
IfBuilt (Some t) = TermPlain t

both : (t u : Term) → TermPlain t → TermPlain u → AllPlain (names_of t ++ names_of u)
both t u p q = each-both Plain (names_of t) (names_of u) p q

pub built_plain : (r : Rule) (ps : List Part) → AllByRecursion PartPlain ps
    → IfBuilt (built_term r ps)
built_plain R.ConjI (a_proof t ∷ a_proof u ∷ []) p =
    rolled (Term-F.ConjI t u) (T.ConjI t u) (T.rolls-ConjI t u) (both t u p.0 p.1.0)
built_plain R.ConjE1 (a_formula b ∷ a_proof t ∷ []) p =
    rolled (Term-F.ConjE1 b t) (T.ConjE1 b t) (T.rolls-ConjE1 b t) p.1.0
built_plain R.ConjE2 (a_formula a ∷ a_proof t ∷ []) p =
    rolled (Term-F.ConjE2 a t) (T.ConjE2 a t) (T.rolls-ConjE2 a t) p.1.0
built_plain R.DisjI1 (a_proof t ∷ []) p =
    rolled (Term-F.DisjI1 t) (T.DisjI1 t) (T.rolls-DisjI1 t) p.0
built_plain R.DisjI2 (a_proof t ∷ []) p =
    rolled (Term-F.DisjI2 t) (T.DisjI2 t) (T.rolls-DisjI2 t) p.0
built_plain R.DisjE
    (a_formula a ∷ a_formula b ∷ a_proof t ∷ a_name x ∷ a_proof u ∷ a_name y ∷ a_proof v ∷ []) p =
    rolled (Term-F.DisjE a b t x u y v) (T.DisjE a b t x u y v) (T.rolls-DisjE a b t x u y v)
    (each-both Plain (names_of t) (names_of u ++ names_of v) p.1.1.0
    (both u v p.1.1.1.1.0 p.1.1.1.1.1.1.0))
built_plain R.ImpI (a_name x ∷ a_proof t ∷ []) p =
    rolled (Term-F.ImpI x t) (T.ImpI x t) (T.rolls-ImpI x t) p.1.0
built_plain R.ImpE (a_formula a ∷ a_proof t ∷ a_proof u ∷ []) p =
    rolled (Term-F.ImpE a t u) (T.ImpE a t u) (T.rolls-ImpE a t u) (both t u p.1.0 p.1.1.0)
built_plain R.NotI (a_name x ∷ a_proof t ∷ []) p =
    rolled (Term-F.NotI x t) (T.NotI x t) (T.rolls-NotI x t) p.1.0
built_plain R.NotE (a_formula a ∷ a_proof t ∷ a_proof u ∷ []) p =
    rolled (Term-F.NotE a t u) (T.NotE a t u) (T.rolls-NotE a t u) (both t u p.1.0 p.1.1.0)
built_plain R.FalseE (a_proof t ∷ []) p =
    rolled (Term-F.FalseE t) (T.FalseE t) (T.rolls-FalseE t) p.0
built_plain R.AllI (a_name x ∷ a_proof t ∷ []) p =
    rolled (Term-F.AllI x t) (T.AllI x t) (T.rolls-AllI x t) (p.0, p.1.0)
built_plain R.AllE (a_formula q ∷ an_object s ∷ a_proof t ∷ []) p =
    rolled (Term-F.AllE q s t) (T.AllE q s t) (T.rolls-AllE q s t) p.1.1.0
built_plain R.ExI (an_object s ∷ a_proof t ∷ []) p =
    rolled (Term-F.ExI s t) (T.ExI s t) (T.rolls-ExI s t) p.1.0
built_plain R.ExE (a_formula q ∷ a_name x ∷ a_name h ∷ a_proof t ∷ a_proof u ∷ []) p =
    rolled (Term-F.ExE q x h t u) (T.ExE q x h t u) (T.rolls-ExE q x h t u)
    (p.1.0, both t u p.1.1.1.0 p.1.1.1.1.0)
built_plain _ _ p = tt

pub rule_plain : (r : Rule) → Plain (rule_name r)
rule_plain R.ConjI = spelled refl
rule_plain R.ConjE1 = spelled refl
rule_plain R.ConjE2 = spelled refl
rule_plain R.DisjI1 = spelled refl
rule_plain R.DisjI2 = spelled refl
rule_plain R.DisjE = spelled refl
rule_plain R.ImpI = spelled refl
rule_plain R.ImpE = spelled refl
rule_plain R.NotI = spelled refl
rule_plain R.NotE = spelled refl
rule_plain R.FalseE = spelled refl
rule_plain R.AllI = spelled refl
rule_plain R.AllE = spelled refl
rule_plain R.ExI = spelled refl
rule_plain R.ExE = spelled refl
