-- The text of a proof term is plain where those of its parts are.
use Rattle.std.proofs.Common.{◌≡◌, ℕ, List, [], ◌∷◌, codes, refl, sym, subst}
use Rattle.std.specs.List.{AllByRecursion, flat_map}
use Rattle.nj_formula.specs.declared.formula.Formula.{Formula}
use Rattle.nj_kernel.specs.declared.rule.Rule.{Rule}
use Rattle.nj_kernel.specs.declared.rule.Rule.TheVariants as R
use Rattle.nj_syntax.specs.Readable.{IsReadable}
use Rattle.proof_terms.specs.declared.term.Cite.{Cite}
use Rattle.proof_terms.specs.declared.term.Term.{Term}
use Rattle.proof_terms.specs.declared.term.Term.TheVariants.{Fact, ConjI, ConjE1, ConjE2, DisjI1}
use Rattle.proof_terms.specs.declared.term.Term.TheVariants.{DisjI2, DisjE, ImpI, ImpE, NotI, NotE}
use Rattle.proof_terms.specs.declared.term.Term.TheVariants.{FalseE}
use Rattle.proof_terms.proofs.KnownTerms.{fold-Fact, fold-ConjI, fold-ConjE1, fold-ConjE2}
use Rattle.proof_terms.proofs.KnownTerms.{fold-DisjI1, fold-DisjI2, fold-DisjE, fold-ImpI}
use Rattle.proof_terms.proofs.KnownTerms.{fold-ImpE, fold-NotI, fold-NotE, fold-FalseE}
use Rattle.suggest_rules.specs.TermText.{ruled, formula, term_layer, term_text}
use Rattle.editor_laws.proofs.PlainTexts.{Plain, spelled, joined, after, with_first}
use Rattle.editor_laws.proofs.FormulaTexts.{formula_plain}
use Rattle.editor_laws.proofs.TermNames.{rule_plain}

abbrev pub TextPlain : Term → Type 0
TextPlain t = Plain (term_text t)

parts_plain : (parts : List (List ℕ)) → AllByRecursion Plain parts
    → Plain (flat_map (λ part. 32 ∷ part) parts)
parts_plain [] all = spelled refl
parts_plain (part ∷ parts) all = with_first refl (joined all.0 (parts_plain parts all.1))

-- a term whose text is a rule's
ruled_plain : (t : Term) (r : Rule) (parts : List (List ℕ)) → term_text t ≡ ruled r parts
    → AllByRecursion Plain parts → TextPlain t
ruled_plain t r parts is all =
    subst Plain (sym is)
    (after (codes "(") refl
    (joined (rule_plain r) (joined (parts_plain parts all) (spelled refl))))

quoted_plain : (a : Formula) → IsReadable a → Plain (formula a)
quoted_plain a readable = with_first refl (joined (formula_plain a readable) (spelled refl))

pub text_fact : (c : Cite) → Plain c.name → TextPlain (Fact c)
text_fact c p = subst Plain (sym (fold-Fact term_layer c)) p

pub text_conj : (t u : Term) → TextPlain t → TextPlain u → TextPlain (ConjI t u)
text_conj t u p q =
    ruled_plain _ R.ConjI (term_text t ∷ term_text u ∷ []) (fold-ConjI term_layer t u) (p, (q, tt))

pub text_first : (b : Formula) (t : Term) → IsReadable b → TextPlain t → TextPlain (ConjE1 b t)
text_first b t f p =
    ruled_plain _ R.ConjE1 (formula b ∷ term_text t ∷ []) (fold-ConjE1 term_layer b t)
    (quoted_plain b f, (p, tt))

pub text_second : (a : Formula) (t : Term) → IsReadable a → TextPlain t → TextPlain (ConjE2 a t)
text_second a t f p =
    ruled_plain _ R.ConjE2 (formula a ∷ term_text t ∷ []) (fold-ConjE2 term_layer a t)
    (quoted_plain a f, (p, tt))

pub text_left : (t : Term) → TextPlain t → TextPlain (DisjI1 t)
text_left t p = ruled_plain _ R.DisjI1 (term_text t ∷ []) (fold-DisjI1 term_layer t) (p, tt)

pub text_right : (t : Term) → TextPlain t → TextPlain (DisjI2 t)
text_right t p = ruled_plain _ R.DisjI2 (term_text t ∷ []) (fold-DisjI2 term_layer t) (p, tt)

pub text_cases : (a b : Formula) (t : Term) (x : List ℕ) (u : Term) (y : List ℕ) (v : Term)
    → IsReadable a → IsReadable b → TextPlain t
    → Plain x → TextPlain u → Plain y → TextPlain v → TextPlain (DisjE a b t x u y v)
text_cases a b t x u y v f g p n q m r =
    ruled_plain _ R.DisjE
    (formula a ∷ formula b ∷ term_text t ∷ x ∷ term_text u ∷ y ∷ term_text v ∷ [])
    (fold-DisjE term_layer a b t x u y v)
    (quoted_plain a f, (quoted_plain b g, (p, (n, (q, (m, (r, tt)))))))

pub text_imp : (x : List ℕ) (t : Term) → Plain x → TextPlain t → TextPlain (ImpI x t)
text_imp x t n p =
    ruled_plain _ R.ImpI (x ∷ term_text t ∷ []) (fold-ImpI term_layer x t) (n, (p, tt))

pub text_follow : (a : Formula) (t u : Term) → IsReadable a → TextPlain t → TextPlain u
    → TextPlain (ImpE a t u)
text_follow a t u f p q =
    ruled_plain _ R.ImpE (formula a ∷ term_text t ∷ term_text u ∷ []) (fold-ImpE term_layer a t u)
    (quoted_plain a f, (p, (q, tt)))

pub text_not : (x : List ℕ) (t : Term) → Plain x → TextPlain t → TextPlain (NotI x t)
text_not x t n p =
    ruled_plain _ R.NotI (x ∷ term_text t ∷ []) (fold-NotI term_layer x t) (n, (p, tt))

pub text_denied : (a : Formula) (t u : Term) → IsReadable a → TextPlain t → TextPlain u
    → TextPlain (NotE a t u)
text_denied a t u f p q =
    ruled_plain _ R.NotE (formula a ∷ term_text t ∷ term_text u ∷ []) (fold-NotE term_layer a t u)
    (quoted_plain a f, (p, (q, tt)))

pub text_false : (t : Term) → TextPlain t → TextPlain (FalseE t)
text_false t p = ruled_plain _ R.FalseE (term_text t ∷ []) (fold-FalseE term_layer t) (p, tt)
