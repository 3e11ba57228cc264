-- Terms that are alike have the same answer.
use Rattle.std.proofs.Common.{◌≡◌, ℕ, zero, suc, List, ◌++◌, None, Ok, refl, ap, sym, ◌∙◌}
use Rattle.nj_formula.specs.declared.formula.Formula.{Formula}
use Rattle.nj_formula.specs.declared.formula.Formula.TheVariants as F
use Rattle.nj_formula.specs.Meaning.{meaning}
use Rattle.theory_ctx.specs.declared.local.Local.{Local}
use Rattle.theory_ctx.specs.Locals.{Scoped, looked_in}
use Rattle.proof_terms.specs.declared.term.Cite.{Cite}
use Rattle.proof_terms.specs.declared.term.Term.{Term}
use Rattle.proof_terms.specs.declared.term.Term.TheVariants.{Fact, DisjE}
use Rattle.proof_terms.specs.Reading.{deepest}
use Rattle.proof_checks.specs.Checks.{and_then, discharged, cited, checked, checked_within}
use Rattle.soundness_laws.specs.Alike.{IsAlike, fact, conj_i, conj_e1, conj_e2, disj_i1, disj_i2, disj_e, imp_i, imp_e, not_i, not_e, false_e, SayAlike}
use Rattle.soundness_laws.proofs.AlikeFacts.{cited_alike}
use Rattle.soundness_laws.proofs.AlikeRules.{Answers, same_and, same_or, same_implies, part_alike, plain, assumed}
use Rattle.soundness_laws.proofs.AlikeIntros.{conj_i_alike, disj_i1_alike, disj_i2_alike, imp_i_alike, not_i_alike, not_e_alike}
use Rattle.soundness_laws.proofs.FormulaLayers.{alike_layers}
use Rattle.soundness_laws.proofs.TermSteps.{one, two, fact_at, deep_ConjI, deep_ConjE1, deep_ConjE2, deep_DisjI1, deep_DisjI2, deep_DisjE, deep_ImpI, deep_ImpE, deep_NotI, deep_NotE, deep_FalseE}
use Rattle.soundness_laws.proofs.TermSteps.{at_ConjI, at_ConjE1, at_ConjE2, at_DisjI1, at_DisjI2, at_DisjE, at_ImpI, at_ImpE, at_NotI, at_NotE, at_FalseE}

module _ (goal other : Formula) (scope : Scoped) (locals : List Local) (same : meaning goal ≡ meaning other) (alike : SayAlike scope.locals locals) where
  abbrev inner : Scoped
  inner = record scope { locals = locals }

  facts : (n : ℕ) (c d : Cite) → c.name ≡ d.name → checked_within n (Fact c) goal scope ≡ checked_within n (Fact d) other inner
  facts n c d e =
      fact_at goal scope n c ∙ (cited_alike c.name goal other same scope locals alike
      ∙ (ap (λ x. cited x other (looked_in inner x)) e ∙ sym (fact_at other inner n d)))

  -- where no rule may be nested
  shallow : (t u : Term) → IsAlike t u → checked_within zero t goal scope ≡ checked_within zero u other inner
  shallow t u (fact {c = c} {d = d} e) = facts zero c d e
  shallow t u (conj_i h k) = deep_ConjI goal scope _ _ ∙ sym (deep_ConjI other inner _ _)
  shallow t u (conj_e1 e h) = deep_ConjE1 goal scope _ _ ∙ sym (deep_ConjE1 other inner _ _)
  shallow t u (conj_e2 e h) = deep_ConjE2 goal scope _ _ ∙ sym (deep_ConjE2 other inner _ _)
  shallow t u (disj_i1 h) = deep_DisjI1 goal scope _ ∙ sym (deep_DisjI1 other inner _)
  shallow t u (disj_i2 h) = deep_DisjI2 goal scope _ ∙ sym (deep_DisjI2 other inner _)
  shallow t u (disj_e e f h x k y l) = deep_DisjE goal scope _ _ _ _ _ _ _ ∙ sym (deep_DisjE other inner _ _ _ _ _ _ _)
  shallow t u (imp_i x h) = deep_ImpI goal scope _ _ ∙ sym (deep_ImpI other inner _ _)
  shallow t u (imp_e e h k) = deep_ImpE goal scope _ _ _ ∙ sym (deep_ImpE other inner _ _ _)
  shallow t u (not_i x h) = deep_NotI goal scope _ _ ∙ sym (deep_NotI other inner _ _)
  shallow t u (not_e e h k) = deep_NotE goal scope _ _ _ ∙ sym (deep_NotE other inner _ _ _)
  shallow t u (false_e h) = deep_FalseE goal scope _ ∙ sym (deep_FalseE other inner _)

  module _ (n : ℕ) (parts : Answers n) where
    abbrev of_plain : (t u : Term) (a c : Formula) → IsAlike t u → meaning a ≡ meaning c → checked_within n t a scope ≡ checked_within n u c inner
    of_plain = plain n parts goal other scope locals alike

    by_disj_e : (a b : Formula) (t : Term) (x : List ℕ) (u : Term) (y : List ℕ) (v : Term) (a' b' : Formula) (t' : Term) (x' : List ℕ) (u' : Term) (y' : List ℕ) (v' : Term)
        → meaning a ≡ meaning a' → meaning b ≡ meaning b' → IsAlike t t' → x ≡ x' → IsAlike u u' → y ≡ y' → IsAlike v v'
        → checked_within (suc n) (DisjE a b t x u y v) goal scope ≡ checked_within (suc n) (DisjE a' b' t' x' u' y' v') other inner
    by_disj_e a b t x u y v a' b' t' x' u' y' v' e f h names k more l =
        at_DisjE goal scope n a b t x u y v
        ∙ ((λ i. and_then (discharged None (of_plain t t' (F.Or a b) (F.Or a' b') h (same_or a b a' b' e f) i))
        (λ s. and_then (part_alike x x' a a' _ _ e (assumed n parts goal other scope locals alike x x' a a' u u' goal other names e k same) i)
        (λ r. and_then (part_alike y y' b b' _ _ f (assumed n parts goal other scope locals alike y y' b b' v v' goal other more f l same) i) (λ q. Ok (s ++ r ++ q)))))
        ∙ sym (at_DisjE other inner n a' b' t' x' u' y' v'))

    deep : (t u : Term) → IsAlike t u → checked_within (suc n) t goal scope ≡ checked_within (suc n) u other inner
    deep t u (fact {c = c} {d = d} e) = facts (suc n) c d e
    deep t u (conj_i {t = a} {t' = a'} {u = b} {u' = b'} h k) =
        at_ConjI goal scope n a b ∙ (conj_i_alike n parts goal other scope locals alike a b a' b' h k _ _ (alike_layers goal other same) ∙ sym (at_ConjI other inner n a' b'))
    deep t u (conj_e1 {b = b} {b' = b'} {t = a} {t' = a'} e h) =
        at_ConjE1 goal scope n b a ∙ ((λ i. one None (of_plain a a' (F.And goal b) (F.And other b') h (same_and goal b other b' same e) i)) ∙ sym (at_ConjE1 other inner n b' a'))
    deep t u (conj_e2 {a = b} {a' = b'} {t = a} {t' = a'} e h) =
        at_ConjE2 goal scope n b a ∙ ((λ i. one None (of_plain a a' (F.And b goal) (F.And b' other) h (same_and b goal b' other e same) i)) ∙ sym (at_ConjE2 other inner n b' a'))
    deep t u (disj_i1 {t = a} {t' = a'} h) =
        at_DisjI1 goal scope n a ∙ (disj_i1_alike n parts goal other scope locals alike a a' h _ _ (alike_layers goal other same) ∙ sym (at_DisjI1 other inner n a'))
    deep t u (disj_i2 {t = a} {t' = a'} h) =
        at_DisjI2 goal scope n a ∙ (disj_i2_alike n parts goal other scope locals alike a a' h _ _ (alike_layers goal other same) ∙ sym (at_DisjI2 other inner n a'))
    deep t u (disj_e e f h x k y l) = by_disj_e _ _ _ _ _ _ _ _ _ _ _ _ _ _ e f h x k y l
    deep t u (imp_i {x = x} {x' = y} {t = a} {t' = a'} e h) =
        at_ImpI goal scope n x a ∙ (imp_i_alike n parts goal other scope locals alike x y a a' e h _ _ (alike_layers goal other same) ∙ sym (at_ImpI other inner n y a'))
    deep t u (imp_e {a = b} {a' = b'} {t = a} {t' = a'} {u = c} {u' = c'} e h k) =
        at_ImpE goal scope n b a c
        ∙ ((λ i. two None None (of_plain a a' (F.Implies b goal) (F.Implies b' other) h (same_implies b goal b' other e same) i) (of_plain c c' b b' k e i))
        ∙ sym (at_ImpE other inner n b' a' c'))
    deep t u (not_i {x = x} {x' = y} {t = a} {t' = a'} e h) =
        at_NotI goal scope n x a ∙ (not_i_alike n parts goal other scope locals alike x y a a' e h _ _ (alike_layers goal other same) ∙ sym (at_NotI other inner n y a'))
    deep t u (not_e {a = b} {a' = b'} {t = a} {t' = a'} {u = c} {u' = c'} e h k) =
        at_NotE goal scope n b a c ∙ (not_e_alike n parts goal other scope locals alike b b' a c a' c' e h k _ _ (alike_layers goal other same) ∙ sym (at_NotE other inner n b' a' c'))
    deep t u (false_e {t = a} {t' = a'} h) =
        at_FalseE goal scope n a ∙ ((λ i. one None (of_plain a a' F.False F.False h refl i)) ∙ sym (at_FalseE other inner n a'))

pub alike : (n : ℕ) → Answers n
alike zero t u goal other scope locals like same all = shallow goal other scope locals same all t u like
alike (suc n) t u goal other scope locals like same all = deep goal other scope locals same all n (alike n) t u like

pub checked_alike : (t u : Term) (goal other : Formula) (scope : Scoped) (locals : List Local) → IsAlike t u → meaning goal ≡ meaning other → SayAlike scope.locals locals
    → checked t goal scope ≡ checked u other (record scope { locals = locals })
checked_alike t u goal other scope locals like same all = alike deepest t u goal other scope locals like same all
