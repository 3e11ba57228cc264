-- What a term comes to has plain names where the term has, or its fault has a plain text.
use Rattle.std.proofs.Common.{ℕ, zero, suc, ◌++◌, refl}
use Rattle.text_words.proofs.KnownLists.{each-part}
use Rattle.nj_formula.specs.declared.formula.Formula.{Formula, out-Formula}
use Rattle.proof_terms.specs.declared.term.Term.{Term, map-Term}
use Rattle.proof_terms.specs.declared.term.Term.TheOpen.{Term-F}
use Rattle.proof_checks.specs.Checks.{step_within}
use Rattle.proof_checks.specs.Rows.{step_of}
use Rattle.editor_laws.proofs.PlainTexts.{Plain, spelled}
use Rattle.editor_laws.proofs.TermNames.{Names, names_layer, names_of, AllPlain, TermPlain}
use Rattle.editor_laws.proofs.PlannedRules.{StepPlain, IfFound, conj_plain, left_plain, right_plain}
use Rattle.editor_laws.proofs.PlannedRules.{imp_plain, not_plain, all_plain, some_plain}
use Rattle.editor_laws.proofs.PlannedRules.{denied_plain, each_plain, of_some_plain}

abbrev pub LayerPlain : Term-F Term → Type 0
LayerPlain y = AllPlain (names_layer (map-Term Term Names names_of y))

parts : (t u : Term) → AllPlain (names_of t ++ names_of u) → TermPlain t × TermPlain u
parts t u p = each-part Plain (names_of t) (names_of u) p

step_plain : (y : Term-F Term) (goal : Formula) → LayerPlain y → IfFound StepPlain (step_of y goal)
unfolding step_of
step_plain (Term-F.Fact c) goal p = p.0
step_plain (Term-F.ConjI t u) goal p =
    let two = parts t u p in conj_plain t u (out-Formula goal) two.0 two.1
step_plain (Term-F.ConjE1 b t) goal p = (tt, p)
step_plain (Term-F.ConjE2 a t) goal p = (tt, p)
step_plain (Term-F.DisjI1 t) goal p = left_plain t (out-Formula goal) p
step_plain (Term-F.DisjI2 t) goal p = right_plain t (out-Formula goal) p
step_plain (Term-F.DisjE a b t x u y v) goal p =
    let first = each-part Plain (names_of t) (names_of u ++ names_of v) p in
    let more = parts u v first.1 in
    (first.0, more.0, more.1)
step_plain (Term-F.ImpI x t) goal p = imp_plain x t (out-Formula goal) p
step_plain (Term-F.ImpE a t u) goal p = let two = parts t u p in (tt, two.0, two.1)
step_plain (Term-F.NotI x t) goal p = not_plain x t (out-Formula goal) p
step_plain (Term-F.NotE a t u) goal p =
    let two = parts t u p in denied_plain a t u (out-Formula goal) two.0 two.1
step_plain (Term-F.FalseE t) goal p = (tt, p)
step_plain (Term-F.AllI x t) goal p = all_plain x t (out-Formula goal) p.0 p.1
step_plain (Term-F.AllE quoted s t) goal p = each_plain quoted s t goal (out-Formula quoted) p
step_plain (Term-F.ExI s t) goal p = some_plain s t (out-Formula goal) p
step_plain (Term-F.ExE quoted x h t u) goal p =
    let two = parts t u p.1 in
    of_some_plain quoted x h t u goal (out-Formula quoted) p.0 two.0 two.1

pub within_plain : (n : ℕ) (y : Term-F Term) (goal : Formula) → LayerPlain y
    → IfFound StepPlain (step_within n y goal)
unfolding step_within
within_plain zero (Term-F.Fact c) goal p = p.0
within_plain zero _ goal p = spelled refl
within_plain (suc n) y goal p = step_plain y goal p
