-- What a step of the reading has taken, by the marks at the front.
use Rattle.std.proofs.Common.{◌≡◌, ℕ, List, ◌∷◌, ◌++◌, Option, Some, None, Result, Ok, Err, ap, subst, ◌∙◌, []}
use Rattle.nj_formula.specs.declared.argument.Argument.{Argument}
use Rattle.nj_formula.specs.declared.formula.Formula.{Formula}
use Rattle.nj_kernel.specs.declared.rule.Rule.{Rule}
use Rattle.nj_syntax.specs.Answer.{formula_of, term_of}
use Rattle.nj_syntax.specs.declared.fault.FormulaFault.{FormulaFault}
use Rattle.proof_terms.specs.declared.mark.Mark.{Mark}
use Rattle.proof_terms.specs.declared.mark.Mark.TheVariants.{Opens, Closes, Name, Long, Quoted}
use Rattle.proof_terms.specs.declared.reader.Start.{Start}
use Rattle.proof_terms.specs.declared.reader.Start.TheVariants as S
use Rattle.proof_terms.specs.declared.term.Cite.{Cite}
use Rattle.proof_terms.specs.declared.term.Term.TheVariants.{Fact}
use Rattle.proof_terms.specs.RuleNames.{rule_of}
use Rattle.proof_terms.specs.Grammar.{IsCite, by_name, by_long_name, IsTerm, fact}
use Rattle.proof_terms.specs.Reading.{of_name, read_rule_name, read_start, read_name, read_close, unquoted, read_formula, read_object, Read, read_on}
use Rattle.proof_terms.proofs.StepLemmas.{parted, same_first, same_rest}
use Rattle.proof_terms.specs.declared.term.Term.{Term}

-- a front of the tokens is so, and the others are left
pub record Front (Is : List Mark → Type 0) (ms last : List Mark) : Type 0 where
  pub front : List Mark
  pub cut : ms ≡ front ++ last
  pub is : Is front

unquoted_is : {A : Type 0} (r : Result A FormulaFault) (more : List Mark) (a : A) (rest : List Mark)
    → unquoted r more ≡ Ok (a, rest) → (r ≡ Ok a) × (more ≡ rest)
unquoted_is (Err f) more a rest e = cc
unquoted_is (Ok b) more a rest e = (ap Ok (same_first e), same_rest e)

pub formula_front : (ms : List Mark) (a : Formula) (rest : List Mark) → read_formula ms ≡ Ok (a, rest)
    → (s : List ℕ) × (ms ≡ Quoted s ∷ rest) × (formula_of s ≡ Ok a)
formula_front (Quoted s ∷ more) a rest e = let u = unquoted_is (formula_of s) more a rest e in (s, ap (λ x. Quoted s ∷ x) u.1, u.0)
formula_front _ a rest e = cc

pub object_front : (ms : List Mark) (a : Argument) (rest : List Mark) → read_object ms ≡ Ok (a, rest)
    → (s : List ℕ) × (ms ≡ Quoted s ∷ rest) × (term_of s ≡ Ok a)
object_front (Quoted s ∷ more) a rest e = let u = unquoted_is (term_of s) more a rest e in (s, ap (λ x. Quoted s ∷ x) u.1, u.0)
object_front _ a rest e = cc

pub name_front : (ms : List Mark) (x : List ℕ) (rest : List Mark) → read_name ms ≡ Ok (x, rest)
    → (c : Cite) × (ms ≡ Name c ∷ rest) × (c.name ≡ x)
name_front (Name c ∷ more) x rest e = (c, ap (λ z. Name c ∷ z) (same_rest e), same_first e)
name_front _ x rest e = cc

pub close_front : (ms rest : List Mark) (u : Unit {0}) → read_close ms ≡ Ok (u, rest) → ms ≡ Closes ∷ rest
close_front (Closes ∷ more) rest u e = ap (λ z. Closes ∷ z) (same_rest e)
close_front _ rest u e = cc

named_is : (o : Option Rule) (more : List Mark) (r : Rule) (rest : List Mark) → of_name o more ≡ Ok (r, rest) → (o ≡ Some r) × (more ≡ rest)
named_is None more r rest e = cc
named_is (Some q) more r rest e = (ap Some (same_first e), same_rest e)

rule_front : (ms : List Mark) (r : Rule) (rest : List Mark) → read_rule_name ms ≡ Ok (r, rest)
    → (c : Cite) × (ms ≡ Name c ∷ rest) × (rule_of c.name ≡ Some r)
rule_front (Name c ∷ more) r rest e = let u = named_is (rule_of c.name) more r rest e in (c, ap (λ z. Name c ∷ z) u.1, u.0)
rule_front _ r rest e = cc

-- what a term begins with
pub StartsSo : Start → List Mark → List Mark → Type 0
StartsSo (S.Fact c) ms rest = (m : Mark) × (ms ≡ m ∷ rest) × IsCite m c
StartsSo (S.Rule r) ms rest = (c : Cite) × (ms ≡ Opens ∷ Name c ∷ rest) × (rule_of c.name ≡ Some r)

pub start_front : (ms : List Mark) (s : Start) (rest : List Mark) → read_start ms ≡ Ok (s, rest) → StartsSo s ms rest
unfolding StartsSo
start_front (Name c ∷ more) s rest e = subst (λ z. StartsSo z (Name c ∷ more) rest) (same_first e) (Name c, ap (λ z. Name c ∷ z) (same_rest e), by_name)
start_front (Long c ∷ more) s rest e = subst (λ z. StartsSo z (Long c ∷ more) rest) (same_first e) (Long c, ap (λ z. Long c ∷ z) (same_rest e), by_long_name)
start_front (Opens ∷ more) s rest e =
    let p = parted (read_rule_name more) (λ r last. Ok (S.Rule r, last)) (s, rest) e in
    let f = rule_front more p.first p.rest p.was in
    subst (λ z. StartsSo z (Opens ∷ more) rest) (same_first p.so)
    (f.0, ap (λ z. Opens ∷ z) (f.1 ∙ ap (λ z. Name f.0 ∷ z) (same_rest p.so)), f.2)
start_front _ s rest e = cc

-- a term behind what it begins with
pub begun : (n : ℕ) (next : Rule → List Mark → Read Term) (s : Start) (ms more : List Mark) (t : Term) (rest : List Mark) → StartsSo s ms more → read_on next s more ≡ Ok (t, rest)
    → ((r : Rule) (c : Cite) → ms ≡ Opens ∷ Name c ∷ more → rule_of c.name ≡ Some r → next r more ≡ Ok (t, rest) → Front (λ front. IsTerm n front t) ms rest)
    → Front (λ front. IsTerm n front t) ms rest
unfolding StartsSo
begun n next (S.Fact c) ms more t rest so e ruled_so = record {
  front = so.0 ∷ [];
  cut = so.1 ∙ ap (λ z. so.0 ∷ z) (same_rest e);
  is = subst (λ z. IsTerm n (so.0 ∷ []) z) (same_first e) (fact so.2);
}
begun n next (S.Rule r) ms more t rest so e ruled_so = ruled_so r so.0 so.1 so.2 e
