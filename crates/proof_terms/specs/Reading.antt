-- The answer to each text as a function: a term and the tokens behind it, or the first fault.
use Rattle.std.specs.Prelude.{◌≡◌, ⊤, ℕ, zero, suc, List, [], ◌∷◌, Option, Some, None, Result, Ok, Err}
use Rattle.nj_formula.specs.declared.argument.Argument.{Argument}
use Rattle.nj_formula.specs.declared.formula.Formula.{Formula}
use Rattle.nj_kernel.specs.declared.rule.Rule.{Rule}
use Rattle.nj_syntax.specs.Answer.{formula_of, term_of}
use Rattle.nj_syntax.specs.declared.fault.FormulaFault.{FormulaFault}
use Rattle.proof_terms.specs.declared.fault.TermFault.{TermFault}
use Rattle.proof_terms.specs.declared.fault.TermFault.TheVariants.{Malformed, ProofTooDeep}
use Rattle.proof_terms.specs.declared.fault.TermError.{TermError}
use Rattle.proof_terms.specs.declared.fault.TermError.TheVariants.{Fault, NoMemory}
use Rattle.proof_terms.specs.declared.reader.Start.{Start}
use Rattle.proof_terms.specs.declared.reader.Start.TheVariants as S
use Rattle.proof_terms.specs.declared.term.Term.{Term}
use Rattle.proof_terms.specs.declared.term.Term.TheVariants.{Fact}
use Rattle.proof_terms.specs.declared.mark.Mark.{Mark}
use Rattle.proof_terms.specs.declared.mark.Mark.TheVariants.{Opens, Closes, Name, Long, Quoted}
use Rattle.proof_terms.specs.RuleNames.{rule_of}
use Rattle.proof_terms.specs.Slots.{Slot, formula, object, named, proof, slots}
use Rattle.proof_terms.specs.Slots.{Part, a_formula, an_object, a_name, a_proof, built_term}
use Rattle.proof_terms.specs.Faults.{quoted_fault}

-- what is read, and the tokens behind it
abbrev pub Read : Type 0 → Type 0
Read A = Result (A × List Mark) TermFault

-- then the next, unless there was a fault
abbrev pub and_then : {A B : Type 0} → Read A → (A → List Mark → Read B) → Read B
and_then (Err fault) next = Err fault
and_then (Ok r) next = next r.0 r.1

-- a call gives this, unless memory runs out
abbrev pub Gives : {A : Type 0} → Result A TermError → List Mark → Read A → Type 0
Gives (Ok a) rest read = read ≡ Ok (a, rest)
Gives (Err (Fault fault)) rest read = read ≡ Err fault
Gives (Err NoMemory) rest read = ⊤

-- the rule, where there is one of the name
abbrev pub of_name : Option Rule → List Mark → Read Rule
of_name None more = Err Malformed
of_name (Some r) more = Ok (r, more)

-- the name of a rule
abbrev pub read_rule_name : List Mark → Read Rule
read_rule_name (Name c ∷ more) = of_name (rule_of c.name) more
read_rule_name _ = Err Malformed

-- a cited name, or `(` and the name of a rule
abbrev pub read_start : List Mark → Read Start
read_start (Name c ∷ more) = Ok (S.Fact c, more)
read_start (Long c ∷ more) = Ok (S.Fact c, more)
read_start (Opens ∷ more) = and_then (read_rule_name more) (λ r last. Ok (S.Rule r, last))
read_start _ = Err Malformed

-- a name of the term's own
abbrev pub read_name : List Mark → Read (List ℕ)
read_name (Name c ∷ more) = Ok (c.name, more)
read_name _ = Err Malformed

-- the `)` behind a rule
abbrev pub read_close : List Mark → Read (Unit {0})
read_close (Closes ∷ more) = Ok (tt, more)
read_close _ = Err Malformed

-- a call gives what is quoted or its fault, unless memory runs out
abbrev pub Quotes : {A : Type 0} → Result A FormulaFault → Result A TermError → Type 0
Quotes told (Ok a) = told ≡ Ok a
Quotes (Err fault) (Err (Fault other)) = other ≡ quoted_fault fault
Quotes (Ok a) (Err (Fault other)) = ⊥
Quotes told (Err NoMemory) = ⊤

-- a formula's fault as an error
abbrev pub quoted_error : FormulaFault → TermError
quoted_error FormulaFault.NoMemory = NoMemory
quoted_error fault = Fault (quoted_fault fault)

-- what is quoted, or its fault
abbrev pub unquoted : {A : Type 0} → Result A FormulaFault → List Mark → Read A
unquoted (Ok a) more = Ok (a, more)
unquoted (Err fault) more = Err (quoted_fault fault)

-- a quoted formula
abbrev pub read_formula : List Mark → Read Formula
read_formula (Quoted s ∷ more) = unquoted (formula_of s) more
read_formula _ = Err Malformed

-- a quoted term of the object language
abbrev pub read_object : List Mark → Read Argument
read_object (Quoted s ∷ more) = unquoted (term_of s) more
read_object _ = Err Malformed

-- where `sub` reads a term
module _ (sub : List Mark → Read Term) where
  -- what stands in a place
  abbrev pub read_part : Slot → List Mark → Read Part
  read_part formula ms = and_then (read_formula ms) (λ a more. Ok (a_formula a, more))
  read_part object ms = and_then (read_object ms) (λ a more. Ok (an_object a, more))
  read_part named ms = and_then (read_name ms) (λ x more. Ok (a_name x, more))
  read_part proof ms = and_then (sub ms) (λ t more. Ok (a_proof t, more))

  -- what stands in these places
  abbrev pub read_parts : List Slot → List Mark → Read (List Part)
  read_parts [] ms = Ok ([], ms)
  read_parts (s ∷ more) ms = and_then (read_part s ms)
      (λ p behind. and_then (read_parts more behind) (λ ps last. Ok (p ∷ ps, last)))

-- the term that the parts make
abbrev pub made : Option Term → List Mark → Read Term
made (Some t) more = Ok (t, more)
made None more = Err Malformed

-- a rule behind its name, without the `)`
abbrev pub read_inside : (List Mark → Read Term) → Rule → List Mark → Read Term
read_inside sub r ms = and_then (read_parts sub (slots r) ms)
    (λ ps more. made (built_term r ps) more)

-- a rule behind its name
abbrev pub read_rule : (List Mark → Read Term) → Rule → List Mark → Read Term
read_rule sub r ms = and_then (read_inside sub r ms)
    (λ t more. and_then (read_close more) (λ _ last. Ok (t, last)))

-- a term behind what it begins with
abbrev pub read_on : (Rule → List Mark → Read Term) → Start → List Mark → Read Term
read_on rest (S.Fact c) more = Ok (Fact c, more)
read_on rest (S.Rule r) more = rest r more

-- a term in which at most so many rules are nested
abbrev pub read_term : ℕ → List Mark → Read Term
read_term zero ms = and_then (read_start ms) (read_on (λ r more. Err ProofTooDeep))
read_term (suc n) ms = and_then (read_start ms) (read_on (read_rule (read_term n)))

-- how many rules may be nested
unfoldable pub deepest : ℕ
deepest = 200

-- a term with no token behind it
abbrev pub alone : Term → List Mark → Result Term TermFault
alone t [] = Ok t
alone t (m ∷ more) = Err Malformed

-- the term where nothing is left behind it, or the fault
abbrev pub whole : Read Term → Result Term TermFault
whole (Ok r) = alone r.0 r.1
whole (Err fault) = Err fault

-- the term that the tokens are, or their first fault
abbrev pub proof_of : List Mark → Result Term TermFault
proof_of ms = whole (read_term deepest ms)
