-- What a term cites that is read from marks stands where the marks do.
use Rattle.std.proofs.Common.{ℕ, zero, suc, List, [], ◌∷◌, Option, Some, None, Result, Ok, Err}
use Rattle.std.specs.Prelude.{⊤}
use Rattle.std.specs.List.{AllByRecursion}
use Rattle.pide_base.specs.declared.range.Range.{Range}
use Rattle.nj_kernel.specs.declared.rule.Rule.{Rule}
use Rattle.nj_syntax.specs.Answer.{formula_of, term_of}
use Rattle.nj_syntax.specs.declared.fault.FormulaFault.{FormulaFault}
use Rattle.proof_terms.specs.declared.fault.TermFault.{TermFault}
use Rattle.proof_terms.specs.declared.fault.TermFault.TheVariants.{ProofTooDeep}
use Rattle.proof_terms.specs.declared.mark.Mark.{Mark}
use Rattle.proof_terms.specs.declared.mark.Mark.TheVariants.{Opens, Closes, Name, Long, Quoted}
use Rattle.proof_terms.specs.declared.reader.Start.{Start}
use Rattle.proof_terms.specs.declared.reader.Start.TheVariants as S
use Rattle.proof_terms.specs.declared.term.Term.{Term}
use Rattle.proof_terms.specs.declared.term.Term.TheOpen.{Term-F}
use Rattle.proof_terms.specs.declared.term.Term.TheVariants as T
use Rattle.proof_terms.specs.RuleNames.{rule_of}
use Rattle.proof_terms.specs.Slots.{Slot, Part, formula, object, named, proof, slots, built_term}
use Rattle.proof_terms.specs.Reading.{Read, and_then, of_name, read_rule_name, read_start, read_name, read_close, unquoted, read_formula, read_object, read_part, read_parts, made, read_inside, read_rule, read_on, read_term, deepest, alone, whole, proof_of}
use Rattle.proof_terms.proofs.BuiltLemmas.{TermGood, PartGood, IfBuilt, rolled, built-good}

module _ (P : Range → Type 0) where
  abbrev Stands : Term → Type 0
  Stands = TermGood P

  abbrev PartStands : Part → Type 0
  PartStands = PartGood P

  abbrev pub IsMark : Mark → Type 0
  IsMark (Name c) = P c.range
  IsMark (Long c) = P c.range
  IsMark _ = ⊤

  abbrev pub AreMarks : List Mark → Type 0
  AreMarks = AllByRecursion IsMark

  -- what is read has this, and the marks behind it stand there too
  abbrev IfRead : {A : Type 0} → (A → Type 0) → Read A → Type 0
  IfRead Q (Ok r) = Q r.0 × AreMarks r.1
  IfRead Q (Err fault) = ⊤

  next_read : {A B : Type 0} (Q : A → Type 0) (Z : B → Type 0) (m : Read A) (go_on : A → List Mark → Read B) → IfRead Q m
      → ((a : A) (more : List Mark) → Q a → AreMarks more → IfRead Z (go_on a more)) → IfRead Z (and_then m go_on)
  next_read Q Z (Ok r) go_on is each = each r.0 r.1 is.0 is.1
  next_read Q Z (Err fault) go_on is each = tt

  abbrev StartGood : Start → Type 0
  StartGood (S.Fact c) = P c.range
  StartGood (S.Rule r) = ⊤

  of-name : (r : Option Rule) (more : List Mark) → AreMarks more → IfRead (λ _. ⊤) (of_name r more)
  of-name None more all = tt
  of-name (Some r) more all = (tt, all)

  rule-name : (ms : List Mark) → AreMarks ms → IfRead (λ _. ⊤) (read_rule_name ms)
  rule-name (Name c ∷ more) all = of-name (rule_of c.name) more all.1
  rule-name _ all = tt

  start-read : (ms : List Mark) → AreMarks ms → IfRead StartGood (read_start ms)
  start-read (Name c ∷ more) all = (all.0, all.1)
  start-read (Long c ∷ more) all = (all.0, all.1)
  start-read (Opens ∷ more) all = next_read (λ _. ⊤) StartGood (read_rule_name more) _ (rule-name more all.1) (λ r last _ lasts. (tt, lasts))
  start-read _ all = tt

  name-read : (ms : List Mark) → AreMarks ms → IfRead (λ _. ⊤) (read_name ms)
  name-read (Name c ∷ more) all = (tt, all.1)
  name-read _ all = tt

  close-read : (ms : List Mark) → AreMarks ms → IfRead (λ _. ⊤) (read_close ms)
  close-read (Closes ∷ more) all = (tt, all.1)
  close-read _ all = tt

  unquoted-read : {A : Type 0} (told : Result A FormulaFault) (more : List Mark) → AreMarks more → IfRead (λ _. ⊤) (unquoted told more)
  unquoted-read (Ok a) more all = (tt, all)
  unquoted-read (Err fault) more all = tt

  formula-read : (ms : List Mark) → AreMarks ms → IfRead (λ _. ⊤) (read_formula ms)
  formula-read (Quoted s ∷ more) all = unquoted-read (formula_of s) more all.1
  formula-read _ all = tt

  object-read : (ms : List Mark) → AreMarks ms → IfRead (λ _. ⊤) (read_object ms)
  object-read (Quoted s ∷ more) all = unquoted-read (term_of s) more all.1
  object-read _ all = tt

  made-good : (t : Option Term) (more : List Mark) → IfBuilt P t → AreMarks more → IfRead Stands (made t more)
  made-good None more good all = tt
  made-good (Some t) more good all = (good, all)

  module _ (sub : List Mark → Read Term) (sub-good : (ms : List Mark) → AreMarks ms → IfRead Stands (sub ms)) where
    part-read : (slot : Slot) (ms : List Mark) → AreMarks ms → IfRead PartStands (read_part sub slot ms)
    part-read formula ms all = next_read (λ _. ⊤) PartStands (read_formula ms) _ (formula-read ms all) (λ a more _ lasts. (tt, lasts))
    part-read object ms all = next_read (λ _. ⊤) PartStands (read_object ms) _ (object-read ms all) (λ a more _ lasts. (tt, lasts))
    part-read named ms all = next_read (λ _. ⊤) PartStands (read_name ms) _ (name-read ms all) (λ a more _ lasts. (tt, lasts))
    part-read proof ms all = next_read Stands PartStands (sub ms) _ (sub-good ms all) (λ t more g lasts. (g, lasts))

    parts-read : (ss : List Slot) (ms : List Mark) → AreMarks ms → IfRead (AllByRecursion PartStands) (read_parts sub ss ms)
    parts-read [] ms all = (tt, all)
    parts-read (s ∷ more) ms all =
        next_read PartStands (AllByRecursion PartStands) (read_part sub s ms) _ (part-read s ms all)
        (λ p behind g after. next_read (AllByRecursion PartStands) (AllByRecursion PartStands) (read_parts sub more behind) _ (parts-read more behind after)
        (λ ps last gs lasts. ((g, gs), lasts)))

    inside-read : (r : Rule) (ms : List Mark) → AreMarks ms → IfRead Stands (read_inside sub r ms)
    inside-read r ms all =
        next_read (AllByRecursion PartStands) Stands (read_parts sub (slots r) ms) _ (parts-read (slots r) ms all)
        (λ ps more gs after. made-good (built_term r ps) more (built-good P r ps gs) after)

    rule-read : (r : Rule) (ms : List Mark) → AreMarks ms → IfRead Stands (read_rule sub r ms)
    rule-read r ms all =
        next_read Stands Stands (read_inside sub r ms) _ (inside-read r ms all)
        (λ t more g after. next_read (λ _. ⊤) Stands (read_close more) _ (close-read more after) (λ _ last _ lasts. (g, lasts)))

  on-read : (rest : Rule → List Mark → Read Term) → ((r : Rule) (ms : List Mark) → AreMarks ms → IfRead Stands (rest r ms))
      → (s : Start) (more : List Mark) → StartGood s → AreMarks more → IfRead Stands (read_on rest s more)
  on-read rest good (S.Fact c) more p after = (rolled P (Term-F.Fact c) (T.Fact c) (T.rolls-Fact c) (p, tt), after)
  on-read rest good (S.Rule r) more p after = good r more after

  term-read : (n : ℕ) (ms : List Mark) → AreMarks ms → IfRead Stands (read_term n ms)
  term-read zero ms all =
      next_read StartGood Stands (read_start ms) _ (start-read ms all)
      (λ s more g after. on-read (λ r last. Err ProofTooDeep) (λ r last _. tt) s more g after)
  term-read (suc n) ms all =
      next_read StartGood Stands (read_start ms) _ (start-read ms all)
      (λ s more g after. on-read (read_rule (read_term n)) (rule-read (read_term n) (term-read n)) s more g after)

  abbrev pub IfProof : Result Term TermFault → Type 0
  IfProof (Ok t) = Stands t
  IfProof (Err fault) = ⊤

  alone-read : (t : Term) (more : List Mark) → Stands t → IfProof (alone t more)
  alone-read t [] good = good
  alone-read t (m ∷ more) good = tt

  whole-read : (m : Read Term) → IfRead Stands m → IfProof (whole m)
  whole-read (Ok r) good = alone-read r.0 r.1 good.0
  whole-read (Err fault) good = tt

  pub proof-good : (ms : List Mark) → AreMarks ms → IfProof (proof_of ms)
  proof-good ms all = whole-read (read_term deepest ms) (term-read deepest ms all)
