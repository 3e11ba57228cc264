-- What a call gives, and what follows from it.
use Rattle.std.proofs.Common.{◌≡◌, ℕ, zero, suc, ◌-◌, List, [], ◌∷◌, length, Result, Ok, Err, refl, ap, sym, subst, ◌∙◌, arith}
use Rattle.std.specs.Prelude.{IsErrAnd}
use Rattle.outer_syntax.specs.declared.token.Token.{Token}
use Rattle.nj_kernel.specs.declared.rule.Rule.{Rule}
use Rattle.proof_terms.specs.declared.fault.TermError.{TermError}
use Rattle.proof_terms.specs.declared.fault.TermError.TheVariants.{Fault, NoMemory}
use Rattle.proof_terms.specs.declared.fault.TermFault.TheVariants.{Malformed, ProofTooDeep}
use Rattle.proof_terms.specs.declared.mark.Mark.{Mark}
use Rattle.proof_terms.specs.declared.reader.Start.{Start}
use Rattle.proof_terms.specs.declared.reader.Start.TheVariants as S
use Rattle.proof_terms.specs.declared.term.Term.{Term}
use Rattle.proof_terms.specs.Marks.{marks}
use Rattle.proof_terms.specs.Grammar.{IsTerm}
use Rattle.proof_terms.specs.Reading.{Read, and_then, Gives, read_start, read_rule, read_on, read_term, deepest}
use Rattle.proof_terms.specs.Answers.{Told}
use Rattle.proof_terms.proofs.StepLemmas.{then_ok}
use Rattle.proof_terms.proofs.AnsweredLemmas.{AnswersTo, answered}

halted : (n : ℕ) (ms rest last : List Mark) (e : TermError) → Gives {A = Start} (Err e) rest (read_start ms) → Gives {A = Term} (Err e) last (read_term n ms)
halted zero ms rest last (Fault f) g = ap (λ r. and_then r (read_on (λ q more. Err ProofTooDeep))) g
halted (suc n) ms rest last (Fault f) g = ap (λ r. and_then r (read_on (read_rule (read_term n)))) g
halted n ms rest last NoMemory g = tt

-- where nothing begins, no term does
pub start_halts : (n : ℕ) (ms rest last : List Mark) (e : TermError) (r : Result Term TermError) → IsErrAnd r (λ f. f ≡ e)
    → Gives {A = Start} (Err e) rest (read_start ms) → Gives r last (read_term n ms)
start_halts n ms rest last e (Ok t) is given = absurd is
start_halts n ms rest last e (Err f) is given = subst (λ z. Gives {A = Term} (Err z) last (read_term n ms)) (sym is) (halted n ms rest last e given)

-- a term that begins with a rule
pub ruled_term : (n : ℕ) (ms behind : List Mark) (s : Start) (r : Rule) → (n ≡ 0 → ⊥) → read_start ms ≡ Ok (s, behind) → s ≡ S.Rule r
    → read_term n ms ≡ read_rule (read_term (n - 1)) r behind
ruled_term zero ms behind s r some e is = absurd (some refl)
ruled_term (suc n) ms behind s r some e is =
    let one : suc n - 1 ≡ n = omega arith in
    then_ok (read_on (read_rule (read_term n))) e
    ∙ (ap (λ z. read_on (read_rule (read_term n)) z behind) is ∙ ap (λ k. read_rule (read_term k) r behind) (sym one))

pub gives_along : (r : Result Term TermError) (rest : List Mark) (a b : Read Term) → a ≡ b → Gives r rest b → Gives r rest a
gives_along r rest a b e g = subst (λ z. Gives r rest z) (sym e) g

-- a call's fault is the first one of the tokens
told : (ms rest : List Mark) (e : TermError) → Gives {A = Term} (Err e) rest (read_term deepest ms) → Told ms (Err e)
told ms rest (Fault f) given = answered deepest ms (Err f) given
told ms rest NoMemory given = tt

pub fault_told : (n : ℕ) (ms rest : List Mark) (e : TermError) (r : Result Term TermError) → n ≡ deepest → IsErrAnd r (λ f. f ≡ e)
    → Gives {A = Term} (Err e) rest (read_term n ms) → Told ms r
fault_told n ms rest e (Ok t) most is given = absurd is
fault_told n ms rest e (Err f) most is given = subst (λ z. Told ms (Err z)) (sym is)
    (told ms rest e (subst (λ k. Gives {A = Term} (Err e) rest (read_term k ms)) most given))

-- the answer to the tokens, by what was read
pub whole_answers : (n : ℕ) (ms : List Mark) (t : Term) (source : List ℕ) (rest : List Token) → read_term n ms ≡ Ok (t, marks source rest)
    → length rest ≡ 0 → IsTerm n ms t
whole_answers n ms t source [] e none = answered n ms (Ok (t, [])) e
whole_answers n ms t source (x ∷ rest) e none = absurd (omega arith)

pub left_answers : (n : ℕ) (ms : List Mark) (t : Term) (source : List ℕ) (rest : List Token) → read_term n ms ≡ Ok (t, marks source rest)
    → (length rest ≡ 0 → ⊥) → AnswersTo n ms (Err Malformed)
left_answers n ms t source [] e some = absurd (some refl)
left_answers n ms t source (x ∷ rest) e some = answered n ms (Ok (t, marks source (x ∷ rest))) e
