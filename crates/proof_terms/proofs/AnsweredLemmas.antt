-- The one answer to each text.
use Rattle.std.proofs.Common.{◌≡◌, ℕ, List, [], ◌∷◌, Some, Result, Ok, Err, ap, sym, subst, ◌∙◌}
use Rattle.std.proofs.lemmas.List.{append-nil}
use Rattle.proof_terms.specs.declared.fault.TermFault.{TermFault}
use Rattle.proof_terms.specs.declared.mark.Mark.{Mark}
use Rattle.proof_terms.specs.declared.term.Term.{Term}
use Rattle.proof_terms.specs.Slots.{proof}
use Rattle.proof_terms.specs.Grammar.{IsTerm}
use Rattle.proof_terms.specs.Faults.{in_slot, first_fault}
use Rattle.proof_terms.specs.Reading.{Read, whole, read_term}
use Rattle.proof_terms.proofs.CompleteLemmas.{term_read}
use Rattle.proof_terms.proofs.SoundLemmas.{term_front}
use Rattle.proof_terms.proofs.JudgedLemmas.{term_judged}
use Rattle.proof_terms.proofs.JudgedParts.{after}

-- of terms in which at most so many rules are nested
abbrev pub AnswersTo : ℕ → List Mark → Result Term TermFault → Type 0
AnswersTo n ms (Ok t) = IsTerm n ms t
AnswersTo n ms (Err f) = first_fault (in_slot n proof ∷ []) ms ≡ Some f

pub answered : (n : ℕ) (ms : List Mark) (r : Read Term) → read_term n ms ≡ r → AnswersTo n ms (whole r)
answered n ms (Err f) e = term_judged n ms [] ∙ ap (λ z. after z []) e
answered n ms (Ok (t, [])) e =
    let f = term_front n ms t [] e in
    subst (λ z. IsTerm n z t) (sym (f.cut ∙ append-nil f.front)) f.is
answered n ms (Ok (t, m ∷ more)) e = term_judged n ms [] ∙ ap (λ z. after z []) e

pub one_whole : (n : ℕ) (ms : List Mark) (a : Result Term TermFault) → AnswersTo n ms a → a ≡ whole (read_term n ms)
one_whole n ms (Ok t) is =
    let e : read_term n ms ≡ Ok (t, []) = ap (read_term n) (sym (append-nil ms)) ∙ term_read is [] in
    sym (ap whole e)
one_whole n ms (Err f) is = go (read_term n ms) (sym (term_judged n ms []) ∙ is)
  where
    go : (r : Read Term) → after r [] ≡ Some f → Err f ≡ whole r
    go (Err g) e = cc
    go (Ok (t, [])) e = cc
    go (Ok (t, m ∷ more)) e = cc
