-- One turn of the loop over the tokens of a text, and what its end answers.
use Rattle.std.proofs.Common.{◌≡◌, ℕ, List, Option, Result, Ok, Err, IsErrAnd, ap, sym, subst, ◌∙◌}
use Rattle.nj_syntax.specs.declared.token.Placed.{Placed}
use Rattle.nj_syntax.specs.Tokens.{Cut, placed_before, cut_of, cut_from}
use Rattle.nj_syntax.specs.declared.fault.FormulaFault.{FormulaFault}
use Rattle.nj_syntax.specs.Terms.{Deep}
use Rattle.nj_syntax.specs.Answers.{Answers}
use Rattle.nj_syntax.specs.Steps.{State, step}
use Rattle.nj_syntax.specs.Answer.{End, and_then, stepped_state, read_from, ended, answer}
use Rattle.nj_syntax.specs.Seen.{Gives}
use Rattle.nj_syntax.proofs.Reader.{IsReader}
use Rattle.nj_syntax.proofs.Answered.{answered}

-- a fault is the answer, as far as it is told
pub fault_given : {A B : Type 0} (see : A → B) (wanted : Result B FormulaFault) (fault : FormulaFault) (r : Result A FormulaFault)
    → IsErrAnd r (λ e. e ≡ fault) → Gives see (Err fault) wanted → Gives see r wanted
fault_given see wanted fault (Ok a) is given = absurd is
fault_given see wanted fault (Err e) is given = subst (λ f. Gives see (Err f) wanted) (sym is) given

-- a fault of the first part is the fault of the whole
fault_first : {A B C D : Type 0} (see : A → B) (see' : C → D) (first : Result B FormulaFault) (next : B → Result D FormulaFault) (fault : FormulaFault)
    → Gives see (Err fault) first → Gives see' (Err fault) (and_then first next)
fault_first see see' first next (FormulaFault.At pos kind) given = ap (λ a. and_then a next) given
fault_first see see' first next FormulaFault.TooDeep given = ap (λ a. and_then a next) given
fault_first see see' first next FormulaFault.NoMemory given = tt

otherwise_given : {A B : Type 0} (see : A → B) (r : Result A FormulaFault) {v w : Result B FormulaFault} → v ≡ w → Gives see r w → Gives see r v
otherwise_given see r e given = subst (Gives see r) (sym e) given

module _ (text : List ℕ) (start s : State) (at : ℕ) (kept : read_from start (cut_of text) ≡ read_from s (cut_from at text)) where
  module _ (t : Placed) (behind : ℕ) (cut : cut_from at text ≡ placed_before t (cut_from behind
      text)) where
    by_token : read_from start (cut_of text) ≡ and_then (stepped_state t (step s t.token)) (λ n. read_from n (cut_from behind text))
    by_token = kept ∙ ap (read_from s) cut

    pub token_read : (next : State) → stepped_state t (step s t.token) ≡ Ok next → read_from start (cut_of text) ≡ read_from next (cut_from behind text)
    token_read next steps = by_token ∙ ap (λ a. and_then a (λ n. read_from n (cut_from behind text))) steps

    pub token_faulty : {A B : Type 0} (see : A → State) (see' : B → End) (fault : FormulaFault) (r : Result B FormulaFault)
        → IsErrAnd r (λ e. e ≡ fault) → Gives see (Err fault) (stepped_state t (step s t.token)) → Gives see' r (read_from start (cut_of text))
    token_faulty see see' fault r is given =
        fault_given see' (read_from start (cut_of text)) fault r is
        (otherwise_given see' (Err fault) by_token
        (fault_first see see' (stepped_state t (step s t.token))
        (λ n. read_from n (cut_from behind text)) fault given))

  pub tokens_end : (cut : Cut) → cut_from at text ≡ cut → read_from start (cut_of text) ≡ read_from s cut
  tokens_end cut is = kept ∙ ap (read_from s) is

-- as the code says it: the reading begins with nothing pending
module _ {A : Type 0} (Is : List Deep → A → Type 0) (start : State) (found : State → Option A) (r : IsReader Is start found)
    (from : State) (text : List ℕ) (begun : from ≡ start) where
  answers : (result : Result A FormulaFault) → result ≡ answer found from (cut_of text) → Answers Is text result
  answers result is = subst (Answers Is text) (sym (is ∙ ap (λ s. answer found s (cut_of text)) begun)) (answered Is start found r text)

  pub found_answers : (e : End) (o : Option A) (result : Result A FormulaFault) → read_from from (cut_of text) ≡ Ok e → o ≡ found e.0
      → result ≡ ended o e.1 e.2 → Answers Is text result
  found_answers e o result reads seen is =
      answers result (is ∙ (ap (λ x. ended x e.1 e.2) seen ∙ ap (λ end. and_then end (λ e. ended (found e.0) e.1 e.2)) (sym reads)))

  fault_is : {B : Type 0} (see : B → End) (fault : FormulaFault) → Gives see (Err fault) (read_from from (cut_of text)) → Answers Is text (Err fault)
  fault_is see (FormulaFault.At pos kind) given = answers (Err (FormulaFault.At pos kind)) (ap (λ end. and_then end (λ e. ended (found e.0) e.1 e.2)) (sym given))
  fault_is see FormulaFault.TooDeep given = answers (Err FormulaFault.TooDeep) (ap (λ end. and_then end (λ e. ended (found e.0) e.1 e.2)) (sym given))
  fault_is see FormulaFault.NoMemory given = tt

  pub fault_answers : {B : Type 0} (see : B → End) (fault : FormulaFault) (result : Result A FormulaFault) → IsErrAnd result (λ e. e ≡ fault)
      → Gives see (Err fault) (read_from from (cut_of text)) → Answers Is text result
  fault_answers see fault (Ok a) is given = absurd is
  fault_answers see fault (Err e) is given = subst (λ f. Answers Is text (Err f)) (sym is) (fault_is see fault given)
