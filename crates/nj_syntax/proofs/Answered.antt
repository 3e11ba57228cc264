-- What the reader's function answers is the answer to the text, for each language that the steps read.
use Rattle.std.proofs.Common.{◌≡◌, ◌<◌, ℕ, Bool, true, false, cond, nat_lt, List, [], ◌∷◌, ◌++◌, map, Option, Some, None, Result, Ok, Err, refl, ap, sym, subst, ◌∙◌, append-nil, append_assoc, ltb-true, ltb-false}
use Rattle.std.proofs.lemmas.List.{map-append}
use Rattle.nj_syntax.specs.declared.token.Placed.{Placed}
use Rattle.nj_syntax.specs.Tokens.{AreTokens, cut_of}
use Rattle.nj_syntax.proofs.KnownTokens.{tokens_are}
use Rattle.nj_syntax.specs.declared.fault.FaultKind.{FaultKind}
use Rattle.nj_syntax.specs.declared.fault.FormulaFault.{FormulaFault}
use Rattle.nj_syntax.specs.Deepest.{deepest}
use Rattle.nj_syntax.specs.Terms.{Deep}
use Rattle.nj_syntax.specs.Answers.{AreAt, Begins, GoesOn, SaysWhole, HasFault, Answers, expected, symbol, ends}
use Rattle.nj_syntax.specs.Steps.{State, Step, step}
use Rattle.nj_syntax.specs.Answer.{End, and_then, stepped_state, read_on, ended, answer}
use Rattle.nj_syntax.proofs.Runs.{HasRead, stays, goes, runs_append, runs_split, nothing_read, one_more}
use Rattle.nj_syntax.proofs.Determinism.{one_run, next_step}
use Rattle.nj_syntax.proofs.Reader.{IsReader}

not_none : {A : Type 0} (x : Option A) (a : A) → x ≡ None → x ≡ Some a → ⊥
not_none x a none some = cc

module _ {A : Type 0} (Is : List Deep → A → Type 0) (start : State) (found : State → Option A) (r : IsReader Is start found) where
  goes_on : (tokens : List Placed) (s : State) → HasRead start tokens s → GoesOn Is tokens
  goes_on tokens s h = record { deep = h.deep; tokens_are = h.tokens_are; begins = r.begins h.deep s h.runs; shallow = h.shallow }

  says : (text : List ℕ) (tokens : List Placed) (stop : ℕ) (s : State) (a : A) → AreTokens 0 text tokens stop true
      → HasRead start tokens s → found s ≡ Some a → SaysWhole Is text a
  says text tokens stop s a cut h is = record
      { tokens = tokens; stop = stop; cut = cut; deep = h.deep; tokens_are = h.tokens_are; is = r.sound h.deep s a h.runs is; shallow = h.shallow }

  no_symbol : (text : List ℕ) (tokens : List Placed) (stop : ℕ) (s : State) → AreTokens 0 text tokens stop false
      → HasRead start tokens s → HasFault Is text stop FaultKind.Symbol
  no_symbol text tokens stop s cut h = record { tokens = tokens; stop = stop; whole = false; cut = cut; fault = symbol (goes_on tokens s h) }

  -- a run over the same tokens would end in the same state
  nothing_there : (tokens : List Placed) (s : State) → HasRead start tokens s → found s ≡ None
      → (deep : List Deep) (a : A) → AreAt tokens deep → Is deep a → ⊥
  nothing_there tokens s h none deep a are is =
      let other = r.complete deep a is in
      let same : s ≡ other.0 = (one_run h.runs other.1 (sym h.tokens_are ∙ are)).1 in
      not_none (found s) a none (ap found same ∙ other.2)

  too_early : (text : List ℕ) (tokens : List Placed) (stop : ℕ) (s : State) → AreTokens 0 text tokens stop true
      → HasRead start tokens s → found s ≡ None → HasFault Is text stop FaultKind.End
  too_early text tokens stop s cut h none = record
      { tokens = tokens; stop = stop; whole = true; cut = cut; fault = ends (goes_on tokens s h) (nothing_there tokens s h none) }

  at_end : (text : List ℕ) (tokens : List Placed) (stop : ℕ) (whole : Bool) (s : State) (o : Option A) → found s ≡ o
      → AreTokens 0 text tokens stop whole → HasRead start tokens s → Answers Is text (ended o stop whole)
  at_end text tokens stop false s o is cut h = no_symbol text tokens stop s cut h
  at_end text tokens stop true s None is cut h = too_early text tokens stop s cut h is
  at_end text tokens stop true s (Some a) is cut h = says text tokens stop s a cut h is

  -- a run that went on would make the step that can't be made
  nothing_begins : (front : List Placed) (t : Placed) (s : State) → HasRead start front s → step s t.token ≡ None
      → (deep : List Deep) → AreAt (front ++ t ∷ []) deep → Begins Is deep → ⊥
  nothing_begins front t s h none deep are b =
      let other = r.complete (deep ++ b.0) b.1 b.2 in
      let first = runs_split deep b.0 other.1 in
      let tokens_same : map (λ p. p.0) deep ≡ map (λ p. p.0) h.deep ++ t.token ∷ [] =
      sym are ∙ (map-append (λ p. p.token) front (t ∷ []) ∙ ap (λ ts. ts ++ t.token ∷ []) h.tokens_are) in
      let on = next_step t.token h.runs first.before tokens_same in
      not_none (step s t.token) (on.next, on.depth) none on.steps

  deeper : (front : List Placed) (t : Placed) (s next : State) (d : ℕ) (h : HasRead start front s) → step s t.token ≡ Some (next, d)
      → Begins Is (h.deep ++ (t.token, d) ∷ [])
  deeper front t s next d h steps = r.begins (h.deep ++ (t.token, d) ∷ []) next (runs_append h.runs (goes steps stays))

  module _ (text : List ℕ) (stop : ℕ) (whole : Bool) where
    stopped_at : (front : List Placed) (t : Placed) (back : List Placed) (s : State) → AreTokens 0 text (front ++ t ∷ back) stop whole
        → HasRead start front s → step s t.token ≡ None → Answers Is text (Err (FormulaFault.At t.at FaultKind.Expected))
    stopped_at front t back s cut h none = record {
      tokens = front ++ t ∷ back;
      stop = stop;
      whole = whole;
      cut = cut;
      fault = expected front t back (goes_on front s h) (nothing_begins front t s h none);
    }

    too_deep_at : (front : List Placed) (t : Placed) (back : List Placed) (s next : State) (d : ℕ) → AreTokens 0 text (front ++ t ∷ back) stop whole
        → HasRead start front s → step s t.token ≡ Some (next, d) → deepest < d → Answers Is text (Err FormulaFault.TooDeep)
    too_deep_at front t back s next d cut h steps deep = record {
      front = front;
      last = t;
      back = back;
      stop = stop;
      whole = whole;
      cut = cut;
      before = goes_on front s h;
      deep = h.deep;
      depth = d;
      tokens_are = h.tokens_are;
      begins = deeper front t s next d h steps;
      too_deep = deep;
    }

    abbrev Told : Result End FormulaFault → Type 0
    Told end = Answers Is text (and_then end (λ e. ended (found e.0) e.1 e.2))

    -- over one token more
    module _ (front : List Placed) (t : Placed) (more : List Placed) (s : State) (cut : AreTokens 0 text (front ++ t ∷ more) stop whole)
        (h : HasRead start front s) (on : (next : State) → HasRead start (front ++ t ∷ []) next → Told (read_on next more stop whole)) where
      by_depth : (next : State) (d : ℕ) (b : Bool) → step s t.token ≡ Some (next, d) → nat_lt deepest d ≡ b
          → Told (and_then (cond b (Err FormulaFault.TooDeep) (Ok next)) (λ n. read_on n more stop whole))
      by_depth next d true steps deep = too_deep_at front t more s next d cut h steps (ltb-true _ _ deep)
      by_depth next d false steps shallow = on next (one_more start s next front t d h steps (ltb-false _ _ shallow))

      by_step : (o : Step) → step s t.token ≡ o
          → Told (and_then (stepped_state t o) (λ n. read_on n more stop whole))
      by_step None none = stopped_at front t more s cut h none
      by_step (Some (next, d)) steps = by_depth next d (nat_lt deepest d) steps refl

    -- over the tokens that are left
    walked : (front more : List Placed) (s : State) → AreTokens 0 text (front ++ more) stop whole → HasRead start front s
        → Told (read_on s more stop whole)
    walked front [] s cut h =
        at_end text front stop whole s (found s) refl (subst (λ ts. AreTokens 0 text ts stop whole) (append-nil front) cut) h
    walked front (t ∷ more) s cut h =
        by_step front t more s cut h
        (λ next read. walked (front ++ t ∷ []) more next (subst (λ ts. AreTokens 0 text ts stop whole) (sym (append_assoc front (t ∷ []) more)) cut) read)
        (step s t.token) refl

  pub answered : (text : List ℕ) → Answers Is text (answer found start (cut_of text))
  answered text = walked text (cut_of text).stop (cut_of text).whole [] (cut_of text).tokens start (tokens_are text) (nothing_read start)
