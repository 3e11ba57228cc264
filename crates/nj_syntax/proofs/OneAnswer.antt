-- A text has no other answer than what the reader's function gives, unless memory runs out.
use Rattle.std.proofs.Common.{◌≡◌, ◌≤◌, ℕ, Bool, true, false, cond, List, [], ◌∷◌, ◌++◌, map, Option, Some, None, Result, Ok, Err, refl, ap, sym, ◌∙◌, append-nil, ◌⊎◌, inl, inr}
use Rattle.std.proofs.lemmas.Bool.{lt-ltb, le-ltb}
use Rattle.std.proofs.lemmas.List.Elements.{All-head, All-tail}
use Rattle.nj_syntax.specs.declared.token.Token.{Token}
use Rattle.nj_syntax.specs.declared.token.Placed.{Placed}
use Rattle.nj_syntax.specs.Tokens.{AreTokens, cut_of}
use Rattle.nj_syntax.proofs.KnownTokens.{cut_is}
use Rattle.nj_syntax.specs.declared.fault.FaultKind.{FaultKind}
use Rattle.nj_syntax.specs.declared.fault.FormulaFault.{FormulaFault}
use Rattle.nj_syntax.specs.Deepest.{deepest}
use Rattle.nj_syntax.specs.Terms.{Deep}
use Rattle.nj_syntax.specs.Answers.{AreAt, IsShallow, Begins, GoesOn, IsFault, SaysWhole, IsTooDeep, Answers, expected, symbol, ends}
use Rattle.nj_syntax.specs.Steps.{State, Step, step}
use Rattle.nj_syntax.specs.Answer.{End, and_then, stepped_state, read_on, ended, answer}
use Rattle.nj_syntax.proofs.KnownGrammar.{first_same, others_same}
use Rattle.nj_syntax.proofs.Runs.{Runs, stays, goes, runs_append, runs_split, tokens_with}
use Rattle.nj_syntax.proofs.Determinism.{one_run}
use Rattle.nj_syntax.proofs.Reader.{IsReader}

-- over the tokens of a run that are not too deep the function goes as the run does
goes_along : {s end : State} {deep : List Deep} → Runs s deep end → (front more : List Placed) (stop : ℕ) (whole : Bool)
    → AreAt front deep → IsShallow deep → read_on s (front ++ more) stop whole ≡ read_on end more stop whole
goes_along stays [] more stop whole are shallow = refl
goes_along stays (t ∷ front) more stop whole are shallow = cc
goes_along (goes steps h) [] more stop whole are shallow = cc
goes_along {s = s} (goes {next = next} {t = u} {d = d} {more = deep} steps h) (t ∷ front) more stop whole are shallow =
    let same : t.token ≡ u = first_same t.token u (map (λ p. p.token) front) (map (λ p. p.0) deep) are in
    let rest : AreAt front deep = others_same t.token u (map (λ p. p.token) front) (map (λ p. p.0) deep) are in
    let fits : d ≤ deepest = All-head (λ p. p.1 ≤ deepest) (u, d) deep shallow in
    ap (λ o. and_then (stepped_state t o) (λ n. read_on n (front ++ more) stop whole))
    (ap (step s) same ∙ steps)
    ∙ (ap (λ b. and_then (cond b (Err FormulaFault.TooDeep) (Ok next)) (λ n. read_on n (front ++ more) stop whole)) (le-ltb _ _ fits)
    ∙ goes_along h front more stop whole rest (All-tail (λ p. p.1 ≤ deepest) (u, d) deep shallow))

-- the step of a run over one token
last_step : {s end : State} {t : Token} {d : ℕ} → Runs s ((t, d) ∷ []) end → (next : State) × (step s t ≡ Some (next, d))
last_step (goes {next = next} steps h) = (next, steps)

module _ {A : Type 0} (Is : List Deep → A → Type 0) (start : State) (found : State → Option A) (r : IsReader Is start found) where
  -- the state after tokens with which something goes on
  record Gone (front : List Placed) : Type 0 where
    pub deep : List Deep
    pub state : State
    pub are : AreAt front deep
    pub runs : Runs start deep state
    pub shallow : IsShallow deep

  gone : (front : List Placed) → GoesOn Is front → Gone front
  gone front h =
      let whole = r.complete (h.deep ++ h.begins.0) h.begins.1 h.begins.2 in
      let first = runs_split h.deep h.begins.0 whole.1 in
      record { deep = h.deep; state = first.middle; are = h.tokens_are; runs = first.before; shallow = h.shallow }

  abbrev finish : Result End FormulaFault → Result A FormulaFault
  finish end = and_then end (λ e. ended (found e.0) e.1 e.2)

  -- the function at tokens that go on
  along : (front more : List Placed) (stop : ℕ) (whole : Bool) (g : Gone front)
      → finish (read_on start (front ++ more) stop whole) ≡ finish (read_on g.state more stop whole)
  along front more stop whole g = ap finish (goes_along g.runs front more stop whole g.are g.shallow)

  no_step : (front : List Placed) (t : Placed) (g : Gone front)
      → ((deep : List Deep) → AreAt (front ++ t ∷ []) deep → Begins Is deep → ⊥) → (o : Step) → step g.state t.token ≡ o → o ≡ None
  no_step front t g none None is = refl
  no_step front t g none (Some (next, d)) is =
      absurd (none (g.deep ++ (t.token, d) ∷ []) (tokens_with front t g.deep d g.are)
      (r.begins (g.deep ++ (t.token, d) ∷ []) next (runs_append g.runs (goes is stays))))

  not_found : (tokens : List Placed) (g : Gone tokens) → ((deep : List Deep) (a : A) → AreAt tokens deep → Is deep a → ⊥)
      → (o : Option A) → found g.state ≡ o → o ≡ None
  not_found tokens g none None is = refl
  not_found tokens g none (Some a) is = absurd (none g.deep a g.are (r.sound g.deep g.state a g.runs is))

  abbrev told : List Placed → ℕ → Bool → Result A FormulaFault
  told tokens stop whole = finish (read_on start tokens stop whole)

  ended_told : (tokens : List Placed) (stop : ℕ) (whole : Bool) (g : Gone tokens) → told tokens stop whole ≡ ended (found g.state) stop whole
  ended_told tokens stop whole g = ap (λ ts. told ts stop whole) (sym (append-nil tokens)) ∙ along tokens [] stop whole g

  fault_told : {tokens : List Placed} {stop pos : ℕ} {whole : Bool} {kind : FaultKind} → IsFault Is tokens stop whole pos kind
      → told tokens stop whole ≡ Err (FormulaFault.At pos kind)
  fault_told (expected front t back {stop = stop} {whole = whole} on none) =
      let g = gone front on in
      along front (t ∷ back) stop whole g
      ∙ ap (λ o. finish (and_then (stepped_state t o) (λ n. read_on n back stop whole))) (no_step front t g none (step g.state t.token) refl)
  fault_told (symbol {tokens = tokens} {stop = stop} on) = ended_told tokens stop false (gone tokens on)
  fault_told (ends {tokens = tokens} {stop = stop} on none) =
      let g = gone tokens on in
      ended_told tokens stop true g ∙ ap (λ o. ended o stop true) (not_found tokens g none (found g.state) refl)

  whole_told : (text : List ℕ) (a : A) (h : SaysWhole Is text a) → told h.tokens h.stop true ≡ Ok a
  whole_told text a h =
      let whole = r.complete h.deep a h.is in
      ap (λ ts. told ts h.stop true) (sym (append-nil h.tokens))
      ∙ (ap finish (goes_along whole.1 h.tokens [] h.stop true h.tokens_are h.shallow) ∙ ap (λ o. ended o h.stop true) whole.2)

  deep_told : (text : List ℕ) (h : IsTooDeep Is text) → told (h.front ++ h.last ∷ h.back) h.stop h.whole ≡ Err FormulaFault.TooDeep
  deep_told text h =
      let g = gone h.front h.before in
      let run = r.complete ((h.deep ++ (h.last.token, h.depth) ∷ []) ++ h.begins.0) h.begins.1 h.begins.2 in
      let front = runs_split (h.deep ++ (h.last.token, h.depth) ∷ []) h.begins.0 run.1 in
      let both = runs_split h.deep ((h.last.token, h.depth) ∷ []) front.before in
      let one = last_step both.behind in
      let same : both.middle ≡ g.state = (one_run both.before g.runs (sym h.tokens_are ∙ g.are)).1 in
      let steps : step g.state h.last.token ≡ Some (one.0, h.depth) = ap (λ s. step s h.last.token) (sym same) ∙ one.1 in
      let rest : State → Result End FormulaFault = λ n. read_on n h.back h.stop h.whole in
      along h.front (h.last ∷ h.back) h.stop h.whole g
      ∙ (ap (λ o. finish (and_then (stepped_state h.last o) rest)) steps
      ∙ ap (λ b. finish (and_then (cond b (Err FormulaFault.TooDeep) (Ok one.0)) rest)) (lt-ltb _ _ h.too_deep))

  -- the answer by what the text is cut into
  by_cut : {text : List ℕ} {tokens : List Placed} {stop : ℕ} {whole : Bool} → AreTokens 0 text tokens stop whole
      → answer found start (cut_of text) ≡ told tokens stop whole
  by_cut cut = ap (answer found start) (cut_is cut)

  pub one_answer : (text : List ℕ) (a : Result A FormulaFault) → Answers Is text a
      → (a ≡ Err FormulaFault.NoMemory) ⊎ (a ≡ answer found start (cut_of text))
  one_answer text (Ok a) h = inr (sym (by_cut h.cut ∙ whole_told text a h))
  one_answer text (Err (FormulaFault.At pos kind)) h = inr (sym (by_cut h.cut ∙ fault_told h.fault))
  one_answer text (Err FormulaFault.TooDeep) h = inr (sym (by_cut h.cut ∙ deep_told text h))
  one_answer text (Err FormulaFault.NoMemory) h = inl refl
