-- Runs of the reader over tokens.
use Rattle.std.proofs.Common.{◌≡◌, ◌≤◌, ℕ, List, [], ◌∷◌, ◌++◌, Some, refl, ap, sym, ◌∙◌}
use Rattle.std.proofs.lemmas.List.{map-append}
use Rattle.std.proofs.lemmas.List.Elements.{All-append, All-nil, All-cons}
use Rattle.nj_syntax.specs.declared.token.Token.{Token}
use Rattle.nj_syntax.specs.declared.token.Placed.{Placed}
use Rattle.nj_syntax.specs.Deepest.{deepest}
use Rattle.nj_syntax.specs.Terms.{Deep}
use Rattle.nj_syntax.specs.Answers.{AreAt, IsShallow}
use Rattle.nj_syntax.specs.Steps.{State, step}

-- from one state over these tokens, with these depths, to another
pub data Runs : State → List Deep → State → Type 0 where
  stays : {s : State} → Runs s [] s
  goes : {s next end : State} {t : Token} {d : ℕ} {more : List Deep} → step s t ≡ Some (next, d)
      → Runs next more end → Runs s ((t, d) ∷ more) end

pub runs_append : {s middle end : State} {front more : List Deep} → Runs s front middle → Runs middle more end → Runs s (front ++ more) end
runs_append stays k = k
runs_append (goes e h) k = goes e (runs_append h k)

-- a run over the first tokens, and one from there over the others
pub record Split (s : State) (front more : List Deep) (end : State) : Type 0 where
  pub middle : State
  pub before : Runs s front middle
  pub behind : Runs middle more end

split_more : {s next end : State} {t : Token} {d : ℕ} {front more : List Deep} → step s t ≡ Some (next, d)
    → Split next front more end → Split s ((t, d) ∷ front) more end
split_more e h = record { middle = h.middle; before = goes e h.before; behind = h.behind }

pub runs_split : {s end : State} (front more : List Deep) → Runs s (front ++ more) end → Split s front more end
runs_split [] more h = record { middle = _; before = stays; behind = h }
runs_split (x ∷ front) more (goes e h) = split_more e (runs_split front more h)

-- a step, whose depth is the token's
pub goes_at : {s next end : State} {t : Token} {n d : ℕ} {more : List Deep} → step s t ≡ Some (next, n) → n ≡ d
    → Runs next more end → Runs s ((t, d) ∷ more) end
goes_at {next = next} e at h = goes (e ∙ ap (λ m. Some (next, m)) at) h

-- a run over these tokens, none of which is too deep
pub record HasRead (start : State) (tokens : List Placed) (end : State) : Type 0 where
  pub deep : List Deep
  pub tokens_are : AreAt tokens deep
  pub runs : Runs start deep end
  pub shallow : IsShallow deep

pub nothing_read : (s : State) → HasRead s [] s
nothing_read s = record { deep = []; tokens_are = refl; runs = stays; shallow = All-nil (λ t. t.1 ≤ deepest) }

-- one token more
pub tokens_with : (front : List Placed) (t : Placed) (deep : List Deep) (d : ℕ) → AreAt front deep → AreAt (front ++ t ∷ []) (deep ++ (t.token, d) ∷ [])
tokens_with front t deep d are =
    map-append (λ p. p.token) front (t ∷ []) ∙ (ap (λ ts. ts ++ t.token ∷ []) are ∙ sym (map-append (λ p. p.0) deep ((t.token, d) ∷ [])))

pub one_more : (start s next : State) (front : List Placed) (t : Placed) (d : ℕ) → HasRead start front s
    → step s t.token ≡ Some (next, d) → d ≤ deepest → HasRead start (front ++ t ∷ []) next
one_more start s next front t d h steps within = record {
  deep = h.deep ++ (t.token, d) ∷ [];
  tokens_are = tokens_with front t h.deep d h.tokens_are;
  runs = runs_append h.runs (goes steps stays);
  shallow = All-append (λ p. p.1 ≤ deepest) h.deep ((t.token, d) ∷ []) h.shallow
      (All-cons (λ p. p.1 ≤ deepest) (t.token, d) [] within (All-nil (λ p. p.1 ≤ deepest)));
}
