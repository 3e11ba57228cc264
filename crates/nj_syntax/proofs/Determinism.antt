-- Over the same tokens there is one run: the step is a function, and it gives the depth.
use Rattle.std.proofs.Common.{◌≡◌, ℕ, List, [], ◌∷◌, ◌++◌, map, Option, Some, refl, ap, sym, subst, ◌∙◌}
use Rattle.nj_syntax.specs.declared.token.Token.{Token}
use Rattle.nj_syntax.specs.Terms.{Deep}
use Rattle.nj_syntax.specs.Steps.{State, step}
use Rattle.nj_syntax.proofs.KnownGrammar.{first_same, others_same}
use Rattle.nj_syntax.proofs.Runs.{Runs, stays, goes}
use Rattle.nj_syntax.proofs.Reader.{IsReader}

some_injective : (a b : State × ℕ) → ◌≡◌ {A = Option (State × ℕ)} (Some a) (Some b) → a ≡ b
some_injective a b e = cc

abbrev tokens_of : List Deep → List Token
tokens_of deep = map (λ t. t.0) deep

none_is_first : (t : Token) (ts : List Token) → [] ≡ t ∷ ts → ⊥
none_is_first t ts e = cc

one_step : (s : State) (t u : Token) (a b : State × ℕ) → t ≡ u → step s t ≡ Some a → step s u ≡ Some b → a ≡ b
one_step s t u a b same e f = some_injective a b (sym e ∙ ap (step s) same ∙ f)

with_first : (t u : Token) (d n : ℕ) {deep more : List Deep} {end stop : State} → t ≡ u → d ≡ n
    → (deep ≡ more) × (end ≡ stop) → ((t, d) ∷ deep ≡ (u, n) ∷ more) × (end ≡ stop)
with_first t u d n {deep} {more} same at h = (ap (λ x. (x, d) ∷ deep) same ∙ ap (λ x. (u, x) ∷ deep) at ∙ ap (λ xs. (u, n) ∷ xs) h.0, h.1)

pub one_run : {s end stop : State} {deep more : List Deep} → Runs s deep end → Runs s more stop
    → map (λ t. t.0) deep ≡ map (λ t. t.0) more → (deep ≡ more) × (end ≡ stop)
one_run stays stays same = (refl, refl)
one_run stays (goes e h) same = absurd (none_is_first _ _ same)
one_run (goes e h) stays same = absurd (none_is_first _ _ (sym same))
one_run {s = s} (goes {next = next} {t = t} {d = d} {more = deep} e h) (goes {next = other} {end = stop} {t = u} {d = n} {more = more} f k) same =
    let is : t ≡ u = first_same t u (tokens_of deep) (tokens_of more) same in
    let pair : (next, d) ≡ (other, n) = one_step s t u (next, d) (other, n) is e f in
    with_first t u d n is (ap (λ p. p.1) pair)
    (one_run h (subst (λ x. Runs x more stop) (sym (ap (λ p. p.0) pair)) k) (others_same t u (tokens_of deep) (tokens_of more) same))

-- another run over one token more goes on with a step from where this one ended
pub record StepsOn (end : State) (t : Token) : Type 0 where
  pub next : State
  pub depth : ℕ
  pub steps : step end t ≡ Some (next, depth)

pub next_step : {s end stop : State} {deep more : List Deep} (t : Token) → Runs s deep end → Runs s more stop
    → map (λ p. p.0) more ≡ map (λ p. p.0) deep ++ t ∷ [] → StepsOn end t
next_step t stays stays same = absurd (none_is_first _ _ same)
next_step t stays (goes {s = s} {next = next} {t = u} {d = d} {more = more} e k) same =
    record { next = next; depth = d; steps = subst (λ x. step s x ≡ Some (next, d)) (first_same u t (tokens_of more) [] same) e }
next_step t (goes {t = u} {more = deep} e h) stays same = absurd (none_is_first _ _ same)
next_step {s = s} t (goes {next = next} {t = u} {d = d} {more = deep} e h) (goes {next = other} {end = stop} {t = v} {d = n} {more = more} f k) same =
    let is : v ≡ u = first_same v u (tokens_of more) (tokens_of deep ++ t ∷ []) same in
    let pair : (next, d) ≡ (other, n) = one_step s u v (next, d) (other, n) (sym is) e f in
    next_step t h (subst (λ x. Runs x more stop) (sym (ap (λ p. p.0) pair)) k) (others_same v u (tokens_of more) (tokens_of deep ++ t ∷ []) same)

same_found : {A : Type 0} (x y : A) → ◌≡◌ {A = Option A} (Some x) (Some y) → x ≡ y
same_found x y e = cc

-- the same tokens are the same thing, at the same depths
pub one_reading : {A : Type 0} (Is : List Deep → A → Type 0) (start : State) (found : State → Option A) (r : IsReader Is start found)
    → (deep other : List Deep) (a b : A) → map (λ t. t.0) deep ≡ map (λ t. t.0) other → Is deep a → Is other b → (deep ≡ other) × (a ≡ b)
one_reading Is start found r deep other a b same is is' =
    let run = r.complete deep a is in
    let run' = r.complete other b is' in
    let one = one_run run.1 run'.1 same in
    (one.0, same_found a b (sym run.2 ∙ (ap found one.1 ∙ run'.2)))
