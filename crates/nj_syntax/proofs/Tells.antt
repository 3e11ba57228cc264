-- The function of the answer never tells that there is no memory.
use Rattle.std.proofs.Common.{◌≡◌, ℕ, Bool, true, false, cond, nat_lt, List, [], ◌∷◌, Option, Some, None, Result, Ok, Err, subst}
use Rattle.nj_syntax.specs.declared.token.Placed.{Placed}
use Rattle.nj_syntax.specs.Tokens.{cut_of}
use Rattle.nj_syntax.specs.declared.fault.FormulaFault.{FormulaFault}
use Rattle.nj_syntax.specs.Deepest.{deepest}
use Rattle.nj_syntax.specs.Steps.{State, Step, step}
use Rattle.nj_syntax.specs.Answer.{and_then, stepped_state, read_on, read_from, ended, answer}

-- the function never tells that there is no memory
abbrev Tells : {A : Type 0} → Result A FormulaFault → Type 0
Tells (Ok a) = Unit {0}
Tells (Err (FormulaFault.At pos kind)) = Unit {0}
Tells (Err FormulaFault.TooDeep) = Unit {0}
Tells (Err FormulaFault.NoMemory) = ⊥

ended_tells : {A : Type 0} (o : Option A) (stop : ℕ) (whole : Bool) → Tells (ended o stop whole)
ended_tells o stop false = tt
ended_tells None stop true = tt
ended_tells (Some a) stop true = tt

then_tells : {A B : Type 0} (a : Result A FormulaFault) (next : A → Result B FormulaFault) → Tells a → ((x : A) → Tells (next x)) → Tells (and_then a next)
then_tells (Ok a) next told each = each a
then_tells (Err (FormulaFault.At pos kind)) next told each = tt
then_tells (Err FormulaFault.TooDeep) next told each = tt
then_tells (Err FormulaFault.NoMemory) next told each = absurd told

after_tells : (t : Placed) (o : Step) → Tells (stepped_state t o)
after_tells t None = tt
after_tells t (Some (next, d)) = go (nat_lt deepest d)
  where
    go : (b : Bool) → Tells (cond b (Err FormulaFault.TooDeep) (Ok next))
    go true = tt
    go false = tt

read_tells : (s : State) (tokens : List Placed) (stop : ℕ) (whole : Bool) → Tells (read_on s tokens stop whole)
read_tells s [] stop whole = tt
read_tells s (t ∷ more) stop whole =
    then_tells (stepped_state t (step s t.token)) (λ n. read_on n more stop whole) (after_tells t (step s t.token)) (λ n. read_tells n more stop whole)

no_memory : {A : Type 0} (a : Result A FormulaFault) → Tells a → a ≡ Err FormulaFault.NoMemory → ⊥
no_memory a told is = subst Tells is told

pub tells : {A : Type 0} (found : State → Option A) (start : State) (text : List ℕ) → answer found start (cut_of text) ≡ Err FormulaFault.NoMemory → ⊥
tells found start text =
    let cut = cut_of text in
    no_memory (answer found start cut)
    (then_tells (read_from start cut) (λ e. ended (found e.0) e.1 e.2) (read_tells start cut.tokens cut.stop cut.whole) (λ e. ended_tells (found e.0) e.1 e.2))
