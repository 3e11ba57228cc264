-- What takes arguments, and the steps after a term within it.
use Rattle.std.proofs.Common.{◌≡◌, ℕ, ◌+◌, List, [], ◌∷◌, ◌++◌, length, refl, ap, ◌∙◌}
use Rattle.nj_formula.specs.declared.argument.Argument.{Argument}
use Rattle.nj_formula.specs.declared.argument.Argument.TheVariants.{Apply}
use Rattle.nj_formula.specs.declared.formula.Formula.TheVariants as Formulas
use Rattle.nj_syntax.specs.declared.token.Token.{Token}
use Rattle.nj_syntax.specs.declared.state.Pending.{Pending}
use Rattle.nj_syntax.specs.declared.state.Mode.{Mode}
use Rattle.nj_syntax.specs.Terms.{Deep, named_term}
use Rattle.nj_syntax.specs.Reduced.{bound_names}
use Rattle.nj_syntax.specs.Steps.{step, step_comma, goes as going}
use Rattle.nj_syntax.proofs.Runs.{Runs}

-- what takes arguments
pub data Frame : Type 0 where
  predicate : List ℕ → Frame
  function : List ℕ → Frame

abbrev pub framed : Frame → List Argument → Pending
framed (predicate x) done = Pending.Predicate x done
framed (function f) done = Pending.Function f done

-- the mode after a term's last token
pub data Holds (bound : List (List ℕ)) : Argument → Mode → Type 0 where
  by_name : {x : List ℕ} → Holds bound (named_term bound x) (Mode.Head x)
  whole : {t : Argument} → Holds bound t (Mode.Comma t)

-- a run over one term, and one over arguments, of which the last is still held by the mode
pub record ReadsOne (bound : List (List ℕ)) (pending : List Pending) (deep : List Deep) (t : Argument) : Type 0 where
  pub mode : Mode
  pub run : Runs (Mode.Argument, pending) deep (mode, pending)
  pub holds : Holds bound t mode

pub record ReadsMany (bound : List (List ℕ)) (frame : Frame) (done : List Argument) (below : List Pending)
    (deep : List Deep) (arguments : List Argument) : Type 0 where
  pub mode : Mode
  pub before : List Argument
  pub last : Argument
  pub run : Runs (Mode.Argument, framed frame done ∷ below) deep (mode, framed frame before ∷ below)
  pub holds : Holds bound last mode
  pub are : before ++ last ∷ [] ≡ done ++ arguments

-- the steps after a term within the frame
module _ (below : List Pending) where
  pub bound_framed : (frame : Frame) (done : List Argument) → bound_names (framed frame done ∷ below) ≡ bound_names below
  bound_framed (predicate x) done = refl
  bound_framed (function f) done = refl

  comma_then : (frame : Frame) (before : List Argument) (t : Argument)
      → step_comma (framed frame before ∷ below) t Token.Comma ≡ going Mode.Argument (framed frame (before ++ t ∷ []) ∷ below) (length below + 1)
  comma_then (predicate x) before t = refl
  comma_then (function f) before t = refl

  pub comma_step : {bound : List (List ℕ)} {t : Argument} {m : Mode} (frame : Frame) (before : List Argument)
      → bound_names below ≡ bound → Holds bound t m
      → step (m, framed frame before ∷ below) Token.Comma ≡ going Mode.Argument (framed frame (before ++ t ∷ []) ∷ below) (length below + 1)
  comma_step {bound = bound} frame before are (by_name {x = x}) =
      ap (λ names. step_comma (framed frame before ∷ below) (named_term names x) Token.Comma)
      (bound_framed frame before ∙ are)
      ∙ comma_then frame before (named_term bound x)
  comma_step frame before are (whole {t = t}) = comma_then frame before t

  pub predicate_closes : {bound : List (List ℕ)} {t : Argument} {m : Mode} (x : List ℕ) (before : List Argument)
      → bound_names below ≡ bound → Holds bound t m
      → step (m, Pending.Predicate x before ∷ below) Token.Close ≡ going (Mode.Operator (Formulas.Atom x (before ++ t ∷ []))) below (length below)
  predicate_closes p before are (by_name {x = x}) =
      ap (λ names. going (Mode.Operator (Formulas.Atom p (before ++ named_term names x ∷ [])))
      below (length below)) are
  predicate_closes p before are whole = refl

  pub function_closes : {bound : List (List ℕ)} {t : Argument} {m : Mode} (f : List ℕ) (before : List Argument)
      → bound_names below ≡ bound → Holds bound t m
      → step (m, Pending.Function f before ∷ below) Token.Close ≡ going (Mode.Comma (Apply f (before ++ t ∷ []))) below (length below)
  function_closes f before are (by_name {x = x}) =
      ap (λ names. going (Mode.Comma (Apply f (before ++ named_term names x ∷ []))) below
      (length below)) are
  function_closes f before are whole = refl
