-- The reader goes over each term, and over the arguments of a predicate or of a function.
use Rattle.std.proofs.Common.{◌≡◌, ℕ, ◌+◌, List, [], ◌∷◌, ◌++◌, length, append_assoc, Some, refl, ap, sym, subst, ◌∙◌, add-one}
use Rattle.nj_formula.specs.declared.argument.Argument.{Argument}
use Rattle.nj_formula.specs.declared.argument.Argument.TheVariants.{Apply}
use Rattle.nj_syntax.specs.declared.token.Token.{Token}
use Rattle.nj_syntax.specs.declared.state.Pending.{Pending}
use Rattle.nj_syntax.specs.declared.state.Mode.{Mode}
use Rattle.nj_syntax.specs.Terms.{Deep, named_term, AreArguments, name, apply, comma}
use Rattle.nj_syntax.specs.Answers.{IsTerm}
use Rattle.nj_syntax.specs.Reduced.{bound_names}
use Rattle.nj_syntax.specs.Steps.{State, term_at, goes as going}
use Rattle.nj_syntax.proofs.KnownGrammar.{some_arguments}
use Rattle.nj_syntax.proofs.Runs.{Runs, stays}
use Rattle.nj_syntax.proofs.Runs.{runs_append, goes_at}
use Rattle.nj_syntax.proofs.FrameSteps.{Frame, function, framed, Holds, by_name, whole, ReadsOne, ReadsMany, bound_framed, comma_step, function_closes}

-- a term by itself, where other terms may stand
as_many : {bound : List (List ℕ)} {deep : List Deep} {t : Argument} (frame : Frame) (done : List Argument) (below : List Pending)
    → ReadsOne bound (framed frame done ∷ below) deep t → ReadsMany bound frame done below deep (t ∷ [])
as_many {t = t} frame done below h = record { mode = h.mode; before = done; last = t; run = h.run; holds = h.holds; are = refl }

name_read : {bound : List (List ℕ)} {d : ℕ} (x : List ℕ) (pending : List Pending) → length pending ≡ d
    → ReadsOne bound pending ((Token.Name x, d) ∷ []) (named_term bound x)
name_read x pending at = record { mode = Mode.Head x; run = goes_at refl at stays; holds = by_name }

apply_read : {bound : List (List ℕ)} {d : ℕ} {inside : List Deep} {arguments : List Argument} (f : List ℕ) (pending : List Pending)
    → length pending ≡ d → bound_names pending ≡ bound → ReadsMany bound (function f) [] pending inside arguments
    → ReadsOne bound pending ((Token.Name f, d) ∷ (Token.Open, d) ∷ inside ++ (Token.Close, d) ∷ []) (Apply f arguments)
apply_read f pending at are h =
    let closes = function_closes pending f h.before are h.holds ∙ ap (λ all. going (Mode.Comma (Apply f all)) pending (length pending)) h.are in
    record { mode = Mode.Comma _; run = goes_at refl at (goes_at refl at (runs_append h.run (goes_at closes at stays))); holds = whole }

many_read : {bound : List (List ℕ)} {d : ℕ} {first rest : List Deep} {t : Argument} {more : List Argument}
    (frame : Frame) (done : List Argument) (below : List Pending)
    → length below + 1 ≡ d → bound_names below ≡ bound → ReadsOne bound (framed frame done ∷ below) first t
    → ReadsMany bound frame (done ++ t ∷ []) below rest more
    → ReadsMany bound frame done below (first ++ (Token.Comma, d) ∷ rest) (t ∷ more)
many_read {t = t} {more = more} frame done below at are h k = record {
  mode = k.mode;
  before = k.before;
  last = k.last;
  run = runs_append h.run (goes_at (comma_step below frame done are h.holds) at k.run);
  holds = k.holds;
  are = k.are ∙ append_assoc done (t ∷ []) more;
}

one_is : (t u : Argument) (more : List Argument) → t ∷ more ≡ u ∷ [] → t ≡ u
one_is t u more e = cc

rest_is : (t u : Argument) (more : List Argument) → t ∷ more ≡ u ∷ [] → more ≡ []
rest_is t u more e = cc

-- under the frame the depth is one more
inside_at : (frame : Frame) (done : List Argument) (below : List Pending) {d : ℕ} → length below + 1 ≡ d
    → length (framed frame done ∷ below) ≡ d
inside_at frame done below at = sym (add-one (length below)) ∙ at

inside_bound : {bound : List (List ℕ)} (frame : Frame) (done : List Argument) (below : List Pending) → bound_names below ≡ bound
    → bound_names (framed frame done ∷ below) ≡ bound
inside_bound frame done below are = bound_framed below frame done ∙ are

mutual
  one_read : {bound : List (List ℕ)} {d : ℕ} {deep : List Deep} {arguments : List Argument} → AreArguments bound d deep arguments
      → (t : Argument) → arguments ≡ t ∷ [] → (pending : List Pending) → length pending ≡ d → bound_names pending ≡ bound
      → ReadsOne bound pending deep t
  one_read (name {x = x}) t is pending at are = subst (ReadsOne _ pending _) (one_is _ t [] is) (name_read x pending at)
  one_read (apply {f = f} h) t is pending at are =
      subst (ReadsOne _ pending _) (one_is _ t [] is) (apply_read f pending at are
      (arguments_read h (function f) [] pending (ap (λ n. n + 1) at) are))
  one_read (comma h k) t is pending at are = absurd (some_arguments k (rest_is _ t _ is))

  pub arguments_read : {bound : List (List ℕ)} {d : ℕ} {deep : List Deep} {arguments : List Argument} → AreArguments bound d deep arguments
      → (frame : Frame) (done : List Argument) (below : List Pending) → length below + 1 ≡ d → bound_names below ≡ bound
      → ReadsMany bound frame done below deep arguments
  arguments_read (name {x = x}) frame done below at are = as_many frame done below (name_read x _ (inside_at frame done below at))
  arguments_read (apply {f = f} h) frame done below at are =
      let depth = inside_at frame done below at in
      let names = inside_bound frame done below are in
      as_many frame done below (apply_read f _ depth names (arguments_read h (function f) [] _ (ap (λ n. n + 1) depth) names))
  arguments_read (comma {t = t} h k) frame done below at are =
      many_read frame done below at are (one_read h t refl _ (inside_at frame done below at) (inside_bound frame done below are))
      (arguments_read k frame (done ++ t ∷ []) below at are)

holds_term : {t : Argument} {m : Mode} → Holds [] t m → term_at (m, []) ≡ Some t
holds_term by_name = refl
holds_term whole = refl

pub term_complete : (deep : List Deep) (t : Argument) → IsTerm deep t → (s : State) × Runs (Mode.Argument, []) deep s × (term_at s ≡ Some t)
term_complete deep t h =
    let r = one_read h t refl [] refl refl in
    ((r.mode, []), r.run, holds_term r.holds)
