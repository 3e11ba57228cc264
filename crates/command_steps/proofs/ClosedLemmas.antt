-- When a proof is closed.
use Rattle.std.proofs.Common.{◌≡◌, Bool, ◌&&◌, not, is_some, refl, ap, ◌∙◌}
use Rattle.proof_state.specs.declared.levels.Levels.{Levels}
use Rattle.proof_state.specs.declared.levels.Levels.TheVariants.{Closed, Prove, State}
use Rattle.proof_state.specs.Answers.{is_closed, is_stated, open_goal}

closed_so : (l : Levels) → (not (is_some (open_goal l)) && not (is_stated l)) ≡ is_closed l
closed_so Closed = refl
closed_so (Prove goal around) = refl
closed_so (State block around) = refl

-- it is closed where no goal is open and no block is worked on
pub closed_by : (l : Levels) (proves states : Bool) → proves ≡ is_some (open_goal l) → states ≡ is_stated l → (not proves && not states) ≡ is_closed l
closed_by l proves states e f =
    ap (λ b. not b && not states) e ∙ ap (λ b. not (is_some (open_goal l)) && not b) f ∙ closed_so l
