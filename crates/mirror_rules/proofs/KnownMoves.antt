-- What was heard among moves.
use Rattle.std.proofs.Common.{◌≡◌, List, [], ◌∷◌, ◌++◌, refl, ap}
use Rattle.mirror_rules.specs.Events.{heard_moves}
use Rattle.mirror_rules.specs.Moves.{Move, Sent, Heard, Broken}

-- of moves and later ones
pub heard_both : (a b : List Move) → heard_moves (a ++ b) ≡ heard_moves a ++ heard_moves b
heard_both [] b = refl
heard_both (Sent read ∷ a) b = heard_both a b
heard_both (Heard at reply ∷ a) b = ap (λ ms. Heard at reply ∷ ms) (heard_both a b)
heard_both (Broken fault ∷ a) b = ap (λ ms. Broken fault ∷ ms) (heard_both a b)
