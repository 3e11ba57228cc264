-- Texts written piece by piece.
use Rattle.std.proofs.Common.{◌≡◌, ℕ, ◌+◌, List, ◌++◌, ◌∙◌, Result, Ok, Err, OnOk, is_ok, if◌then◌else◌}

-- what a last piece leaves, where it was added
pub last_piece : {T E : Type 0} (r : Result T E) (new old piece all : List ℕ)
    → new ≡ (if is_ok r then old ++ piece else old) → old ++ piece ≡ all → OnOk r (new ≡ all)
last_piece (Ok x) new old piece all e f = e ∙ f
last_piece (Err x) new old piece all e f = tt
