-- How many messages moves heard, and which is the last.
use Rattle.std.proofs.Common.{◌≡◌, ℕ, List, [], ◌∷◌, ◌++◌, length, sym, ap, arith, ◌+◌}
use Rattle.std.proofs.lemmas.List.{length-append}
use Rattle.mirror_rules.specs.Moves.{Move, Sent, Heard, Broken}
use Rattle.editor_laws.proofs.KnownReadings.{HeardAs}

-- each message that was heard is one move
pub heard_count : (moves : List Move) (messages : List (List (List ℕ))) → HeardAs moves messages → length moves ≡ length messages
heard_count [] messages heard_as = sym (ap length heard_as)
heard_count (Sent read ∷ moves) messages heard_as = absurd heard_as
heard_count (Broken fault ∷ moves) messages heard_as = absurd heard_as
heard_count (Heard at reply ∷ moves) messages (before, message, split, finds, older) =
    let one : length (before ++ message ∷ []) ≡ length before + 1 = length-append before (message ∷ []) in
    let rest = heard_count moves before older in
    let all : length messages ≡ length (before ++ message ∷ []) = ap length split in
    omega (arith, one, rest, all)

pub last_one : (xs ys : List (List (List ℕ))) (x y : List (List ℕ)) → xs ++ x ∷ [] ≡ ys ++ y ∷ [] → length xs ≡ length ys → x ≡ y
last_one [] [] x y e n = cc
last_one [] (z ∷ ys) x y e n = absurd (omega (arith, n))
last_one (z ∷ xs) [] x y e n = absurd (omega (arith, n))
last_one (z ∷ xs) (w ∷ ys) x y e n =
    let rest : xs ++ x ∷ [] ≡ ys ++ y ∷ [] = cc in
    last_one xs ys x y rest (omega (arith, n))
