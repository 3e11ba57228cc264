-- How many bytes can wait: each reply has less than 2^63.
use Rattle.std.proofs.Common.{◌≡◌, ℕ, ◌+◌, ◌*◌, ◌^◌, ◌≤◌, List, [], ◌∷◌, length, map, Vec, arith}
use Rattle.std.specs.declared.alloc.Global.{Global}
use Rattle.std.proofs.lemmas.List.Sums.{sum_by-cons}
use Rattle.reply_outbox.specs.Waiting.{bytes_waiting}

-- one reply and others have its bytes and theirs
pub first_and_rest : (reply : List ℕ) (waiting : List (List ℕ)) → bytes_waiting (reply ∷ waiting) ≡ length reply + bytes_waiting waiting
first_and_rest reply waiting = sum_by-cons (λ (one : List ℕ). length one) reply waiting

pub at_most : (replies : List (Vec ℕ Global)) → bytes_waiting (map (λ reply. reply.items) replies) ≤ length replies * 2 ^ 63
at_most [] = omega arith
at_most (reply ∷ replies) =
    let more = first_and_rest reply.items (map (λ one. one.items) replies) in
    let few = at_most replies in
    let short = reply.small in let whole = reply.ok in omega arith
