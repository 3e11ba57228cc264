use Rattle.std.proofs.Common.{◌≡◌, ◌++◌, List, ℕ, length}
use Rattle.message_input.proofs.piece.answer_whole.Given as goal

-- the messages before those that wait are answered; nothing else of the decoder has changed
abbrev pub invariant-messages : goal.invariant-messages
invariant-messages g l =
    ((answered : List (List (List ℕ))) × (l.fn.frames.waiting ≡ answered ++ l.frames.waiting)
    × g.A.Answering.goes l.fn.answering answered l.answering)
    × (l.frames ≡ record l.fn.frames { waiting = l.frames.waiting })

abbrev pub decreases-messages : goal.decreases-messages
decreases-messages g l = length l.frames.waiting
