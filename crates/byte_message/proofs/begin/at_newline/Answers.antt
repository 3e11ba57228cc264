-- The line is the bytes kept and those of the piece up to the newline.
use Rattle.std.proofs.Common.{◌≡◌, arith, take, drop, ◌∷◌, [], ◌++◌, ◌+◌, Ok, ap, sym, ◌∙◌, append_assoc}
use Rattle.byte_message.specs.Line.{judge}
use Rattle.byte_message.proofs.Newlines.{headed, at_fault, line_end}
use Rattle.byte_message.proofs.Fitting.{judge-small}
use Rattle.byte_message.proofs.begin.at_newline.Goals as goal

pub chunks_after-requires-clause-headed : goal.chunks_after-requires-clause-headed
chunks_after-requires-clause-headed c = λ body.
    let head = c.args.head.now in
    let piece = c.args.piece.now in
    let used = c.args.used in
    let fit : judge (head ++ take used piece) ≡ Ok c.in-Ok.lengths = sym c.in_ok-fault.ensures ∙ c.in-Ok.is in
    let end = line_end piece (drop (used + 1) piece) used (omega arith) c.requires.line c.requires.after in
    let line : head ++ take (used + 1) piece ≡ (head ++ take used piece) ++ 10 ∷ []
    = ap (λ x. head ++ x) end ∙ sym (append_assoc head (take used piece) (10 ∷ [])) in
    rw line (headed head piece c.in-Ok.lengths used c.requires.head c.requires.line fit body)

pub chunks_after-requires-clause-small : goal.chunks_after-requires-clause-small
chunks_after-requires-clause-small c =
    judge-small (c.args.head.now ++ take c.args.used c.args.piece.now) c.in-Ok.lengths (sym c.in_ok-fault.ensures ∙ c.in-Ok.is)

pub returns-in-Err : goal.returns-in-Err
returns-in-Err c =
    at_fault c.args.head.now c.args.piece.now c.args.used c.in-Err.fault c.requires.head c.requires.line c.requires.after
    (sym c.in_ok-fault.ensures ∙ c.in-Err.is)
