-- The line is judged by its numbers.
use Rattle.std.proofs.Common.{arith, Some, sym, ◌∙◌}
use Rattle.byte_message.proofs.Scanning.{judge_by}
use Rattle.byte_message.proofs.line.judge.Goals as goal

pub returns-in-Some : goal.returns-in-Some
returns-in-Some c =
    let found = c.in-Some.ensures in
    c.judge_lengths.ensures found.0 found.2
    ∙ judge_by c.args.line.now c.without_cr.result.now (Some found.0) (omega arith) c.without_cr.ensures (sym found.1)
