-- The line waits behind what waited, and then a piece may be pushed.
use Rattle.std.proofs.Common.{string_bytes}
use Rattle.text_check.specs.Lines.{report_line}
use Rattle.pide_check.specs.Writing.{AreOnTheirWay}
use Rattle.pide_check.proofs.Pushing.{either, there, wait_too}
use Rattle.pide_check.proofs.lines.add_line.Goals as goal

pub returns-clause-front : goal.returns-clause-front
returns-clause-front g c first rest all way =
    let waits : AreOnTheirWay first (g.K.Sink.contents c.args.sink.now) (string_bytes c.write_line.new.out) rest all =
    rw c.in_ok-write_line.ensures (wait_too first (g.K.Sink.contents c.args.sink.now) (string_bytes c.args.text.now) (report_line c.args.report.now) rest all way) in
    either c.push_piece.result
    (λ e. there first (g.K.Sink.contents c.push_piece.new.sink) (string_bytes c.push_piece.new.text) rest all (c.push_piece.ensures.pushed e first rest all waits))
    (λ e. c.push_piece.ensures.failed e first rest all waits)
