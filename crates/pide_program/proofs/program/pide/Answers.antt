-- Where memory is short for the words, nothing is taken or written.
use Rattle.std.proofs.Common.{ap}
use Rattle.isar_rules.specs.Isar.{isar}
use Rattle.pide_program.specs.Words.{nodes_of}
use Rattle.pide_program.proofs.Unbuilt.{nothing_built, nothing_caused}
use Rattle.pide_program.proofs.Unread.{nothing_done, nothing_made}
use Rattle.pide_program.proofs.program.pide.Goals as goal

pub returns-in-Err-clause-lines_written : goal.returns-in-Err-clause-lines_written
returns-in-Err-clause-lines_written g c taken =
    let made = c.unserved-in-Err.ensures in
    nothing_done isar _ _ _ _ _ made.status (ap g.S.Source.left made.source) (ap g.K.Sink.contents made.sink)

pub returns-in-Err-clause-replies_built : goal.returns-in-Err-clause-replies_built
returns-in-Err-clause-replies_built g c taken =
    let made = c.unserved-in-Err.ensures in
    nothing_built isar _ _ _ _ _ made.status (ap g.S.Source.left made.source) (ap g.K.Sink.contents made.sink)

pub returns-in-Err-clause-build_causes : goal.returns-in-Err-clause-build_causes
returns-in-Err-clause-build_causes g c taken =
    let made = c.unserved-in-Err.ensures in
    nothing_caused _ _ _ _ made.status (ap g.S.Source.left made.source)

pub returns-in-Err-clause-generated : goal.returns-in-Err-clause-generated
returns-in-Err-clause-generated g c taken =
    let made = c.unserved-in-Err.ensures in
    nothing_made isar (nodes_of c.args.words.now)
    (g.K.Sink.contents c.args.sink) _ _ made.status (ap g.K.Sink.contents made.sink)
