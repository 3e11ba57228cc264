-- A run that makes a document has no other status; a state of the language may go to other threads.
use denote.Param.Send.{sendable}
use Rattle.std.proofs.Common.{subst}
use Rattle.toplevel.proofs.Crossing.{crosses}
use Rattle.isar_rules.specs.Isar.{isar}
use Rattle.pide_program.specs.Generated.{IsGenerated}
use Rattle.pide_program.proofs.running.make.Goals as goal

pub returns-clause-no_read_fault : goal.returns-clause-no_read_fault
returns-clause-no_read_fault g c = λ is. subst (λ s. IsGenerated isar c.args.nodes s (g.K.Sink.contents c.args.sink) (g.K.Sink.contents c.generate-status.new.sink)) is c.generate-status.ensures.generated

pub returns-clause-no_frame : goal.returns-clause-no_frame
returns-clause-no_frame g c = λ at is. subst (λ s. IsGenerated isar c.args.nodes s (g.K.Sink.contents c.args.sink) (g.K.Sink.contents c.generate-status.new.sink)) is c.generate-status.ensures.generated

pub returns-clause-not_truncated : goal.returns-clause-not_truncated
returns-clause-not_truncated g c = λ at is. subst (λ s. IsGenerated isar c.args.nodes s (g.K.Sink.contents c.args.sink) (g.K.Sink.contents c.generate-status.new.sink)) is c.generate-status.ensures.generated

pub returns-clause-no_text : goal.returns-clause-no_text
returns-clause-no_text g c = λ at is. subst (λ s. IsGenerated isar c.args.nodes s (g.K.Sink.contents c.args.sink) (g.K.Sink.contents c.generate-status.new.sink)) is c.generate-status.ensures.generated

pub returns-clause-not_usage : goal.returns-clause-not_usage
returns-clause-not_usage g c = λ is. subst (λ s. IsGenerated isar c.args.nodes s (g.K.Sink.contents c.args.sink) (g.K.Sink.contents c.generate-status.new.sink)) is c.generate-status.ensures.generated

pub generate-status-requires-send-L-State : goal.generate-status-requires-send-L-State
generate-status-requires-send-L-State g c κs within = search (crosses, sendable)

pub generate-status-requires-sync-L-State : goal.generate-status-requires-sync-L-State
generate-status-requires-sync-L-State g c κs within = search (crosses, sendable)
