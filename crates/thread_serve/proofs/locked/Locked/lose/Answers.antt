-- The loss of the sink is one item more.
use Rattle.std.proofs.Common.{ap}
use Rattle.reply_outbox.specs.declared.item.Item.TheVariants as item
use Rattle.document_session.specs.keeping_rules_below.Items.{writer_of}
use Rattle.thread_serve.specs.Contents.{SharedState}
use Rattle.thread_serve.proofs.TurnLogs.{grows_by}
use Rattle.thread_serve.proofs.locked.Locked.lose.Goals as goal

pub returns-clause-adds : goal.returns-clause-adds
returns-clause-adds g c = grows_by (item.Lost (writer_of c.self.inside.session.service)) c.self.inside.session.items c.lose.new.self.items
    c.args.self.now.log (ap (λ (s : SharedState). s.log) c.self.view_is) c.lose.ensures.items
