-- The end is one item more.
use Rattle.std.proofs.Common.{ap}
use Rattle.reply_outbox.specs.declared.item.Item.TheVariants as item
use Rattle.session_rules.specs.declared.entry.Entry.TheVariants as entry
use Rattle.thread_serve.specs.Contents.{SharedState}
use Rattle.thread_serve.proofs.TurnLogs.{grows_by}
use Rattle.thread_serve.proofs.locked.Locked.end.Goals as goal

pub returns-clause-adds : goal.returns-clause-adds
returns-clause-adds g c = grows_by (item.Made entry.Ended) c.self.inside.session.items c.end.new.self.items c.args.self.now.log
    (ap (λ (s : SharedState). s.log) c.self.view_is) c.end.ensures.items
