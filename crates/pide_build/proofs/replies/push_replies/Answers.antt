-- A front of the nodes' replies, or all of them and a front of the last one.
use Rattle.std.proofs.Common.{length, sum_by, subst}
use Rattle.std.specs.List.{flat_map}
use Rattle.pide_base.specs.Moves.{AppendsFront}
use Rattle.pide_base.proofs.Known.{AppendsFront-after}
use Rattle.reply_messages.specs.declared.told.Told.TheVariants as tells
use Rattle.pide_build.specs.Replies.{spelled}
use Rattle.pide_base.proofs.Known.{front_more}
use Rattle.pide_build.proofs.replies.push_replies.Goals as goal

pub returns-in_err-push_nodes-clause-front : goal.returns-in_err-push_nodes-clause-front
returns-in_err-push_nodes-clause-front g c =
    let all = c.args.all.now in
    front_more (g.K.Sink.contents c.args.sink.now) (g.K.Sink.contents c.push_nodes.new.sink) (flat_map (λ reply. reply.bytes) all)
    (spelled (tells.Total (length all) (sum_by (λ reply. reply.errors) all))) c.push_nodes.ensures.front

pub returns-clause-front : goal.returns-clause-front
returns-clause-front g c =
    let all = c.args.all.now in
    let held = g.K.Sink.contents c.push_nodes.new.sink in let held' = g.K.Sink.contents c.push_reply.new.sink in
    AppendsFront-after (g.K.Sink.contents c.args.sink.now) held held' (flat_map (λ reply. reply.bytes) all)
    (spelled (tells.Total (length all) (sum_by (λ reply. reply.errors) all))) c.in_ok-push_nodes.ensures.ok
    (subst (λ errors. AppendsFront held held' (spelled (tells.Total (length all) errors))) c.in_ok-errors.ensures c.push_reply.ensures.front)
