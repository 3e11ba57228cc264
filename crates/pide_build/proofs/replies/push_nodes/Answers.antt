-- The replies of the nodes are written one after the other.
use Rattle.std.proofs.Common.{◌-◌, length, take, drop, subst, arith}
use Rattle.std.specs.List.{flat_map}
use Rattle.std.specs.Io.KnownBytes.{Appends}
use Rattle.pide_base.specs.Moves.{AppendsFront}
use Rattle.pide_build.proofs.Written.{IsWritten, front_written, one_written}
use Rattle.pide_build.proofs.Nodes.{first_node}
use Rattle.pide_build.proofs.replies.push_nodes.Goals as goal

pub returns-in_err-push_bytes-clause-front : goal.returns-in_err-push_bytes-clause-front
returns-in_err-push_bytes-clause-front g c =
    let first = g.K.Sink.contents c.args.sink.now in let held = g.K.Sink.contents c.nodes.sink in
    let held' = g.K.Sink.contents c.push_bytes.new.sink in
    let rest = c.nodes.rest.now in let reply = c.reply-item.result in let all = flat_map (λ one. one.bytes) c.args.all.now in
    let more = flat_map (λ one. one.bytes) (take (length rest - 1) (drop 1 rest)) in
    let way = subst (λ bytes. IsWritten first held bytes all) (first_node rest reply c.in-len1-up.len_at_least c.reply-item.is) c.nodes.invariant.0 in
    front_written first held held' reply.bytes more all way
    (subst (AppendsFront held held') c.as_slice.ensures c.push_bytes.ensures.front)

pub nodes-preserved : goal.nodes-preserved
nodes-preserved g c =
    let first = g.K.Sink.contents c.args.sink.now in let held = g.K.Sink.contents c.nodes.sink in
    let held' = g.K.Sink.contents c.push_bytes.new.sink in
    let rest = c.nodes.rest.now in let reply = c.reply-item.result in let all = flat_map (λ one. one.bytes) c.args.all.now in
    let more = flat_map (λ one. one.bytes) (take (length rest - 1) (drop 1 rest)) in
    let way = subst (λ bytes. IsWritten first held bytes all) (first_node rest reply c.in-len1-up.len_at_least c.reply-item.is) c.nodes.invariant.0 in (
      one_written first held held' reply.bytes more all way (subst (Appends held held') c.as_slice.ensures c.in_ok-push_bytes.ensures.ok),
      let before = c.nodes.invariant.1 in let after = c.push_bytes.ensures.steady in omega arith,
    )
