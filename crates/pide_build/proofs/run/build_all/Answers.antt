-- What is told of the nodes that are built is what is replied.
use Rattle.std.proofs.Common.{◌≡◌, OnOk, map, sym, ap, subst, ◌∙◌}
use Rattle.std.specs.Io.KnownBytes.{Appends}
use Rattle.pide_base.specs.Moves.{AppendsFront}
use Rattle.pide_build.specs.Cutting.{AreUncut, cut_all}
use Rattle.pide_build.specs.Built.{built_of}
use Rattle.pide_build.specs.Documents.{nodes_of}
use Rattle.pide_build.specs.Replies.{build_replies}
use Rattle.pide_build.specs.Telling.{bytes_of, reply_of}
use Rattle.pide_build.proofs.Nodes.{told_so}
use Rattle.pide_build.proofs.Opened.{are_uncut, cut_so}
use Rattle.pide_build.proofs.run.build_all.Goals as goal

pub build-built-requires-after_bounds : goal.build-built-requires-after_bounds
build-built-requires-after_bounds g c κs within = subst AreUncut (sym c.in_ok-nodes.ensures) (are_uncut c.args.theories)

pub returns-clause-ok : goal.returns-clause-ok
returns-clause-ok g c =
    let l = g.L.Language.lang in let theories = c.args.theories in
    let held = g.K.Sink.contents c.args.sink.now in let held' = g.K.Sink.contents c.push_replies.new.sink in
    let built : c.deref.result.now ≡ map reply_of (built_of l (nodes_of theories)) =
    c.deref.ensures.value ∙ c.in_ok-replies.ensures.nodes
    ∙ ap (λ ns. map reply_of (built_of l ns)) (ap cut_all c.in_ok-nodes.ensures ∙ cut_so theories) in
    subst (λ bytes. OnOk c.push_replies.result (Appends held held' bytes)) (ap bytes_of built ∙ told_so (built_of l (nodes_of theories)))
    c.push_replies.ensures.ok

pub returns-clause-front : goal.returns-clause-front
returns-clause-front g c =
    let l = g.L.Language.lang in let theories = c.args.theories in
    let held = g.K.Sink.contents c.args.sink.now in let held' = g.K.Sink.contents c.push_replies.new.sink in
    let built : c.deref.result.now ≡ map reply_of (built_of l (nodes_of theories)) =
    c.deref.ensures.value ∙ c.in_ok-replies.ensures.nodes
    ∙ ap (λ ns. map reply_of (built_of l ns)) (ap cut_all c.in_ok-nodes.ensures ∙ cut_so theories) in
    subst (AppendsFront held held') (ap bytes_of built ∙ told_so (built_of l (nodes_of theories))) c.push_replies.ensures.front
