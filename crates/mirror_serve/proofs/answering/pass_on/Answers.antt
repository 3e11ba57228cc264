-- What is so behind the message, by why not all replies were heard.
use Rattle.std.proofs.Common.{◌≡◌, ◌∷◌, [], Some, refl, rules}
use Rattle.mirror_serve.specs.declared.ear.Ear.{Ear}
use Rattle.mirror_serve.specs.declared.ear.Unheard.TheVariants.{LongChunk, Fault}
use Rattle.mirror_serve.proofs.Halting.{short_ahead}
use Rattle.mirror_serve.proofs.PassedOn.{long_behind, no_fault, rests_behind}
use Rattle.mirror_serve.proofs.answering.pass_on.Goals as goal

pub returns-in_default-clause-err : goal.returns-in_default-clause-err
returns-in_default-clause-err g c = short_ahead g.L.Language.lang (g.K.Sink.contents c.args.sink.now) (g.K.Sink.faults c.args.sink.now) c.args.session.now
    (c.args.message ∷ []) c.requires.rests.session

pub unreachable-requires : goal.unreachable-requires
unreachable-requires g c =
    let is_fault : c.serve_message.new.listener.unheard ≡ Some Fault = search rules in
    let told : Ear = record c.args.ear.now { mirror = c.sent.new.self } in
    no_fault g.L.Language.lang c.mirror_laws.ensures c.args.message c.is_within_limits.ensures (g.K.Sink.contents c.args.sink.now)
    (g.K.Sink.contents c.serve_message.new.sink) c.args.session.now c.serve_message.new.session c.args.ear.now told c.serve_message.new.listener c.requires.rests refl
    c.in-Ok.ensures.sent c.in-Ok.ensures.heard c.in_ok-serve_message.ensures.ok c.in_ok-serve_message.ensures.answered c.in_ok-serve_message.ensures.heard
    is_fault

pub returns-in-None-clause-rests : goal.returns-in-None-clause-rests
returns-in-None-clause-rests g c =
    let told : Ear = record c.args.ear.now { mirror = c.sent.new.self } in
    rests_behind g.L.Language.lang c.mirror_laws.ensures c.args.message c.is_within_limits.ensures (g.K.Sink.contents c.args.sink.now)
    (g.K.Sink.contents c.serve_message.new.sink) c.args.session.now c.serve_message.new.session c.args.ear.now told c.serve_message.new.listener c.requires.rests refl
    c.in-Ok.ensures.sent c.in-Ok.ensures.heard c.in_ok-serve_message.ensures.ok c.in_ok-serve_message.ensures.answered c.in_ok-serve_message.ensures.heard
    c.in-None.is

pub returns-in-Some-LongChunk-clause-err : goal.returns-in-Some-LongChunk-clause-err
returns-in-Some-LongChunk-clause-err g c =
    let is_long : c.serve_message.new.listener.unheard ≡ Some (LongChunk c.in-Some-LongChunk.len) = search rules in
    let told : Ear = record c.args.ear.now { mirror = c.sent.new.self } in
    long_behind g.L.Language.lang c.mirror_laws.ensures c.args.message c.is_within_limits.ensures (g.K.Sink.contents c.args.sink.now)
    (g.K.Sink.contents c.serve_message.new.sink) c.args.session.now c.serve_message.new.session c.args.ear.now told c.serve_message.new.listener c.requires.rests refl
    c.in-Ok.ensures.sent c.in-Ok.ensures.heard c.in_ok-serve_message.ensures.ok c.in_ok-serve_message.ensures.answered c.in_ok-serve_message.ensures.heard
    c.end.new.self (g.K.Sink.faults c.args.sink.now) (g.K.Sink.faults c.serve_message.new.sink) c.in-Some-LongChunk.len c.requires.other
    is_long (record { service = c.end.ensures.service; items = c.end.ensures.items; legal = c.end.ensures.legal })
    c.serve_message.ensures.steady
