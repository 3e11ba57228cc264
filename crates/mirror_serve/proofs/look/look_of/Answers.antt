-- Another function's message is no snapshot.
use Rattle.std.proofs.Common.{sym, ◌∙◌}
use Rattle.mirror_serve.proofs.Named.{other_named, texts_differ}
use Rattle.mirror_serve.proofs.look.look_of.Goals as goal

pub returns-then-ne : goal.returns-then-ne
returns-then-ne c = other_named c.a_message_is_asked_where_it_is_spelled.ensures c.args.message.now c.is_within_limits.ensures.some
    (λ is. texts_differ c.chunk.result.now c.as_bytes.result.now c.ne.result c.if-ne.true c.ne.ensures
    (c.chunk.ensures ∙ is ∙ sym c.word.ensures ∙ sym c.as_bytes.ensures.value))
