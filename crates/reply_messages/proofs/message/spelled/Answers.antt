-- The line stands before the chunks.
use Rattle.std.proofs.Common.{◌++◌, map, length, string_bytes, ap, ◌∙◌}
use Rattle.reply_messages.specs.Chunks.{chunk_bytes}
use Rattle.reply_messages.proofs.Messages.{message_is}
use Rattle.reply_messages.proofs.message.spelled.Goals as goal

pub returns : goal.returns
returns c =
    let sizes = map (λ chunk. length (chunk_bytes chunk)) c.args.chunks.now in
    ap (λ v. v.items) c.into_bytes.ensures.value
    ∙ message_is c.args.chunks.now (string_bytes c.new-text.result) (string_bytes c.put_chunks.new.out) c.as_slice.result.now c.as_str.result.now
    (string_bytes c.insert_str.new.self) c.new-text.ensures.bytes c.in_ok-put_chunks.ensures.bytes
    (c.as_slice.ensures.value ∙ c.in_ok-put_chunks.ensures.lengths ∙ ap (λ ns. ns ++ sizes) c.new-lengths.ensures.items)
    (c.as_str.ensures.value ∙ c.in_ok-line.ensures) c.in_ok-insert_str.ensures.bytes
