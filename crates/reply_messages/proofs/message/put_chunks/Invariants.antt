-- What is written, and what is left, are all the chunks; so are their lengths.
use Rattle.std.proofs.Common.{◌≡◌, ◌++◌, string_bytes, drop, map, length}
use Rattle.std.specs.List.{concat}
use Rattle.reply_messages.specs.Chunks.{chunk_bytes}
use Rattle.reply_messages.proofs.message.put_chunks.Given as goal

abbrev pub invariant-chunks : goal.invariant-chunks
invariant-chunks l = record {
  bytes : string_bytes l.out ++ concat (map chunk_bytes (drop l.chunk-index l.chunks))
      ≡ string_bytes l.initial.out ++ concat (map chunk_bytes l.chunks);
  lengths : l.lengths.items ++ map (λ chunk. length (chunk_bytes chunk)) (drop l.chunk-index l.chunks)
      ≡ l.initial.lengths.items ++ map (λ chunk. length (chunk_bytes chunk)) l.chunks;
}
