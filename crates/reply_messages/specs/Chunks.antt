-- The bytes of a reply's chunks.
use Rattle.std.specs.Prelude.{ℕ, List, map, decimal}
use Rattle.reply_messages.specs.declared.chunk.Chunk.{Chunk}
use Rattle.reply_messages.specs.declared.chunk.Chunk.TheVariants.{Word, Number, Execs, Versions, Nodes, Reports}
use Rattle.reply_messages.specs.Lent.{rows_of, reports_of}
use Rattle.reply_messages.specs.Replies.{ids_chunk, nodes_chunk, reports_chunk}

-- the bytes of a chunk that lends what it tells
abbrev pub chunk_bytes : Chunk → List ℕ
chunk_bytes (Word word) = word.now
chunk_bytes (Number number) = decimal number
chunk_bytes (Execs execs) = ids_chunk execs.now
chunk_bytes (Versions versions) = ids_chunk versions.now
chunk_bytes (Nodes nodes) = nodes_chunk (map rows_of nodes.now)
chunk_bytes (Reports reports) = reports_chunk (reports_of reports)
