-- The bytes of one reply.
use Rattle.std.specs.Prelude.{ℕ, List}
use Rattle.byte_message.specs.Stream.{plain_spelling}
use Rattle.reply_messages.specs.declared.told.Told.{Told}
use Rattle.reply_messages.specs.Replies.{reply_chunks}

-- a reply as a byte message
abbrev pub reply_spelling : Told → List ℕ
reply_spelling told = plain_spelling (reply_chunks told)
