-- Where replies wait for a slow writer (this project's own).
use Rattle.std.specs.Prelude.{ℕ, ◌^◌, Bool, ◌&&◌, nat_lt, reverse}
use Rattle.reply_outbox.specs.Items.{has_sent}
use Rattle.reply_outbox.specs.Waiting.{bytes_waiting}
use Rattle.thread_serve.specs.Contents.{SharedState}

-- so many bytes may wait where a message is taken: 1 MiB
abbrev pub most_waiting : ℕ
most_waiting = 2 ^ 20

-- more wait, and the writer has begun: it took a reply
abbrev pub is_backed_up : SharedState → Bool
is_backed_up x = has_sent (reverse x.log) && nat_lt most_waiting (bytes_waiting x.waiting)
