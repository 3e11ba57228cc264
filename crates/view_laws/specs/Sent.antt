-- What the writer was handed (this project's own).
use Rattle.std.specs.Prelude.{ℕ, List, length, take}
use Rattle.std.specs.List.{flat_map}
use Rattle.language.specs.Lang.{Lang}
use Rattle.reply_outbox.specs.Items.{lengths_sent}
use Rattle.hist_lock.specs.Entries.{own}
use Rattle.keeping_rules.specs.Items.{SessionItem}
use Rattle.view_laws.specs.Callers.{whose}
use Rattle.view_laws.specs.Histories.{replies_after}

-- replies joined
abbrev pub joined_bytes : List (List ℕ) → List ℕ
joined_bytes replies = flat_map (λ bytes. bytes) replies

-- how many replies a caller was handed, by its own items
abbrev pub sent_count : List SessionItem → ℕ
sent_count mine = length (lengths_sent mine)

-- the bytes that a caller was handed: of all replies as many as it took, from the oldest on
abbrev pub bytes_sent : {S : Type 0} → Lang S → ℕ → List SessionItem → List ℕ
bytes_sent l who log = joined_bytes (take (sent_count (own whose who log)) (replies_after l log))
