-- What an update prepares, or why it is refused, limits included (this project's own).
use Rattle.std.specs.Prelude.{ℕ, ◌+◌, Bool, ◌||◌, nat_lt, if◌then◌else◌, List, [], length, Result, Ok, Err}
use Rattle.std.specs.List.{list_any}
use Rattle.pide_base.specs.Ids.{id_end}
use Rattle.pide_base.specs.Limits.{most_nodes, most_scalars, most_live}
use Rattle.doc_nodes.specs.Imports.{NodeList}
use Rattle.message_values.specs.declared.refusal.Refusal.{Refusal}
use Rattle.message_values.specs.declared.refusal.Refusal.TheVariants.{Limit}
use Rattle.buffer_rules.specs.declared.sheet.Document.{Document}
use Rattle.buffer_rules.specs.Trying.{◌>>=◌}
use Rattle.buffer_rules.specs.Updates.{Asked, document_after}
use Rattle.buffer_rules.specs.Nodes.{Numbered, nodes_after}

-- the buffer: the document, the nodes of the newest version, and the next command id
pub record Buffer : Type 0 where
  pub document : Document
  pub nodes : NodeList
  pub next : ℕ

-- a text is too long
abbrev pub is_long : List ℕ → Bool
is_long text = nat_lt most_scalars (length text)

-- the document has too many nodes or blobs, or too long a text
abbrev pub is_large : Document → Bool
is_large document = nat_lt most_nodes (length document.sheets)
    || nat_lt most_nodes (length document.blobs)
    || list_any (λ pair. is_long pair.1.text) document.sheets
    || list_any (λ pair. is_long pair.1) document.blobs

-- the buffer after an update to a document, unless a limit would be passed: that of the document,
-- that of the live versions, of which there are so many before it, or that of ids
abbrev pub within_limits : ℕ → Document → Numbered → Result Buffer Refusal
within_limits live document numbered =
    if is_large document || nat_lt most_live (live + 1) || nat_lt id_end numbered.next
    then Err Limit
    else Ok (record { document = document; nodes = numbered.nodes; next = numbered.next })

-- what an update prepares where so many versions are live
abbrev pub prepared : Buffer → ℕ → Asked → Result Buffer Refusal
prepared buffer live asked = document_after asked buffer.document >>= λ document.
    within_limits live document (nodes_after buffer.nodes document.sheets buffer.next)

-- the buffer before any update
abbrev pub empty_buffer : Buffer
empty_buffer = record { document = record { sheets = []; blobs = [] }; nodes = []; next = 1 }
