-- Small documents, and the updates that make them (this project's own).
use Rattle.std.specs.Prelude.{ℕ, true, false, List, [], ◌∷◌, map, Option, Some, None, Result, Ok, Err}
use Rattle.pide_base.specs.declared.range.Range.{Range}
use Rattle.text_edits.specs.declared.edit.Edit.{Edit}
use Rattle.text_edits.specs.declared.edit.Edit.TheVariants.{Insert}
use Rattle.message_values.specs.declared.item.Perspective.{Perspective}
use Rattle.message_values.specs.declared.item.Change.TheVariants as change
use Rattle.message_values.specs.declared.item.Item.{Item}
use Rattle.message_values.specs.declared.refusal.Refusal.{Refusal}
use Rattle.buffer_rules.specs.Updates.{Asked}
use Rattle.buffer_rules.specs.Preparing.{Buffer, prepared}

-- a perspective under which all is wanted
abbrev pub all_wanted : Option Perspective
all_wanted = Some (record { required = true; ranges = [] })

-- the range between two places
abbrev pub range : ℕ → ℕ → Range
range start stop = record { start = start; stop = stop }

-- a perspective of this range alone
abbrev pub sees : ℕ → ℕ → Option Perspective
sees start stop = Some (record { required = false; ranges = range start stop ∷ [] })

-- an item that opens a node with a text, all of which is wanted
abbrev pub opens : List ℕ → List ℕ → Item
opens name text = record { node = name; change = change.Edit (Insert 0 text ∷ []) all_wanted }

-- an item that edits a node
abbrev pub edits : List ℕ → List Edit → Item
edits name list = record { node = name; change = change.Edit list None }

-- an item that changes what is seen of a node
abbrev pub shows : List ℕ → Option Perspective → Item
shows name told = record { node = name; change = change.Edit [] told }

-- an item that closes a node
abbrev pub closes : List ℕ → Item
closes name = record { node = name; change = change.Close }

-- an update of nodes alone
abbrev pub of : List Item → Asked
of items = record { items = items; blobs = [] }

-- the buffer after an update that is not refused
abbrev pub accepted : Buffer → Result Buffer Refusal → Buffer
accepted before (Ok after) = after
accepted before (Err refusal) = before

-- the documents after these items, or as they were where the items are refused
abbrev pub then : Buffer → List Item → Buffer
then buffer items = accepted buffer (prepared buffer 0 (of items))

-- why it is refused
abbrev pub refusal_of : Result Buffer Refusal → Option Refusal
refusal_of (Ok after) = None
refusal_of (Err refusal) = Some refusal

-- why these items are refused
abbrev pub refused : Buffer → List Item → Option Refusal
refused buffer items = refusal_of (prepared buffer 0 (of items))

-- the ids of the commands of each node
abbrev pub ids_in : Buffer → List (List ℕ × List ℕ)
ids_in buffer = map (λ pair. (pair.0, map (λ e. e.command) pair.1.entries)) buffer.nodes

-- where they stand
abbrev pub places_in : Buffer → List (List ℕ × List (ℕ × ℕ))
places_in buffer = map
    (λ pair. (pair.0, map (λ e. (e.range.start, e.range.stop)) pair.1.entries)) buffer.nodes
