-- Which items and blobs bodies encode.
use Rattle.std.specs.Prelude.{ℕ, ◌==◌, if◌then◌else◌, List, [], ◌∷◌, Option, Some, None}
use Rattle.yxml.specs.declared.tree.Tree.{Tree}
use Rattle.message_values.specs.Each.{◌>>=◌}
use Rattle.message_values.specs.Shapes.{pair_in, bool_in, variant_in, items_in, optional_in}
use Rattle.message_values.specs.Words.{name_in, text_in, range_in, edit_in}
use Rattle.message_values.specs.declared.item.Perspective.{Perspective}
use Rattle.message_values.specs.declared.item.Change.{Change}
use Rattle.message_values.specs.declared.item.Change.TheVariants.{Edit, Close}
use Rattle.message_values.specs.declared.item.Item.{Item}
use Rattle.message_values.specs.declared.item.BlobChange.{BlobChange}

-- a perspective
abbrev pub perspective_in : List Tree → Option Perspective
perspective_in body = pair_in body >>= λ p. bool_in p.0 >>= λ required.
    items_in range_in p.1 >>= λ ranges. Some (record { required = required; ranges = ranges })

-- edits and a perspective, if there is one
abbrev pub edited_in : List Tree → Option Change
edited_in body = pair_in body >>= λ p. items_in edit_in p.0 >>= λ edits.
    optional_in perspective_in p.1 >>= λ perspective. Some (Edit edits perspective)

-- nothing
abbrev pub closed_in : List Tree → Option Change
closed_in [] = Some Close
closed_in _ = None

-- variant 0 edits, variant 1 closes
abbrev pub change_of : ℕ → List (List ℕ) → List Tree → Option Change
change_of kind [] argument = if kind == 0 then edited_in argument
    else if kind == 1 then closed_in argument else None
change_of kind (value ∷ values) argument = None

-- what becomes of a node
abbrev pub change_in : List Tree → Option Change
change_in body = variant_in body >>= λ v. change_of v.index v.values v.argument

-- an item
abbrev pub item_in : List Tree → Option Item
item_in body = pair_in body >>= λ p. name_in p.0 >>= λ node. change_in p.1 >>= λ change.
    Some (record { node = node; change = change })

-- what becomes of a blob
abbrev pub blob_in : List Tree → Option BlobChange
blob_in body = pair_in body >>= λ p. name_in p.0 >>= λ name. optional_in text_in p.1 >>= λ text.
    Some (record { name = name; text = text })
