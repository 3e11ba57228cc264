-- What stands in a message's data (this project's own, in Isabelle's encoding).
use Rattle.std.specs.Prelude.{List, [], map, option_map}
use Rattle.yxml.specs.declared.tree.Tree.{Tree}
use Rattle.xml_codec.specs.Data.{string_body, bool_body, pair_body, list_body, option_body, variant_body}
use Rattle.message_values.specs.ShapeBodies.{text_body, range_body, edit_body}
use Rattle.message_values.specs.declared.item.Perspective.{Perspective}
use Rattle.message_values.specs.declared.item.Change.{Change}
use Rattle.message_values.specs.declared.item.Change.TheVariants.{Edit, Close}
use Rattle.message_values.specs.declared.item.Item.{Item}
use Rattle.message_values.specs.declared.item.BlobChange.{BlobChange}

-- the pair of whether all is required, and the ranges
abbrev pub perspective_body : Perspective → List Tree
perspective_body p = pair_body (bool_body p.required) (list_body (map range_body p.ranges))

-- variant 0 of the edits and the perspective, if there is one; variant 1 of nothing
abbrev pub change_body : Change → List Tree
change_body (Edit edits perspective) = variant_body 0 [] (pair_body
    (list_body (map edit_body edits)) (option_body (option_map perspective_body perspective)))
change_body Close = variant_body 1 [] []

-- the pair of the node and what becomes of it
abbrev pub item_body : Item → List Tree
item_body i = pair_body (string_body i.node) (change_body i.change)

-- the pair of the blob's name and its new text, if it has one
abbrev pub blob_body : BlobChange → List Tree
blob_body b = pair_body (string_body b.name) (option_body (option_map text_body b.text))
