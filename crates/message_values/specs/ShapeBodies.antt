-- What numbers, texts, ranges and edits are encoded as (this project's own, in Isabelle's
-- encoding).
use Rattle.std.specs.Prelude.{ℕ, pos, List, [], ◌∷◌, decimal}
use Rattle.std.specs.Str.{encode_utf8_all}
use Rattle.yxml.specs.declared.tree.Tree.{Tree}
use Rattle.xml_codec.specs.Data.{int_body, string_body, pair_body, variant_body}
use Rattle.pide_base.specs.declared.range.Range.{Range}
use Rattle.text_edits.specs.declared.edit.Edit.{Edit}
use Rattle.text_edits.specs.declared.edit.Edit.TheVariants.{Insert, Remove}

-- a number from 0 on; so is an id
abbrev pub number_body : ℕ → List Tree
number_body n = int_body (pos n)

-- a text of these scalars, in UTF-8
abbrev pub text_body : List ℕ → List Tree
text_body scalars = string_body (encode_utf8_all scalars)

-- the pair of the ends
abbrev pub range_body : Range → List Tree
range_body r = pair_body (number_body r.start) (number_body r.stop)

-- variant 0 or 1 with the start as its value, around the text
abbrev pub edit_body : Edit → List Tree
edit_body (Insert start text) = variant_body 0 (decimal start ∷ []) (text_body text)
edit_body (Remove start text) = variant_body 1 (decimal start ∷ []) (text_body text)
