-- What names, ids, ranges and edits are encoded as (this project's own).
use Rattle.std.specs.Prelude.{ℕ, nat_le, ◌==◌, if◌then◌else◌, List, [], ◌∷◌, Option, Some, None}
use Rattle.yxml.specs.declared.tree.Tree.{Tree}
use Rattle.pide_base.specs.NodeName.{is_node_name}
use Rattle.pide_base.specs.declared.range.Range.{Range}
use Rattle.text_edits.specs.declared.edit.Edit.{Edit}
use Rattle.text_edits.specs.declared.edit.Edit.TheVariants.{Insert, Remove}
use Rattle.message_values.specs.Each.{◌>>=◌}
use Rattle.message_values.specs.Numbers.{number_of}
use Rattle.message_values.specs.Shapes.{string_in, number_in, pair_in, variant_in}
use Rattle.message_values.specs.Texts.{scalars_of}

-- an id is 1 and up
abbrev pub id_of : ℕ → Option ℕ
id_of number = if nat_le 1 number then Some number else None

-- the id of a version, a command or an execution
abbrev pub id_in : List Tree → Option ℕ
id_in body = number_in body >>= id_of

-- a node's name
abbrev pub name_of : List ℕ → Option (List ℕ)
name_of text = if is_node_name text then Some text else None

-- the name of a node or a blob
abbrev pub name_in : List Tree → Option (List ℕ)
name_in body = string_in body >>= name_of

-- a text's scalars
abbrev pub text_in : List Tree → Option (List ℕ)
text_in body = string_in body >>= scalars_of

-- a range: the pair of its ends
abbrev pub range_in : List Tree → Option Range
range_in body = pair_in body >>= λ ends. number_in ends.0 >>= λ start. number_in ends.1 >>= λ stop.
    Some (record { start = start; stop = stop })

-- variant 0 puts in, variant 1 takes out
abbrev pub edit_of : ℕ → ℕ → List ℕ → Option Edit
edit_of kind start text = if kind == 0 then Some (Insert start text)
    else if kind == 1 then Some (Remove start text) else None

-- the one value is the start
abbrev pub start_of : List (List ℕ) → Option ℕ
start_of (start ∷ []) = number_of start
start_of _ = None

-- an edit: a variant with the start as its value, around the text
abbrev pub edit_in : List Tree → Option Edit
edit_in body = variant_in body >>= λ v. start_of v.values >>= λ start.
    text_in v.argument >>= λ text. edit_of v.index start text
