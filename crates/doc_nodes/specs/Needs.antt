-- Which blob a command asks for (this project's own).
use Rattle.std.specs.Prelude.{ℕ, Bool, ◌&&◌, if◌then◌else◌, List, [], ◌∷◌, map, codes, Option, Some, None}
use Rattle.std.specs.Option.{option_map_or, option_and_then}
use Rattle.shared_map.specs.Pairs.{found}
use Rattle.text_edits.specs.pide_base_below.NodeName.{is_node_name}
use Rattle.outer_syntax.specs.Contents.{content_of}
use Rattle.outer_syntax.specs.Headings.{proper}
use Rattle.outer_syntax.specs.Kinds.{is_command, is_string}
use Rattle.outer_syntax.specs.Lexing.{tokens_under}
use Rattle.outer_syntax.specs.Tokens.{text_of}
use Rattle.outer_syntax.specs.Words.{is_in_force}
use Rattle.outer_syntax.specs.declared.token.Token.{Token}
use Rattle.doc_nodes.specs.Names.{in_order, equal}

-- the aliases in force: pairs of a name and what it stands for
abbrev pub AliasList : Type 0
AliasList = List (List ℕ × List ℕ)

-- the command that a name stands for: an alias's target, else the name itself
abbrev pub meant : AliasList → List ℕ → List ℕ
meant aliases name = option_map_or (λ target. target) (found in_order name aliases) name

-- the proper tokens of a command's source
abbrev pub source_tokens : AliasList → List ℕ → List Token
source_tokens aliases source =
    proper (tokens_under (λ _. is_in_force (map (λ pair. pair.0) aliases)) source)

-- a content, where it is a blob's name
abbrev pub named_by : List ℕ → Option (List ℕ)
named_by content = if is_node_name content then Some content else None

-- the two tokens, where there are just two
abbrev pub just_two : List Token → Option (Token × Token)
just_two (one ∷ other ∷ []) = Some (one, other)
just_two _ = None

-- the token is a name that stands for `load`
abbrev pub is_load : AliasList → List ℕ → Token → Bool
is_load aliases source name =
    is_command name.kind && equal (meant aliases (text_of source name)) (codes "load")

-- the blob that two tokens ask for: `load` and a string that contains a blob's name
abbrev pub asked_by : List ℕ → AliasList → Token × Token → Option (List ℕ)
asked_by source aliases pair = if is_load aliases source pair.0 && is_string pair.1.kind
    then named_by (content_of pair.1.kind (text_of source pair.1)) else None

-- the name of the blob that a command asks for, by its source and the aliases in force
abbrev pub needs : List ℕ → AliasList → Option (List ℕ)
needs source aliases =
    option_and_then (asked_by source aliases) (just_two (source_tokens aliases source))
