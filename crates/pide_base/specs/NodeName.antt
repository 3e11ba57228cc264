-- Names of nodes.
use Rattle.std.specs.Prelude.{ℕ, Bool, ◌&&◌, nat_le, List, length}
use Rattle.text_words.specs.Identifier.{is_identifier}

-- the most characters that a node's name has (this project's own)
abbrev pub most_characters : ℕ
most_characters = 64

-- a node's name: an identifier of at most so many characters (this project's own)
abbrev pub is_node_name : List ℕ → Bool
is_node_name name = is_identifier name && nat_le (length name) most_characters
