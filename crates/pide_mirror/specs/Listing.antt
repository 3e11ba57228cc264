-- What a reply lists, by the places of nodes (this project's own).
use Rattle.std.specs.Prelude.{ℕ, ◌==◌, Bool, false, List, Option}
use Rattle.std.specs.Borrow.{Bor}
use Rattle.std.specs.Map.{lookup}
use Rattle.std.specs.Option.{option_copied, option_map_or}
use Rattle.doc_nodes.specs.Imports.{NodeList, place_of}
use Rattle.reply_messages.specs.declared.told.NodeRows.{NodeRows}

-- what is listed of the node at a place, in a table of lists that are lent
abbrev pub listed_at : List (ℕ × Bor NodeRows) → ℕ → Option NodeRows
listed_at listing place = option_copied (lookup (λ key. place == key) listing)

-- the list is of the node at this place
abbrev pub is_of : NodeList → ℕ → NodeRows → Bool
is_of nodes place listed = option_map_or (λ p. p == place) (place_of nodes listed.node) false
