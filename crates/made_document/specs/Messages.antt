-- The messages that make a document of so many nodes (this project's own).
use Rattle.std.specs.Prelude.{ℕ, ◌==◌, ◌%◌, Bool, true, List, [], ◌∷◌, filter, map, Some, None}
use Rattle.std.specs.List.{range_with_len}
use Rattle.text_edits.specs.declared.edit.Edit.TheVariants.{Insert}
use Rattle.message_values.specs.declared.editor_message.EditorMessage.{EditorMessage}
use Rattle.message_values.specs.declared.editor_message.EditorMessage.TheVariants as asks
use Rattle.message_values.specs.declared.item.Change.TheVariants.{Edit}
use Rattle.message_values.specs.declared.item.Item.{Item}
use Rattle.made_document.specs.Texts.{name, text, inserted, insert_place}

-- a node is made with its text, required
abbrev pub first_item : ℕ → Item
first_item number = record {
  node = name number;
  change = Edit (Insert 0 (text number) ∷ []) (Some (record { required = true; ranges = [] }));
}

-- an axiom is inserted into it
abbrev pub second_item : ℕ → Item
second_item number = record {
  node = name number;
  change = Edit (Insert (insert_place number) inserted ∷ []) None;
}

-- the nodes' numbers
abbrev pub node_numbers : ℕ → List ℕ
node_numbers count = range_with_len 1 count

-- each third node has an axiom inserted
abbrev pub is_third : ℕ → Bool
is_third number = number % 3 == 0

-- the items of both updates
abbrev pub first_items : ℕ → List Item
first_items count = map first_item (node_numbers count)

abbrev pub second_items : ℕ → List Item
second_items count = map second_item (filter is_third (node_numbers count))

-- the version that is settled
abbrev pub last_version : ℕ
last_version = 2

-- both updates, and a settle of the second's version
abbrev pub made_messages : ℕ → List EditorMessage
made_messages count = asks.Update 1 (first_items count) []
    ∷ asks.Update last_version (second_items count) [] ∷ asks.Settle last_version ∷ []
