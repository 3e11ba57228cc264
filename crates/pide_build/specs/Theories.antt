-- The theories that messages bring, and which messages are refused (this project's own).
use Rattle.std.specs.Prelude.{ℕ, ◌+◌, Bool, ◌||◌, nat_lt, if◌then◌else◌, List, [], ◌∷◌, length, is_some, Result, Ok, Err}
use Rattle.shared_map.specs.Pairs.{found}
use Rattle.shared_map.specs.Changes.{put}
use Rattle.pide_base.specs.Limits.{most_nodes, most_scalars}
use Rattle.doc_nodes.specs.Names.{in_order}
use Rattle.message_values.specs.declared.editor_message.EditorMessage.{EditorMessage}
use Rattle.message_values.specs.declared.editor_message.EditorMessage.TheVariants as asks
use Rattle.message_values.specs.declared.mode.Mode.TheVariants.{Build}
use Rattle.message_values.specs.declared.refusal.Refusal.{Refusal}
use Rattle.message_values.specs.declared.refusal.Refusal.TheVariants.{UnknownFunction, NodeTwice, Limit}
use Rattle.message_values.specs.Asked.{asked}
use Rattle.buffer_rules.specs.Trying.{◌>>=◌}

-- theories: pairs of a name and a text, in the order of names
abbrev pub TheoryList : Type 0
TheoryList = List (List ℕ × List ℕ)

-- the text is too long, or there would be too many theories
abbrev pub is_beyond : TheoryList → List ℕ → Bool
is_beyond theories text =
    nat_lt most_nodes (length theories + 1) || nat_lt most_scalars (length text)

-- the theories with one more, where none has its name
abbrev pub with_theory : List ℕ → List ℕ → TheoryList → Result TheoryList Refusal
with_theory name text theories =
    if is_some (found in_order name theories) then Err NodeTwice
    else if is_beyond theories text then Err Limit else Ok (put in_order (name, text) theories)

-- what a message that was read makes of them: in a build each brings a theory
abbrev pub with_message : EditorMessage → TheoryList → Result TheoryList Refusal
with_message (asks.Theory name text) theories = with_theory name text theories
with_message _ theories = Err UnknownFunction

-- what a message makes of them, or the first reason for which it is refused
abbrev pub next_theories : List (List ℕ) → TheoryList → Result TheoryList Refusal
next_theories message theories = asked Build message >>= λ read. with_message read theories

-- the theories after a message that makes this of them: a refused one leaves them as they are
abbrev pub kept_by : Result TheoryList Refusal → TheoryList → TheoryList
kept_by (Ok after) theories = after
kept_by (Err reason) theories = theories

-- the theories after these messages, one after the other
abbrev pub theories_after : List (List (List ℕ)) → TheoryList → TheoryList
theories_after [] theories = theories
theories_after (message ∷ messages) theories =
    theories_after messages (kept_by (next_theories message theories) theories)
