-- Small sessions: a language whose commands are said again, and messages (this project's own).
use Rattle.std.specs.Prelude.{ℕ, List, [], ◌∷◌, codes, Ok}
use Rattle.text_edits.specs.declared.edit.Edit.{Edit}
use Rattle.message_values.specs.declared.editor_message.EditorMessage.TheVariants as asks
use Rattle.message_values.specs.declared.item.Item.{Item}
use Rattle.message_values.specs.declared.item.Change.TheVariants as change
use Rattle.buffer_laws.specs.buffer_rules_below.Examples.{all_wanted}
use Rattle.text_edits.specs.declared.edit.Edit.TheVariants.{Insert}
use Rattle.reply_messages.specs.declared.told.Told.{Told}
use Rattle.core_rules.specs.Small.{small}
use Rattle.session_rules.specs.declared.service.Service.TheVariants.{Workers, Script}
use Rattle.session_rules.specs.Heard.{Heard, Message}
use Rattle.session_rules.specs.Replies.{entry_replies}

-- a message that makes a version of these items
abbrev pub update : ℕ → List Item → Heard
update version items = Message (Ok (asks.Update version items []))

-- a message that settles a version
abbrev pub settle : ℕ → Heard
settle version = Message (Ok (asks.Settle version))

-- a message that asks for a snapshot
abbrev pub snapshot : ℕ → List ℕ → List Edit → Heard
snapshot version node edits = Message (Ok (asks.Snapshot version node edits))

-- a message that cancels an execution
abbrev pub cancel : ℕ → Heard
cancel exec = Message (Ok (asks.Cancel exec))

-- a message that removes versions
abbrev pub remove : List ℕ → Heard
remove versions = Message (Ok (asks.RemoveVersions versions))

-- a message that lets a worker claim a part
abbrev pub claim : ℕ → Heard
claim worker = Message (Ok (asks.Claim worker))

-- a message that lets a worker finish its part
abbrev pub finish : ℕ → Heard
finish worker = Message (Ok (asks.Finish worker))

-- a required node of two commands, one that is put in
abbrev pub two_commands : Item
two_commands = record {
  node = codes "A";
  change = change.Edit (Insert 0 (codes "theory A begin end") ∷ []) all_wanted;
}

-- what is told of an entry by a session without workers
abbrev pub alone : List Heard → Heard → List Told
alone h e = entry_replies small (Workers 0) h e

-- and by one that follows a script
abbrev pub scripted : List Heard → Heard → List Told
scripted h e = entry_replies small Script h e
