-- What is answered of a node (this project's own).
use Rattle.std.specs.Prelude.{◌≡◌, ℕ, List, map, Option, Result, Ok, Err, ⊤}
use Rattle.std.specs.Option.{option_map}
use Rattle.text_edits.specs.declared.edit.Edit.{Edit}
use Rattle.snapshots.specs.declared.content.Snapshot.{Snapshot}
use Rattle.snapshots.specs.Seen.{seen}
use Rattle.doc_nodes.specs.Imports.{place_of}
use Rattle.core_tables.specs.Live.{version_of}
use Rattle.message_values.specs.declared.refusal.Refusal.{Refusal}
use Rattle.message_values.specs.declared.refusal.Refusal.TheVariants.{UnknownVersion, UnknownNode}
use Rattle.message_values.specs.Asked.{or_refused}
use Rattle.buffer_rules.specs.Trying.{◌>>=◌}
use Rattle.buffer_rules.specs.Texts.{edit_all}
use Rattle.core_rules.specs.Shown.{PartShown}
use Rattle.mirror_rules.specs.Images.{Image, Mirror}
use Rattle.mirror_rules.specs.Looking.{View, text_at, view_of}
use Rattle.mirror_rules.specs.Moves.{Reflection, Going, Faulted}
use Rattle.mirror_rules.specs.Parts.{node_parts}
use Rattle.pide_mirror.specs.NodeParts.{as_shown}
use Rattle.pide_mirror.specs.declared.parts.NodeParts.{NodeParts}
use Rattle.pide_mirror.specs.declared.look_error.LookError.{LookError}
use Rattle.pide_mirror.specs.declared.look_error.LookError.TheVariants as look

-- a node's text and the parts of its commands
abbrev pub NodeShown : Type 0
NodeShown = List ℕ × List PartShown

-- the same as it is answered
abbrev pub as_node : NodeParts → NodeShown
as_node node = (node.text.now, map as_shown node.parts)

-- the node of a name in a version
abbrev pub node_of : Image → List ℕ → Option NodeShown
node_of image name =
    option_map (λ p. (text_at image.nodes p, node_parts image p)) (place_of image.nodes name)

-- the same in the live version of a number, or why there is none
abbrev pub node_in : ℕ → List ℕ → Mirror → Result NodeShown Refusal
node_in version name m = or_refused UnknownVersion (version_of m.live version) >>= λ image.
    or_refused UnknownNode (node_of image name)

-- what is seen of a node, where its text takes the edits
abbrev pub node_view : List Edit → NodeShown → Result View Refusal
node_view edits node = edit_all edits node.0 >>= λ text. Ok (view_of node.1 edits)

-- a snapshot, as it is seen
abbrev pub as_view : Snapshot → View
as_view shot = record {
  reports = map seen shot.reports.items;
  pending = shot.pending.items;
  outdated = shot.outdated;
}

-- the error is why there is nothing to answer, unless memory ran out
abbrev pub TellsWhy : {B : Type 0} → Result B Refusal → LookError → Type 0
TellsWhy asked (look.Refused reason) = asked ≡ Err reason
TellsWhy asked look.NoMemory = ⊤
TellsWhy asked (look.Fault fault) = ⊥

-- what is asked for is answered, or why it isn't there
abbrev pub Answers : {A B : Type 0} → (A → B) → Result B Refusal → Result A LookError → Type 0
Answers told asked (Ok answer) = asked ≡ Ok (told answer)
Answers told asked (Err error) = TellsWhy asked error

-- what is asked for of all that is known is answered, or the fault behind which nothing is known
abbrev pub LooksSo : {A B : Type 0} → (A → B) → (Mirror → Result B Refusal) → Reflection
    → Result A LookError → Type 0
LooksSo told asked (Going m) result = Answers told (asked m) result
LooksSo told asked (Faulted fault) result = result ≡ Err (look.Fault fault)

-- a step can be made, or it is told why not
abbrev pub TriedSo : {A : Type 0} → Result A Refusal → Result (Unit {0}) LookError → Type 0
TriedSo {A} step (Ok done) = (made : A) × (step ≡ Ok made)
TriedSo step (Err error) = TellsWhy step error
