-- What a message asks, or the first reason for which it is refused.
use Rattle.std.specs.Prelude.{ℕ, Bool, true, ◌&&◌, if◌then◌else◌, List, [], ◌∷◌, length, drop, map, Option, Some, None, Result, Ok, Err}
use Rattle.std.specs.Str.{is_utf8}
use Rattle.yxml.specs.declared.tree.Tree.{Tree}
use Rattle.yxml.specs.Answer.{body_in}
use Rattle.yxml.specs.declared.fault.YxmlFault.{YxmlFault}
use Rattle.message_values.specs.Each.{◌>>=◌}
use Rattle.message_values.specs.Numbers.{number_of}
use Rattle.message_values.specs.Shapes.{items_in}
use Rattle.message_values.specs.Texts.{scalars_of}
use Rattle.message_values.specs.Words.{id_of, id_in, name_of, edit_in}
use Rattle.message_values.specs.declared.editor_message.EditorMessage.{EditorMessage}
use Rattle.message_values.specs.declared.editor_message.EditorMessage.TheVariants as asks
use Rattle.message_values.specs.declared.function.Function.{Function}
use Rattle.message_values.specs.declared.function.Function.TheVariants.{Update, Snapshot, Cancel, RemoveVersions, Settle, Protocol, Claim, Finish, Theory}
use Rattle.message_values.specs.declared.item.BlobChange.{BlobChange}
use Rattle.message_values.specs.declared.mode.Mode.{Mode}
use Rattle.message_values.specs.declared.refusal.Refusal.{Refusal}
use Rattle.message_values.specs.declared.refusal.Refusal.TheVariants.{UnknownFunction, ArgumentCount, BadUtf8, BadYxml, BadData}
use Rattle.message_values.specs.Functions.{function_named, takes}
use Rattle.message_values.specs.Items.{item_in, blob_in}
use Rattle.message_values.specs.Protocols.{protocol_of}
use Rattle.message_values.specs.Workers.{worker_of}

-- the body, where there is no fault
abbrev pub faultless : Result (List Tree) YxmlFault → Option (List Tree)
faultless (Ok body) = Some body
faultless (Err fault) = None

-- the body that a text spells
abbrev pub spelled : List ℕ → Option (List Tree)
spelled text = faultless (body_in text)

-- there is something
abbrev pub is_there : {A : Type 0} → Option A → Bool
is_there (Some value) = true
is_there None = Bool.false

-- all say yes
abbrev pub all_yes : List Bool → Bool
all_yes [] = true
all_yes (b ∷ bs) = b && all_yes bs

-- the arguments that are data in YXML
abbrev pub data_arguments : Function → List (List ℕ) → List (List ℕ)
data_arguments Update arguments = drop 1 arguments
data_arguments Snapshot arguments = drop 2 arguments
data_arguments RemoveVersions arguments = arguments
data_arguments _ arguments = []

-- the id that an argument writes
abbrev pub id_at : List ℕ → Option ℕ
id_at text = number_of text >>= id_of

-- the blobs' changes, if they are told
abbrev pub blobs_at : List (List ℕ) → Option (List BlobChange)
blobs_at [] = Some []
blobs_at (blobs ∷ []) = spelled blobs >>= items_in blob_in
blobs_at _ = None

-- the message that the function makes of its arguments, where they have its shapes
abbrev pub message_of : Function → List (List ℕ) → Option EditorMessage
message_of Update (version ∷ items ∷ blobs) = id_at version >>= λ v.
    spelled items >>= items_in item_in >>= λ is. blobs_at blobs >>= λ bs. Some (asks.Update v is bs)
message_of Snapshot (version ∷ node ∷ edits ∷ []) = id_at version >>= λ v. name_of node >>= λ n.
    spelled edits >>= items_in edit_in >>= λ es. Some (asks.Snapshot v n es)
message_of Cancel (exec ∷ []) = id_at exec >>= λ e. Some (asks.Cancel e)
message_of RemoveVersions (versions ∷ []) =
    spelled versions >>= items_in id_in >>= λ vs. Some (asks.RemoveVersions vs)
message_of Settle (version ∷ []) = id_at version >>= λ v. Some (asks.Settle v)
message_of Protocol (number ∷ []) =
    number_of number >>= protocol_of >>= λ p. Some (asks.Protocol p)
message_of Claim (worker ∷ []) = number_of worker >>= worker_of >>= λ w. Some (asks.Claim w)
message_of Finish (worker ∷ []) = number_of worker >>= worker_of >>= λ w. Some (asks.Finish w)
message_of Theory (node ∷ text ∷ []) = name_of node >>= λ n. scalars_of text >>= λ t.
    Some (asks.Theory n t)
message_of _ arguments = None

-- what is there, or a reason
abbrev pub or_refused : {A : Type 0} → Refusal → Option A → Result A Refusal
or_refused reason (Some value) = Ok value
or_refused reason None = Err reason

-- the message of texts, of which some are data: first whether these are YXML
abbrev pub with_texts : Function → List (List ℕ) → Result EditorMessage Refusal
with_texts f texts = if all_yes (map (λ text. is_there (spelled text)) (data_arguments f texts))
    then or_refused BadData (message_of f texts) else Err BadYxml

-- the message of arguments: first how many there are, then whether these are texts
abbrev pub asked_of : Option Function → List (List ℕ) → Result EditorMessage Refusal
asked_of None arguments = Err UnknownFunction
asked_of (Some f) arguments = if takes f (length arguments)
    then (if all_yes (map is_utf8 arguments) then with_texts f arguments else Err BadUtf8)
    else Err ArgumentCount

-- what the chunks ask, or the first reason for which they are refused: an unknown function, the
-- number of arguments, UTF-8, YXML, data (the order is this project's own)
abbrev pub asked : Mode → List (List ℕ) → Result EditorMessage Refusal
asked mode [] = Err UnknownFunction
asked mode (name ∷ arguments) = asked_of (function_named mode name) arguments
