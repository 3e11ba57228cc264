-- Which chunks spell a message.
use Rattle.std.specs.Prelude.{◌≡◌, ℕ, ◌⊎◌, true, List, [], ◌∷◌, map, decimal}
use Rattle.std.specs.List.{AllByRecursion}
use Rattle.std.specs.Str.{is_utf8, encode_utf8_all}
use Rattle.yxml.specs.declared.tree.Tree.{Tree}
use Rattle.yxml.specs.Spelling.{Spells}
use Rattle.xml_codec.specs.Data.{list_body}
use Rattle.message_values.specs.ShapeBodies.{number_body, edit_body}
use Rattle.message_values.specs.declared.editor_message.EditorMessage.{EditorMessage}
use Rattle.message_values.specs.declared.editor_message.EditorMessage.TheVariants as asks
use Rattle.message_values.specs.declared.function.Function.{Function}
use Rattle.message_values.specs.declared.function.Function.TheVariants.{Update, Snapshot, Cancel, RemoveVersions, Settle, Protocol, Claim, Finish, Theory}
use Rattle.message_values.specs.Bodies.{item_body, blob_body}
use Rattle.message_values.specs.Functions.{word}
use Rattle.message_values.specs.Protocols.{protocol_number}

-- an argument: bytes that stand for themselves, or data
pub data Argument : Type 0 where
  plain : List ℕ → Argument
  coded : List Tree → Argument

-- a list of data
abbrev pub list_of : {A : Type 0} → (A → List Tree) → List A → Argument
list_of body items = coded (list_body (map body items))

-- the function that a message calls
abbrev pub function_of : EditorMessage → Function
function_of (asks.Update version items blobs) = Update
function_of (asks.Snapshot version node edits) = Snapshot
function_of (asks.Cancel exec) = Cancel
function_of (asks.RemoveVersions versions) = RemoveVersions
function_of (asks.Settle version) = Settle
function_of (asks.Protocol protocol) = Protocol
function_of (asks.Claim worker) = Claim
function_of (asks.Finish worker) = Finish
function_of (asks.Theory node text) = Theory

-- its arguments, in each of the ways to tell them: blobs are left out where there are none
abbrev pub ways : EditorMessage → List (List Argument)
ways (asks.Update v items []) = (plain (decimal v) ∷ list_of item_body items ∷ [])
    ∷ (plain (decimal v) ∷ list_of item_body items ∷ list_of blob_body [] ∷ []) ∷ []
ways (asks.Update v items (b ∷ bs)) =
    (plain (decimal v) ∷ list_of item_body items ∷ list_of blob_body (b ∷ bs) ∷ []) ∷ []
ways (asks.Snapshot v node edits) =
    (plain (decimal v) ∷ plain node ∷ list_of edit_body edits ∷ []) ∷ []
ways (asks.Cancel exec) = (plain (decimal exec) ∷ []) ∷ []
ways (asks.RemoveVersions versions) = (list_of number_body versions ∷ []) ∷ []
ways (asks.Settle v) = (plain (decimal v) ∷ []) ∷ []
ways (asks.Protocol protocol) = (plain (decimal (protocol_number protocol)) ∷ []) ∷ []
ways (asks.Claim worker) = (plain (decimal worker) ∷ []) ∷ []
ways (asks.Finish worker) = (plain (decimal worker) ∷ []) ∷ []
ways (asks.Theory node text) = (plain node ∷ plain (encode_utf8_all text) ∷ []) ∷ []

-- the text tells the argument; data is told by each text that spells its body
abbrev pub Tells : Argument → List ℕ → Type 0
Tells (plain text) bytes = bytes ≡ text
Tells (coded body) bytes = Spells bytes body

-- each of the bytes tells its argument
abbrev pub AllTell : List Argument → List (List ℕ) → Type 0
AllTell [] [] = Unit {0}
AllTell (argument ∷ arguments) (bytes ∷ others) = Tells argument bytes × AllTell arguments others
AllTell _ _ = ⊥

-- they do in one of the ways
abbrev pub OneTells : List (List Argument) → List (List ℕ) → Type 0
OneTells [] others = ⊥
OneTells (way ∷ more) others = AllTell way others ⊎ OneTells more others

-- each of them is UTF-8 (The Unicode Standard, table 3-7)
abbrev pub AllUtf8 : List (List ℕ) → Type 0
AllUtf8 others = AllByRecursion (λ bytes. is_utf8 bytes ≡ true) others

-- the chunks spell the message: the function's name, and then its arguments as texts
abbrev pub IsSpelled : EditorMessage → List (List ℕ) → Type 0
IsSpelled message [] = ⊥
IsSpelled message (name ∷ others) =
    (name ≡ word (function_of message)) × AllUtf8 others × OneTells (ways message) others
