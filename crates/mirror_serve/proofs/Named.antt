-- A message that calls another function is no snapshot.
use Rattle.std.proofs.Common.{◌≡◌, ◌≢◌, ℕ, ◌≤◌, Bool, true, List, [], ◌∷◌, length, Some, Ok, arith}
use Rattle.std.specs.Prelude.{◌↔◌, bytes_eq, not}
use Rattle.std.proofs.lemmas.Slice.Eq.{bytes_eq-Decides}
use Rattle.std.specs.List.{slice_index_or}
use Rattle.message_values.specs.declared.editor_message.EditorMessage.{EditorMessage}
use Rattle.message_values.specs.declared.editor_message.EditorMessage.TheVariants as asks
use Rattle.message_values.specs.declared.function.Function.TheVariants.{Snapshot}
use Rattle.message_values.specs.declared.mode.Mode.{Mode}
use Rattle.message_values.specs.declared.mode.Mode.TheVariants.{Serve}
use Rattle.message_values.specs.Asked.{asked}
use Rattle.message_values.specs.Fits.{Fits}
use Rattle.message_values.specs.Functions.{word, function_named}
use Rattle.message_values.specs.Spelled.{IsSpelled, function_of}
use Rattle.mirror_serve.specs.Looks.{IsNoLook}

pub other_named : ((mode : Mode) (chunks : List (List ℕ)) (message : EditorMessage) → (asked mode chunks ≡ Ok message)
    ↔ (Fits message × IsSpelled message chunks × (function_named mode (word (function_of message)) ≡ Some (function_of message))))
    → (chunks : List (List ℕ)) → 1 ≤ length chunks → slice_index_or chunks 0 [] ≢ word Snapshot → IsNoLook (asked Serve chunks)
other_named law [] some other version node edits is = absurd (omega (arith, some))
other_named law (name ∷ others) some other version node edits is =
    other ((law Serve (name ∷ others) (asks.Snapshot version node edits)).0 is).1.0

-- two texts that were compared differ
pub texts_differ : (a b : List ℕ) (r : Bool) → r ≡ true → r ≡ not (bytes_eq a b) → a ≢ b
texts_differ a b r true_is is same = let equal = (bytes_eq-Decides a b).1 same in let never : ⊥ = cc in never
