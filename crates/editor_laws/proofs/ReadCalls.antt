-- What calls ask that are byte messages.
use Rattle.std.proofs.Common.{◌≡◌, ◌↔◌, inl, inr, ℕ, ◌≤◌, List, [], ◌∷◌, length, Some, Ok, Err, Result, refl, arith}
use Rattle.std.specs.Prelude.{⊤}
use Rattle.std.specs.List.{AllByRecursion}
use Rattle.byte_message.specs.Limits.{longest_chunk}
use Rattle.byte_message.specs.Stream.{IsMessage}
use Rattle.text_edits.specs.declared.edit.Edit.{Edit}
use Rattle.message_values.specs.declared.editor_message.EditorMessage.{EditorMessage}
use Rattle.message_values.specs.declared.editor_message.EditorMessage.TheVariants as asks
use Rattle.message_values.specs.declared.mode.Mode.{Mode}
use Rattle.message_values.specs.declared.refusal.Refusal.{Refusal}
use Rattle.message_values.specs.Asked.{asked}
use Rattle.message_values.specs.Fits.{Fits}
use Rattle.message_values.specs.Functions.{function_named, word}
use Rattle.message_values.specs.Spelled.{IsSpelled, OneTells, function_of, ways}
use Rattle.session_rules.specs.declared.entry.Entry.{Entry}
use Rattle.session_rules.specs.declared.entry.Entry.TheVariants as entry
use Rattle.session_rules.specs.declared.service.Service.{Service}
use Rattle.session_rules.specs.Heard.{Heard, Message, all_heard, heard}
use Rattle.session_rules.specs.Services.{mode_of}
use Rattle.editor_laws.specs.Heard.{AreMessages, IsByteCall}
use Rattle.editor_laws.proofs.EditSizes.{sizes}
use Rattle.editor_laws.proofs.WordBytes.{spelled_sizes}

-- pending edits tell no more than a chunk has
abbrev pub IsBrief : EditorMessage → Type 0
IsBrief (asks.Snapshot version node edits) = sizes edits ≤ longest_chunk
IsBrief other = ⊤

-- what was asked has values such as there are
abbrev pub IsSound : Heard → Type 0
IsSound (Message (Ok message)) = Fits message × IsBrief message
IsSound other = ⊤

abbrev pub AskedLaw : Type 0
AskedLaw = (mode : Mode) (chunks : List (List ℕ)) (message : EditorMessage)
    → (asked mode chunks ≡ Ok message)
    ↔ (Fits message × IsSpelled message chunks × (function_named mode (word (function_of message))
    ≡ Some (function_of message)))

three_told : (version : ℕ) (node : List ℕ) (edits : List Edit) (others : List (List ℕ))
    → AllByRecursion (λ chunk. length chunk ≤ longest_chunk) others
    → OneTells (ways (asks.Snapshot version node edits)) others → sizes edits ≤ longest_chunk
three_told version node edits others short (inr none) = absurd none
three_told version node edits [] short (inl all) = absurd all
three_told version node edits (a ∷ []) short (inl all) = absurd (all.1)
three_told version node edits (a ∷ b ∷ []) short (inl all) = absurd (all.1.1)
three_told version node edits (a ∷ b ∷ c ∷ []) short (inl all) =
    let least = spelled_sizes c edits all.1.1.0 in
    let most = short.1.1.0 in omega (arith, least, most)
three_told version node edits (a ∷ b ∷ c ∷ d ∷ more) short (inl all) = absurd (all.1.1.1)

brief : (message : EditorMessage) (chunks : List (List ℕ)) → IsMessage chunks
    → IsSpelled message chunks → IsBrief message
brief (asks.Snapshot version node edits) [] is spelled = absurd spelled
brief (asks.Snapshot version node edits) (name ∷ others) is spelled =
    three_told version node edits others is.short.1 spelled.2
brief (asks.Update version items blobs) chunks is spelled = tt
brief (asks.Cancel exec) chunks is spelled = tt
brief (asks.RemoveVersions versions) chunks is spelled = tt
brief (asks.Settle version) chunks is spelled = tt
brief (asks.Protocol protocol) chunks is spelled = tt
brief (asks.Claim worker) chunks is spelled = tt
brief (asks.Finish worker) chunks is spelled = tt
brief (asks.Theory node text) chunks is spelled = tt

module _ (law : AskedLaw) (service : Service) where
  call_sound : (chunks : List (List ℕ)) → IsMessage chunks
      → IsSound (heard service (entry.Call chunks))
  call_sound chunks is = go (asked (mode_of service) chunks) refl
    where
      go : (r : Result EditorMessage Refusal) → asked (mode_of service) chunks ≡ r
          → IsSound (Message r)
      go (Err reason) e = tt
      go (Ok message) e =
          let spelled = (law (mode_of service) chunks message).0 e in
          (spelled.0, brief message chunks is spelled.1)

  one_sound : (e : Entry) → IsByteCall e → IsSound (heard service e)
  one_sound (entry.Call chunks) is = call_sound chunks is
  one_sound (entry.Claimed who part) is = tt
  one_sound (entry.Finished who part) is = tt
  one_sound (entry.Dropped who part) is = tt
  one_sound entry.Ended is = tt

  pub all_sound : (history : List Entry) → AreMessages history
      → AllByRecursion IsSound (all_heard service history)
  all_sound [] are = tt
  all_sound (e ∷ h) are = (one_sound e are.0, all_sound h are.1)
