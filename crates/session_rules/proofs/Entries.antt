-- Entries are told by what was read and by the messages' chunks.
use Rattle.std.proofs.Common.{◌≡◌, ℕ, List, [], ◌∷◌, map, Result, refl, sym, ap, ◌∙◌}
use Rattle.message_values.specs.declared.editor_message.EditorMessage.{EditorMessage}
use Rattle.message_values.specs.declared.refusal.Refusal.{Refusal}
use Rattle.message_values.specs.Asked.{asked}
use Rattle.session_rules.specs.declared.entry.Entry.{Entry}
use Rattle.session_rules.specs.declared.entry.Entry.TheVariants as entry
use Rattle.session_rules.specs.declared.service.Service.{Service}
use Rattle.session_rules.specs.Services.{mode_of}
use Rattle.session_rules.specs.Heard.{Heard, Message, Claimed, Finished, Dropped, Ended, all_heard}
use Rattle.session_rules.specs.OneThread.{reads}
use Rattle.session_rules.specs.Runs.{called}

-- entries of a history, with these chunks of its messages
abbrev entries_of : List Heard → List (List (List ℕ)) → List Entry
entries_of [] ms = []
entries_of (Message read ∷ h) [] = []
entries_of (Message read ∷ h) (m ∷ ms) = entry.Call m ∷ entries_of h ms
entries_of (Claimed who p ∷ h) ms = entry.Claimed who p ∷ entries_of h ms
entries_of (Finished who p ∷ h) ms = entry.Finished who p ∷ entries_of h ms
entries_of (Dropped who p ∷ h) ms = entry.Dropped who p ∷ entries_of h ms
entries_of (Ended ∷ h) ms = entry.Ended ∷ entries_of h ms

module _ (service : Service) where
  rebuilt : (es : List Entry) → entries_of (all_heard service es) (called es) ≡ es
  rebuilt [] = refl
  rebuilt (entry.Call m ∷ es) = ap (λ (xs : List Entry). entry.Call m ∷ xs) (rebuilt es)
  rebuilt (entry.Claimed who p ∷ es) = ap (λ (xs : List Entry). entry.Claimed who p ∷ xs) (rebuilt es)
  rebuilt (entry.Finished who p ∷ es) = ap (λ (xs : List Entry). entry.Finished who p ∷ xs) (rebuilt es)
  rebuilt (entry.Dropped who p ∷ es) = ap (λ (xs : List Entry). entry.Dropped who p ∷ xs) (rebuilt es)
  rebuilt (entry.Ended ∷ es) = ap (λ (xs : List Entry). entry.Ended ∷ xs) (rebuilt es)

  -- the same history with the same messages
  pub same_entries : (es fs : List Entry) → all_heard service es ≡ all_heard service fs → called es ≡ called fs → es ≡ fs
  same_entries es fs heard calls = sym (rebuilt es) ∙ ap (λ (h : List Heard). entries_of h (called es)) heard
      ∙ ap (entries_of (all_heard service fs)) calls ∙ rebuilt fs

  -- what was read is what the chunks ask
  pub reads_are : (es : List Entry) → reads (all_heard service es) ≡ map (asked (mode_of service)) (called es)
  reads_are [] = refl
  reads_are (entry.Call m ∷ es) = ap (λ (rs : List (Result EditorMessage Refusal)). asked (mode_of service) m ∷ rs) (reads_are es)
  reads_are (entry.Claimed who p ∷ es) = reads_are es
  reads_are (entry.Finished who p ∷ es) = reads_are es
  reads_are (entry.Dropped who p ∷ es) = reads_are es
  reads_are (entry.Ended ∷ es) = reads_are es
