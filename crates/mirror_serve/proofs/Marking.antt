-- The reply to a snapshot, from what is seen and from the text.
use Rattle.std.proofs.Common.{◌≡◌, ℕ, List, Result, Ok, Err, refl, ap}
use Rattle.text_edits.specs.declared.edit.Edit.{Edit}
use Rattle.message_values.specs.declared.protocol.Protocol.{Protocol}
use Rattle.message_values.specs.declared.refusal.Refusal.{Refusal}
use Rattle.buffer_rules.specs.Trying.{◌>>=◌}
use Rattle.reply_messages.specs.declared.told.Told.{Told}
use Rattle.document_session.specs.session_replies_below.Spelling.{reply_spelling}
use Rattle.mirror_rules.specs.Images.{Mirror}
use Rattle.mirror_rules.specs.Looking.{View, view_in}
use Rattle.mirror_serve.specs.Looks.{in_bytes, markup_in, markup_told, text_in}

module _ (protocol : Protocol) (version : ℕ) (name : List ℕ) (edits : List Edit) (m : Mirror) where
  -- it is markup
  pub markup_is : (told : Told) → markup_in protocol version name edits m ≡ Ok told
      → (view : View) × (text : List ℕ) × (told ≡ markup_told protocol version name view text)
  markup_is told = go (view_in m version name edits) (text_in version name edits m)
    where
      go : (v : Result View Refusal) (t : Result (List ℕ) Refusal) → (v >>= λ view. t >>= λ text. Ok (markup_told protocol version name view text)) ≡ Ok told
          → (view : View) × (text : List ℕ) × (told ≡ markup_told protocol version name view text)
      go (Ok view) (Ok text) is = (view, text, let same : told ≡ markup_told protocol version name view text = cc in same)
      go (Ok view) (Err reason) is = let no : ⊥ = cc in absurd no
      go (Err reason) t is = let no : ⊥ = cc in absurd no

-- a reply whose bytes are told, or a refusal
pub reply_told : (r : Result Told Refusal) (bytes : List ℕ) → in_bytes r ≡ Ok bytes
    → (told : Told) × (r ≡ Ok told) × (reply_spelling told ≡ bytes)
reply_told (Ok told) bytes is = let same : reply_spelling told ≡ bytes = cc in (told, refl, same)
reply_told (Err reason) bytes is = let no : ⊥ = cc in absurd no

pub reply_refused : (r : Result Told Refusal) (reason : Refusal) → in_bytes r ≡ Err reason → r ≡ Err reason
reply_refused (Ok told) reason is = let no : ⊥ = cc in absurd no
reply_refused (Err why) reason is = let same : why ≡ reason = cc in ap (λ x. Err x) same
