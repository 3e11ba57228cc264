-- Which replies of a session are heard (this project's own).
use Rattle.std.specs.Prelude.{◌≡◌, ℕ, List, ◌++◌, length, take}
use Rattle.language.specs.Lang.{Lang}
use Rattle.reply_outbox.specs.Items.{lengths_sent}
use Rattle.session_rules.specs.declared.service.Service.{Service}
use Rattle.document_session.specs.keeping_rules_below.Items.{SessionItem, heard_in}
use Rattle.document_session.specs.keeping_rules_below.Pieces.{pieces}
use Rattle.document_session.specs.Contents.{SessionState}

-- the replies that a list tells as sent, the oldest first
abbrev pub replies_sent : {S : Type 0} → Lang S → Service → List SessionItem → List (List ℕ)
replies_sent l service items =
    take (length (lengths_sent items)) (pieces l service (heard_in service items))

-- who listens heard just the replies that the other list tells as sent, and the one doesn't
pub record HearsOn {S A : Type 0} (l : Lang S) (Hears : A → List (List ℕ) → A → Type 0)
    (old new : SessionState) (before after : A) : Type 0 where
  pub heard : List (List ℕ)
  pub sent : replies_sent l new.service new.items
      ≡ replies_sent l old.service old.items ++ heard
  pub hears : Hears before heard after
