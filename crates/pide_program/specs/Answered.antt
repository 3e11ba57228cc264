-- What is known of a session that answered messages (this project's own).
use Rattle.std.specs.Prelude.{◌≡◌, ℕ, List}
use Rattle.byte_message.specs.Stream.{Ending, IsReadAs}
use Rattle.language.specs.Lang.{Lang}
use Rattle.session_rules.specs.declared.service.Service.{Service}
use Rattle.session_rules.specs.declared.service.Service.TheVariants.{Workers}
use Rattle.session_rules.specs.Legal.{IsLegal}
use Rattle.thread_serve.specs.keeping_rules_below.Items.{heard_in}
use Rattle.session_rules.specs.OneThread.{reads}
use Rattle.thread_serve.specs.document_session_below.Contents.{SessionState}
use Rattle.thread_serve.specs.document_serve_below.Served.{calls_in}
use Rattle.session_rules.specs.Updates.{all_read}
use Rattle.made_document.specs.Summary.{made_updates}

-- the messages of these bytes were answered, by one legal history
pub record Answered {S : Type 0} (l : Lang S) (service : Service) (bytes : List ℕ)
    (s : SessionState) : Type 0 where
  pub served : s.service ≡ service
  pub legal : IsLegal l s.service (heard_in s.service s.items)
  pub ending : Ending
  pub read : IsReadAs bytes (calls_in s.items) ending

-- those that make a document of so many nodes were, beside so many workers
pub record Made {S : Type 0} (l : Lang S) (count workers : ℕ) (s : SessionState) : Type 0 where
  pub served : s.service ≡ Workers workers
  pub legal : IsLegal l (Workers workers) (heard_in (Workers workers) s.items)
  pub read : reads (heard_in (Workers workers) s.items) ≡ all_read (made_updates count)
