-- Messages that change nothing but that they came (this project's own).
use Rattle.std.specs.Prelude.{◌≡◌, ℕ, List, [], ◌∷◌, map, Result, Ok}
use Rattle.language.specs.Lang.{Lang}
use Rattle.message_values.specs.declared.editor_message.EditorMessage.{EditorMessage}
use Rattle.message_values.specs.declared.refusal.Refusal.{Refusal}
use Rattle.session_rules.specs.declared.service.Service.{Service}
use Rattle.session_rules.specs.Session.{Session}
use Rattle.session_rules.specs.Accepting.{taken}
use Rattle.session_rules.specs.Legal.{IsSettledIn, awaited_of}
use Rattle.session_rules.specs.Replies.{told_to}
use Rattle.session_rules.specs.Steps.{Nothing, due_of}
use Rattle.session_replies.specs.Spelling.{reply_spelling}

-- what was read is accepted and changes nothing, what it waits for is settled, it calls for no
-- worker's step, and these bytes are what is told of it
pub record IsLook {S : Type 0} (l : Lang S) (service : Service) (s : Session)
    (read : Result EditorMessage Refusal) (bytes : List ℕ) : Type 0 where
  pub accepted : taken l service s read ≡ Ok s
  pub settled : IsSettledIn l s (awaited_of l service s read)
  pub told : map reply_spelling (told_to l service s read) ≡ bytes ∷ []
  pub rests : due_of l service s read ≡ Nothing
