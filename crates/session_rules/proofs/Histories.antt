-- What holds once a message was answered, and stays while nothing else is.
use Rattle.std.proofs.Common.{◌≡◌, List, [], ◌∷◌, Result, sym, subst}
use Rattle.language.specs.Lang.{Lang}
use Rattle.message_values.specs.declared.editor_message.EditorMessage.{EditorMessage}
use Rattle.message_values.specs.declared.refusal.Refusal.{Refusal}
use Rattle.session_rules.specs.declared.service.Service.{Service}
use Rattle.session_rules.specs.Heard.{Heard, Message, Claimed, Finished, Dropped, Ended}
use Rattle.session_rules.specs.Legal.{IsLegal}
use Rattle.session_rules.specs.OneThread.{reads}

-- the entry is no message
abbrev pub IsQuiet : Heard → Type 0
IsQuiet (Message read) = ⊥
IsQuiet other = Unit {0}

module _ {S : Type 0} (l : Lang S) (service : Service) (Holds : List Heard → Type 0)
    (stays : (e : Heard) (h : List Heard) → IsQuiet e → IsLegal l service (e ∷ h) → Holds h → Holds (e ∷ h)) where
  -- what holds at first holds while no message came
  pub at_first : Holds [] → (h : List Heard) → IsLegal l service h → reads h ≡ [] → Holds h
  at_first first [] legal none = first
  at_first first (Message read ∷ h) legal none = absurd (cc)
  at_first first (Claimed who part ∷ h) legal none = stays (Claimed who part) h tt legal (at_first first h legal.0 none)
  at_first first (Finished who part ∷ h) legal none = stays (Finished who part) h tt legal (at_first first h legal.0 none)
  at_first first (Dropped who part ∷ h) legal none = stays (Dropped who part) h tt legal (at_first first h legal.0 none)
  at_first first (Ended ∷ h) legal none = stays Ended h tt legal (at_first first h legal.0 none)

  -- what holds just after a message holds until the next
  pub after_message : (read : Result EditorMessage Refusal) (more : List (Result EditorMessage Refusal))
      → ((h : List Heard) → IsLegal l service (Message read ∷ h) → reads h ≡ more → Holds (Message read ∷ h))
      → (h : List Heard) → IsLegal l service h → reads h ≡ read ∷ more → Holds h
  after_message read more begins [] legal is = absurd (cc)
  after_message read more begins (Message other ∷ h) legal is =
      let same : other ≡ read = cc in
      let rest : reads h ≡ more = cc in
      subst (λ r. Holds (Message r ∷ h)) (sym same) (begins h (subst (λ r. IsLegal l service (Message r ∷ h)) same legal) rest)
  after_message read more begins (Claimed who part ∷ h) legal is =
      stays (Claimed who part) h tt legal (after_message read more begins h legal.0 is)
  after_message read more begins (Finished who part ∷ h) legal is =
      stays (Finished who part) h tt legal (after_message read more begins h legal.0 is)
  after_message read more begins (Dropped who part ∷ h) legal is =
      stays (Dropped who part) h tt legal (after_message read more begins h legal.0 is)
  after_message read more begins (Ended ∷ h) legal is = stays Ended h tt legal (after_message read more begins h legal.0 is)
