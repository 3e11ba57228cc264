-- What is known of legal lists of a session's items.
use Rattle.std.proofs.Common.{◌≡◌, ℕ, List, reverse}
use Rattle.language.specs.Lang.{Lang}
use Rattle.session_rules.specs.declared.service.Service.TheVariants.{Workers}
use Rattle.document_session.specs.keeping_rules_below.Items.{SessionItem}
use Rattle.document_session.specs.keeping_rules_below.Legal.{AreLegal}
use Rattle.view_laws.specs.Callers.{worker_count}
use Rattle.view_laws.specs.Histories.{IsLegalLog}

module _ {S : Type 0} (l : Lang S) where
  -- such a list tells how many workers there are
  abbrev pub WorkersLaw : Type 0
  WorkersLaw = (count : ℕ) (items : List SessionItem) → AreLegal l (Workers count) items
      → worker_count (reverse items) ≡ count

  -- and is legal the other way round
  abbrev pub LegalLaw : Type 0
  LegalLaw = (count : ℕ) (items : List SessionItem) → AreLegal l (Workers count) items
      → IsLegalLog l (reverse items)
