-- What the reader does with a part.
use Rattle.std.proofs.Common.{◌≡◌, ◌≢◌, true, false, List, [], ◌∷◌, None, inl, inr, sym, subst}
use Rattle.pide_base.specs.declared.part.Part.{Part}
use Rattle.language.specs.Lang.{Lang}
use Rattle.core_rules.specs.Ready.{first_ready, is_wanted}
use Rattle.core_rules.specs.Standing.{has_ended, held}
use Rattle.core_rules.proofs.KnownFirst.{ready_wanted}
use Rattle.reply_outbox.specs.declared.item.Item.TheVariants.{Made}
use Rattle.session_rules.specs.declared.entry.Entry.{Entry}
use Rattle.session_rules.specs.declared.entry.Entry.TheVariants as entry
use Rattle.session_rules.specs.declared.service.Service.{Service}
use Rattle.session_rules.specs.Heard.{heard}
use Rattle.session_rules.specs.Legal.{MayFollow}
use Rattle.session_rules.specs.Session.{Session, document}
use Rattle.document_session.specs.keeping_rules_below.Items.{SessionItem, heard_in, session_in}
use Rattle.document_session.specs.keeping_rules_below.Legal.{AreLegal}
use Rattle.document_session.specs.Answers.{IsIdle}

-- a part is ready, and the reader, worker 0, can take it
pub record MayWork {S : Type 0} (l : Lang S) (s : Session) : Type 0 where
  pub going : has_ended s.events ≡ false
  pub idle : held s.events 0 ≡ None
  pub ready : first_ready l s.events ≢ None

module _ {S : Type 0} (l : Lang S) (service : Service) where
  -- an entry of a legal list stands where it may
  pub legal_made : (added : Entry) (items : List SessionItem) → AreLegal l service (Made added ∷ items)
      → AreLegal l service items × MayFollow l service (heard_in service items) (heard service added)
  legal_made added [] are = absurd (cc)
  legal_made added (before ∷ items) are = are

  -- a reader that may work isn't idle
  pub never_idle : (s : Session) → MayWork l s → IsIdle l s 0 → ⊥
  never_idle s may (inl none) = may.ready none
  never_idle s may (inr (inl holds)) = holds may.idle
  never_idle s may (inr (inr ended)) = let going = may.going in absurd (cc)

  -- the part that was taken is wanted
  pub claimed_wanted : (part : Part) (old new : List SessionItem) → new ≡ Made (entry.Claimed 0 part) ∷ old → AreLegal l service new
      → is_wanted (document l (session_in l service new)) part.exec ≡ true
  claimed_wanted part old new is legal =
      let may = (legal_made (entry.Claimed 0 part) old (subst (AreLegal l service) is legal)).1 in
      let wanted : is_wanted (document l (session_in l service (Made (entry.Claimed 0 part) ∷ old))) part.exec ≡ true =
      ready_wanted l (session_in l service old).events part may.0.2 in
      subst (λ (is : List SessionItem). is_wanted (document l (session_in l service is)) part.exec ≡ true) (sym is) wanted
