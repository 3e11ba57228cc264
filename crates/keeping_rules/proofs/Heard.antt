-- What holds of the history of a legal list.
use Rattle.std.proofs.Common.{◌≡◌, true, false, List, [], ◌∷◌, Result, Ok, Err, refl, sym, subst}
use Rattle.std.specs.Prelude.{◌&&◌}
use Rattle.pide_base.specs.declared.part.Part.{Part}
use Rattle.exec_rules.specs.declared.home.Home.{Home}
use Rattle.language.specs.Lang.{Lang}
use Rattle.message_values.specs.declared.refusal.Refusal.{Refusal}
use Rattle.core_rules.specs.declared.event.Event.{Event}
use Rattle.core_rules.specs.Doc.{doc}
use Rattle.core_rules.specs.Ready.{is_part, is_wanted, has_inputs, is_ready}
use Rattle.core_rules.specs.Standing.{standing, is_unclaimed}
use Rattle.reply_outbox.specs.declared.item.Item.TheVariants as item
use Rattle.session_rules.specs.declared.service.Service.{Service}
use Rattle.session_rules.specs.Heard.{Heard, Message, Claimed, Finished, Dropped, Ended}
use Rattle.session_rules.specs.Session.{Session, answered}
use Rattle.session_rules.specs.Accepting.{taken}
use Rattle.session_rules.specs.History.{session}
use Rattle.session_rules.specs.Legal.{IsLegal}
use Rattle.keeping_rules.specs.Items.{SessionItem, heard_in, session_in}
use Rattle.keeping_rules.specs.Legal.{AreLegal}
use Rattle.keeping_rules.specs.Unheard.{IsUnheard}

module _ {S : Type 0} (l : Lang S) where
  unready : (h : List Event) (p : Part) → (doc l h).homes ≡ [] → is_ready l h p ≡ true → ⊥
  unready h p none ready =
      let e : false ≡ true = subst (λ (hs : List Home). (is_part l hs p && (is_wanted (doc l h) p.exec
      && (is_unclaimed (standing h p) && has_inputs h hs p))) ≡ true) none ready in
      absurd (cc)

  called : (s : Session) (r : Result Session Refusal) → (answered s r).called ≡ false → ⊥
  called s (Ok after) e = absurd (cc)
  called s (Err reason) e = absurd (cc)

module _ {S : Type 0} (l : Lang S) (service : Service) where
  -- its history is legal
  pub heard_legal : (items : List SessionItem) → AreLegal l service items → IsLegal l service (heard_in service items)
  heard_legal [] are = absurd (are)
  heard_legal (first ∷ []) are = subst (λ (x : SessionItem). IsLegal l service (heard_in service (x ∷ []))) (sym are) tt
  heard_legal (item.Opened other ∷ before ∷ items) are = absurd (are.1)
  heard_legal (item.Made entry ∷ before ∷ items) are = (heard_legal (before ∷ items) are.0, are.1)
  heard_legal (item.Sent writer len ∷ before ∷ items) are = heard_legal (before ∷ items) are.0
  heard_legal (item.Lost writer ∷ before ∷ items) are = heard_legal (before ∷ items) are.0

  unheard_after : (h : List Heard) → IsLegal l service h → (session l service h).called ≡ false → IsUnheard l (session l service h)
  unheard_after [] legal e = record { homes = refl; idle = λ who. refl }
  unheard_after (Message read ∷ h) legal e =
      absurd (called l (session l service h) (taken l service (session l service h) read) e)
  unheard_after (Claimed who part ∷ h) legal e =
      absurd (unready l (session l service h).events part (unheard_after h legal.0 e).homes legal.1.0.2.ready)
  unheard_after (Finished who part ∷ h) legal e =
      let none = (unheard_after h legal.0 e).idle who in let holds = legal.1.0.0 in absurd (cc)
  unheard_after (Dropped who part ∷ h) legal e =
      let none = (unheard_after h legal.0 e).idle who in let holds = legal.1.0.0 in absurd (cc)
  unheard_after (Ended ∷ h) legal e =
      let before = unheard_after h legal.0 e in record { homes = before.homes; idle = before.idle }

  -- while no message came
  pub unheard : (items : List SessionItem) → AreLegal l service items → (session_in l service items).called ≡ false
      → IsUnheard l (session_in l service items)
  unheard items are = unheard_after (heard_in service items) (heard_legal items are)
