-- A message that is served: it waits while parts are worked on, until it is answered.
use Rattle.std.proofs.Common.{◌≡◌, ℕ, false, List, ◌∷◌, Option, Some, refl, sym, ap, subst, ◌∙◌}
use Rattle.pide_base.specs.declared.part.Part.{Part}
use Rattle.exec_rules.specs.declared.version.Version.{Version}
use Rattle.language.specs.Lang.{Lang}
use Rattle.message_values.specs.Asked.{asked}
use Rattle.core_rules.specs.Ready.{first_ready}
use Rattle.core_rules.specs.Standing.{has_ended}
use Rattle.reply_outbox.specs.declared.item.Item.TheVariants.{Made}
use Rattle.reply_outbox.specs.Items.{entries, is_lost}
use Rattle.session_rules.specs.declared.entry.Entry.TheVariants as entry
use Rattle.session_rules.specs.declared.service.Service.{Service}
use Rattle.session_rules.specs.Services.{free_workers, mode_of}
use Rattle.session_rules.specs.Heard.{Heard, Claimed, Finished}
use Rattle.session_rules.specs.Alone.{IsAlone}
use Rattle.document_session.specs.keeping_rules_below.Items.{SessionItem, heard_in, session_in}
use Rattle.document_session.specs.keeping_rules_below.Legal.{AreLegal}
use Rattle.document_session.specs.Answers.{IsWaiting, TakenSo}
use Rattle.document_session.specs.declared.taking.Taken.TheVariants as taken
use Rattle.document_session.specs.Contents.{SessionState}
use Rattle.document_serve.specs.Laws.{WorkLaws}
use Rattle.document_serve.specs.Listening.{replies_sent}
use Rattle.document_serve.specs.Served.{calls_in, sent_in}
use Rattle.document_serve.specs.Going.{IsGoing, awaited_by}
use Rattle.session_rules.proofs.KnownNamed.{AskedLaw}
use Rattle.session_rules.proofs.KnownHolding.{reader_idle}
use Rattle.document_serve.proofs.KnownSent.{replies_made, sent_made}
use Rattle.session_rules.proofs.KnownStays.{awaited_stays}
use Rattle.session_rules.proofs.KnownWaited.{awaits, some_ready}
use Rattle.document_serve.proofs.Worked.{MayWork, legal_made}

module _ {S : Type 0} (l : Lang S) (laws : WorkLaws l) (law : AskedLaw) (s : SessionState) (message : List (List ℕ)) where
  abbrev past : List Heard
  past = heard_in s.service s.items

  module _ (g : IsGoing l (awaited_by l s.service past message) s) (w : IsWaiting l s.service s.items message) where
    pub waiting_alone : IsAlone l s.service (Some w.version) past
    waiting_alone = subst (λ (o : Option Version). IsAlone l s.service o past) w.waits_for g.alone

    -- the reader can work while a message waits
    pub may_work : MayWork l (session_in l s.service s.items)
    may_work = record {
      going = g.going;
      idle = reader_idle l s.service (Some w.version) past waiting_alone;
      ready = some_ready l s.service law g.nobody (entries s.items) (laws.lists.legal s.service s.items g.legal) w.version
          (awaits l s.service (session_in l s.service s.items) w.version (asked (mode_of s.service) message) w.waits_for)
          (Some w.version) waiting_alone (λ k one. laws.rests (session_in l s.service s.items).events k one (laws.events s.service s.items g.legal)) w.unsettled;
    }

    module _ (new : SessionState) (part : Part) (service : new.service ≡ s.service)
        (is : new.items ≡ Made (entry.Finished 0 part) ∷ Made (entry.Claimed 0 part) ∷ s.items) (legal : AreLegal l new.service new.items) where
      abbrev worked : List SessionItem
      worked = Made (entry.Finished 0 part) ∷ Made (entry.Claimed 0 part) ∷ s.items

      -- what holds of the list, and how the session is served
      at_new : (P : Service → List SessionItem → Type 0) → P s.service worked → P new.service new.items
      at_new P p = subst (λ (v : Service). P v new.items) (sym service) (subst (P s.service) (sym is) p)

      worked_legal : AreLegal l s.service worked
      worked_legal = subst (λ (v : Service). AreLegal l v worked) service (subst (AreLegal l new.service) is legal)

      claimed_legal : AreLegal l s.service (Made (entry.Claimed 0 part) ∷ s.items)
      claimed_legal = (legal_made l s.service (entry.Finished 0 part) (Made (entry.Claimed 0 part) ∷ s.items) worked_legal).0

      pub was_first : first_ready l (session_in l s.service s.items).events ≡ Some part
      was_first = laws.first (session_in l s.service s.items).events part (legal_made l s.service (entry.Claimed 0 part) s.items claimed_legal).1.0.2

      pub worked_calls : calls_in new.items ≡ calls_in s.items
      worked_calls = ap (λ (is : List SessionItem). calls_in is) is

      pub worked_sent : sent_in l new.service new.items ≡ sent_in l s.service s.items
      worked_sent = at_new (λ v is. sent_in l v is ≡ sent_in l s.service s.items)
          (sent_made l s.service (Made (entry.Claimed 0 part) ∷ s.items) (entry.Finished 0 part) (laws.lists.sends s.service (Made (entry.Claimed 0 part) ∷ s.items) claimed_legal)
          ∙ sent_made l s.service s.items (entry.Claimed 0 part) (laws.lists.sends s.service s.items g.legal))

      pub worked_told : replies_sent l new.service new.items ≡ replies_sent l s.service s.items
      worked_told = at_new (λ v is. replies_sent l v is ≡ replies_sent l s.service s.items)
          (replies_made l s.service (Made (entry.Claimed 0 part) ∷ s.items) (entry.Finished 0 part) (laws.lists.sends s.service (Made (entry.Claimed 0 part) ∷ s.items) claimed_legal)
          ∙ replies_made l s.service s.items (entry.Claimed 0 part) (laws.lists.sends s.service s.items g.legal))

      -- one part more is worked on
      pub worked_going : IsGoing l (awaited_by l new.service (heard_in new.service new.items) message) new
      worked_going = record {
        legal = legal;
        nobody = ap (λ (v : Service). free_workers v) service ∙ g.nobody;
        going = at_new (λ v is. has_ended (session_in l v is).events ≡ false) g.going;
        alone = at_new (λ v is. IsAlone l v (awaited_by l v (heard_in v is) message) (heard_in v is))
            (subst (λ (o : Option Version). IsAlone l s.service o (Finished 0 part ∷ Claimed 0 part ∷ past))
            (sym (awaited_stays l s.service past part (asked (mode_of s.service) message) ∙ w.waits_for))
            (refl, w.unsettled, waiting_alone));
        kept = ap (λ (is : List SessionItem). is_lost is) is ∙ g.kept;
      }

-- so can it once the message is handed back
pub may_after : {S : Type 0} (l : Lang S) (laws : WorkLaws l) (s new : SessionState) (message back : List (List ℕ))
    → IsGoing l (awaited_by l s.service (heard_in s.service s.items) message) s → new.service ≡ s.service
    → TakenSo l s.service message s.items (taken.Waits back) new.items → MayWork l (session_in l new.service new.items)
may_after l laws s new message back g service so =
    subst (λ (v : Service). MayWork l (session_in l v new.items)) (sym service)
    (subst (λ (is : List SessionItem). MayWork l (session_in l s.service is)) (sym so.1) (may_work l laws laws.asks s message g so.2))
