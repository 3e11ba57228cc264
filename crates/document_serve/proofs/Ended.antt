-- A session that has ended.
use Rattle.std.proofs.Common.{◌≡◌, ◌∷◌, List, ℕ, Option, None, true, false, length, refl, sym, ap, ◌∙◌, subst, append-nil}
use Rattle.std.specs.Io.KnownBytes.{Appends}
use Rattle.language.specs.Lang.{Lang}
use Rattle.core_rules.specs.Standing.{has_ended}
use Rattle.reply_outbox.specs.declared.item.Item.TheVariants.{Made}
use Rattle.reply_outbox.specs.Items.{is_lost}
use Rattle.session_rules.specs.declared.entry.Entry.TheVariants as entry
use Rattle.session_rules.specs.declared.service.Service.{Service}
use Rattle.session_rules.specs.Legal.{IsLegal}
use Rattle.session_rules.specs.Alone.{IsAlone}
use Rattle.document_session.specs.keeping_rules_below.Items.{SessionItem, heard_in, session_in}
use Rattle.document_session.specs.keeping_rules_below.Pieces.{pieces}
use Rattle.document_session.specs.Contents.{SessionState}
use Rattle.document_serve.specs.Laws.{ListLaws}
use Rattle.document_serve.specs.Served.{AllSent, calls_in, replies_in, sent_in}
use Rattle.document_serve.specs.Going.{IsAtRest}
use Rattle.document_serve.specs.Runs.{IsEnded}
use Rattle.document_serve.proofs.KnownSent.{sent_made, sent_whole}

module _ {S : Type 0} (l : Lang S) (laws : ListLaws l) (s t : SessionState) (e : IsEnded l s t) where
  at_end : (P : Service → List SessionItem → Type 0) → P s.service (Made entry.Ended ∷ s.items) → P t.service t.items
  at_end P p = subst (λ (v : Service). P v t.items) (sym e.service) (subst (P s.service) (sym e.items) p)

  pub ended_legal : IsLegal l t.service (heard_in t.service t.items)
  ended_legal = laws.legal t.service t.items e.legal

  pub ended_closed : has_ended (session_in l t.service t.items).events ≡ true
  ended_closed = at_end (λ v is. has_ended (session_in l v is).events ≡ true) refl

  pub ended_calls : calls_in t.items ≡ calls_in s.items
  ended_calls = ap (λ (is : List SessionItem). calls_in is) e.items

  pub ended_alone : IsAlone l s.service None (heard_in s.service s.items) → IsAlone l t.service None (heard_in t.service t.items)
  ended_alone a = at_end (λ v is. IsAlone l v None (heard_in v is)) a

  -- nothing is written for an end
  pub ended_written : (held held' : Option (List ℕ)) → IsAtRest l s → Appends held held' (sent_in l s.service s.items)
      → Appends held held' (replies_in l t.service t.items)
  ended_written held held' rests w =
      at_end (λ v is. Appends held held' (replies_in l v is))
      (subst (Appends held held') (sent_whole l s.service s.items (laws.join s.service) rests.sent ∙ sym (append-nil (replies_in l s.service s.items))) w)

  pub ended_sent : (held held' : Option (List ℕ)) → IsAtRest l s → Appends held held' (sent_in l s.service s.items)
      → Appends held held' (sent_in l t.service t.items)
  ended_sent held held' rests w = at_end (λ v is. Appends held held' (sent_in l v is))
      (subst (Appends held held') (sym (sent_made l s.service s.items entry.Ended (laws.sends s.service s.items rests.going.legal))) w)

  pub ended_kept : IsAtRest l s → (is_lost t.items ≡ false) × AllSent l t.service t.items
  ended_kept rests = (
    ap (λ (is : List SessionItem). is_lost is) e.items ∙ rests.going.kept,
    at_end (λ v is. AllSent l v is) (rests.sent ∙ ap (λ (ts : List (List ℕ)). length ts) (sym (append-nil (pieces l s.service (heard_in s.service s.items))))),
  )
