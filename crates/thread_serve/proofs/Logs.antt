-- The items of a session that is closed, the oldest first.
use Rattle.std.proofs.Common.{◌≡◌, ℕ, List, reverse, sym, ap, subst, ◌∙◌}
use Rattle.std.proofs.lemmas.List.{reverse-reverse}
use Rattle.language.specs.Lang.{Lang}
use Rattle.session_rules.specs.declared.service.Service.{Service}
use Rattle.session_rules.specs.declared.service.Service.TheVariants.{Workers}
use Rattle.document_session.specs.keeping_rules_below.Items.{SessionItem}
use Rattle.document_session.specs.keeping_rules_below.Legal.{AreLegal}
use Rattle.document_session.specs.Contents.{SessionState}
use Rattle.view_laws.specs.Callers.{service_of, worker_count}
use Rattle.view_laws.specs.Histories.{IsLegalLog}
use Rattle.thread_serve.proofs.KnownLegal.{LegalLaw, WorkersLaw}

module _ {S : Type 0} (l : Lang S) where
  module _ (count : ℕ) (s : SessionState) (service : s.service ≡ Workers count) (legal : AreLegal l s.service s.items) where
    are : AreLegal l (Workers count) s.items
    are = subst (λ v. AreLegal l v s.items) service legal

    pub legal_log : LegalLaw l → IsLegalLog l (reverse s.items)
    legal_log law = law count s.items are

    pub count_is : WorkersLaw l → worker_count (reverse s.items) ≡ count
    count_is law = law count s.items are

    service_is : WorkersLaw l → service_of (reverse s.items) ≡ s.service
    service_is law = ap Workers (count_is law) ∙ sym service

    -- what holds by the session holds by the list, and back
    pub to_log : WorkersLaw l → (P : Service → List SessionItem → Type 0) → P s.service s.items
        → P (service_of (reverse s.items)) (reverse (reverse s.items))
    to_log law P p = subst (λ v. P v (reverse (reverse s.items))) (sym (service_is law)) (subst (P s.service) (sym (reverse-reverse s.items)) p)

    pub from_log : WorkersLaw l → (P : Service → List SessionItem → Type 0) → P (service_of (reverse s.items)) (reverse (reverse s.items))
        → P s.service s.items
    from_log law P p = subst (P s.service) (reverse-reverse s.items) (subst (λ v. P v (reverse (reverse s.items))) (service_is law) p)
