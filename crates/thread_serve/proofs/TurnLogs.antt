-- A session's items, the oldest first, after calls of the session's.
use Rattle.std.proofs.Common.{◌≡◌, List, [], ◌∷◌, ◌++◌, reverse, inl, inr, refl, sym, ap, subst, ◌∙◌}
use Rattle.std.proofs.lemmas.List.{reverse-reverse}
use mathlib.Core.List.{reverse-cons}
use Rattle.thread_serve.proofs.KnownLegal.{LegalLaw, WorkersLaw}
use Rattle.language.specs.Lang.{Lang}
use Rattle.hist_lock.specs.Entries.{Grows}
use Rattle.session_rules.specs.declared.service.Service.{Service}
use Rattle.session_rules.specs.declared.service.Service.TheVariants.{Workers}
use Rattle.session_rules.specs.Session.{Session}
use Rattle.document_session.specs.keeping_rules_below.Items.{SessionItem, session_in}
use Rattle.document_session.specs.keeping_rules_below.Legal.{AreLegal}
use Rattle.view_laws.specs.Callers.{service_of, worker_count}
use Rattle.view_laws.specs.Histories.{IsLegalLog, session_after}

-- what holds of the items holds of the list
pub on_items : (P : Service → List SessionItem → List SessionItem → Type 0) (service : Service) (old new : List SessionItem)
    → service ≡ service_of (reverse old) → P service old new → P (service_of (reverse old)) (reverse (reverse old)) (reverse (reverse new))
on_items P service old new same p =
    subst (λ s. P s (reverse (reverse old)) (reverse (reverse new))) same
    (subst (λ xs. P service xs (reverse (reverse new))) (sym (reverse-reverse old))
    (subst (λ xs. P service old xs) (sym (reverse-reverse new)) p))

pub on_log : (P : Service → List SessionItem → List SessionItem → Type 0) (service : Service) (items new log : List SessionItem)
    → reverse items ≡ log → service ≡ service_of (reverse items) → P service items new → P (service_of log) (reverse log) (reverse (reverse new))
on_log P service items new log e same p =
    subst (λ xs. P (service_of xs) (reverse xs) (reverse (reverse new))) e (on_items P service items new same p)

-- one item more
pub one_more : (x : SessionItem) (old new : List SessionItem) → new ≡ x ∷ old → reverse new ≡ reverse old ++ x ∷ []
one_more x old new is = ap (λ (xs : List SessionItem). reverse xs) is ∙ reverse-cons x old

-- a list with one item more, or the same
pub grows_by : (x : SessionItem) (items new log : List SessionItem) → reverse items ≡ log → new ≡ x ∷ items → Grows log (reverse new)
grows_by x items new log e is = inr (x, one_more x items new is ∙ ap (λ (xs : List SessionItem). xs ++ x ∷ []) e)

pub grows_not : (items new log : List SessionItem) → reverse items ≡ log → new ≡ items → Grows log (reverse new)
grows_not items new log e is = inl (ap (λ (xs : List SessionItem). reverse xs) is ∙ e)

module _ {S : Type 0} (l : Lang S) where
  -- the session after the list
  pub same_session : (service : Service) (items : List SessionItem) → service ≡ service_of (reverse items)
      → session_after l (reverse items) ≡ session_in l service items
  same_session service items same = ap (λ (xs : List SessionItem). session_in l (service_of (reverse items)) xs) (reverse-reverse items)
      ∙ ap (λ s. session_in l s items) (sym same)

  pub session_is : (service : Service) (items log : List SessionItem) → reverse items ≡ log → service ≡ service_of (reverse items)
      → session_after l log ≡ session_in l service items
  session_is service items log e same = ap (λ (xs : List SessionItem). session_after l xs) (sym e) ∙ same_session service items same

  module _ (old new : List SessionItem) (service now : Service) (same : service ≡ service_of (reverse old)) (stays : now ≡ service)
      (are : AreLegal l now new) where
    legal_so : AreLegal l (Workers (worker_count (reverse old))) new
    legal_so = subst (λ s. AreLegal l s new) (stays ∙ same) are

    -- the session is served as it was
    pub served_so : WorkersLaw l → now ≡ service_of (reverse new)
    served_so law = stays ∙ (same ∙ ap Workers (sym (law (worker_count (reverse old)) new legal_so)))

    pub legal_now : LegalLaw l → IsLegalLog l (reverse new)
    legal_now law = law (worker_count (reverse old)) new legal_so
