-- Beginnings of a list tell how many workers there are, and are legal.
use Rattle.std.proofs.Common.{◌≡◌, ◌≢◌, ℕ, List, [], ◌∷◌, ◌++◌, length, reverse, refl, sym, ap, subst, ◌∙◌, arith}
use Rattle.std.proofs.lemmas.List.{reverse-append, reverse-reverse, length-reverse}
use mathlib.Core.List.{IsPrefix, reverse-cons}
use Rattle.language.specs.Lang.{Lang}
use Rattle.session_rules.specs.declared.service.Service.{Service}
use Rattle.session_rules.specs.declared.service.Service.TheVariants.{Workers}
use Rattle.keeping_rules.specs.Items.{SessionItem}
use Rattle.keeping_rules.specs.Legal.{AreLegal}
use Rattle.view_laws.specs.Callers.{service_of, worker_count, workers_of}
use Rattle.view_laws.specs.Histories.{IsLegalLog}

pub workers_front : (xs ys : List SessionItem) → xs ≢ [] → worker_count (xs ++ ys) ≡ worker_count xs
workers_front [] ys some = absurd (some refl)
workers_front (x ∷ xs) ys some = refl

some_reversed : (x : SessionItem) (items : List SessionItem) → reverse (x ∷ items) ≢ []
some_reversed x items e = absurd (omega (arith, length-reverse (x ∷ items), ap (λ (xs : List SessionItem). length xs) e))

not_reversed : (xs : List SessionItem) → xs ≢ [] → reverse xs ≢ []
not_reversed [] some = absurd (some refl)
not_reversed (x ∷ xs) some = some_reversed x xs

some_more : (new items : List SessionItem) → items ≢ [] → new ++ items ≢ []
some_more [] items some = some
some_more (x ∷ new) items some = λ e. absurd (let no : ⊥ = cc in no)

-- the beginning of a list, the other way round
pub begins_reversed : (seen log : List SessionItem) (p : IsPrefix seen log) → reverse log ≡ reverse p.0 ++ reverse seen
begins_reversed seen log p = ap (λ (xs : List SessionItem). reverse xs) (sym p.1) ∙ reverse-append seen p.0

pub same_workers : (seen log : List SessionItem) → seen ≢ [] → IsPrefix seen log → worker_count log ≡ worker_count seen
same_workers seen log some p = ap worker_count (sym p.1) ∙ workers_front seen p.0 some

module _ {S : Type 0} (l : Lang S) where
  pub tells_workers : (count : ℕ) (items : List SessionItem) → AreLegal l (Workers count) items → worker_count (reverse items) ≡ count
  tells_workers count [] are = absurd (are)
  tells_workers count (oldest ∷ []) are = ap workers_of are
  tells_workers count (newest ∷ before ∷ items) are =
      ap worker_count (reverse-cons newest (before ∷ items))
      ∙ (workers_front (reverse (before ∷ items)) (newest ∷ []) (some_reversed before items)
      ∙ tells_workers count (before ∷ items) are.0)

  pub legal_log : (count : ℕ) (items : List SessionItem) → AreLegal l (Workers count) items → IsLegalLog l (reverse items)
  legal_log count items are = subst (λ n. AreLegal l (Workers n) (reverse (reverse items))) (sym (tells_workers count items are))
      (subst (AreLegal l (Workers count)) (sym (reverse-reverse items)) are)

  -- a legal list has items
  pub some_legal : (log : List SessionItem) → IsLegalLog l log → log ≢ []
  some_legal [] are = absurd (are)
  some_legal (x ∷ log) are = λ e. absurd (let no : ⊥ = cc in no)

  module _ (service : Service) where
    legal_before : (x : SessionItem) (rest : List SessionItem) → rest ≢ [] → AreLegal l service (x ∷ rest) → AreLegal l service rest
    legal_before x [] some are = absurd (some refl)
    legal_before x (y ∷ rest) some are = are.0

    legal_rest : (new items : List SessionItem) → items ≢ [] → AreLegal l service (new ++ items) → AreLegal l service items
    legal_rest [] items some are = are
    legal_rest (x ∷ new) items some are = legal_rest new items some (legal_before x (new ++ items) (some_more new items some) are)

  pub legal_begins : (seen log : List SessionItem) → seen ≢ [] → IsPrefix seen log → IsLegalLog l log → IsLegalLog l seen
  legal_begins seen log some p are = legal_rest (service_of seen) (reverse p.0) (reverse seen) (not_reversed seen some)
      (subst (AreLegal l (service_of seen)) (begins_reversed seen log p)
      (subst (λ n. AreLegal l (Workers n) (reverse log)) (same_workers seen log some p) are))
