-- Whether the sink is lost is told by the writer's own items.
use Rattle.std.proofs.Common.{◌≡◌, ◌⊎◌, ℕ, ◌+◌, true, false, List, [], ◌∷◌, reverse, Contains, inl, inr, refl, sym, ap, subst, ◌∙◌}
use Rattle.std.specs.Prelude.{◌↔◌}
use Rattle.language.specs.Lang.{Lang}
use Rattle.reply_outbox.specs.declared.item.Item.TheVariants as item
use Rattle.reply_outbox.specs.Items.{is_lost}
use Rattle.reply_outbox.proofs.KnownLost.{stays_lost}
use Rattle.session_rules.specs.declared.service.Service.{Service}
use Rattle.session_rules.specs.declared.service.Service.TheVariants.{Workers}
use Rattle.keeping_rules.specs.Items.{SessionItem}
use Rattle.keeping_rules.specs.Legal.{AreLegal, MayStand}
use Rattle.view_laws.specs.Callers.{service_of, worker_count}
use Rattle.view_laws.specs.Histories.{IsLegalLog}
use Rattle.view_laws.proofs.Own.{has_cases, has_last, has_more, has_none, on_log}

module _ {S : Type 0} (l : Lang S) (count : ℕ) where
  abbrev service : Service
  service = Workers count

  abbrev loss : SessionItem
  loss = item.Lost (count + 1)

  lost_now : (x : SessionItem) (rest : List SessionItem) → MayStand l service rest x → is_lost (x ∷ rest) ≡ true
      → (is_lost rest ≡ true → Contains (reverse rest) loss) → Contains (reverse (x ∷ rest)) loss
  lost_now (item.Opened other) rest may e before = absurd (may)
  lost_now (item.Made entry) rest may e before = has_more (item.Made entry) loss rest (before e)
  lost_now (item.Sent writer len) rest may e before = has_more (item.Sent writer len) loss rest (before e)
  lost_now (item.Lost writer) rest may e before =
      subst (λ w. Contains (reverse (item.Lost w ∷ rest)) loss) (sym may.0) (has_last loss rest)

  lost_by : (items : List SessionItem) → AreLegal l service items → is_lost items ≡ true → Contains (reverse items) loss
  lost_by [] are e = absurd (are)
  lost_by (oldest ∷ []) are e =
      let no : false ≡ true = ap (λ (x : SessionItem). is_lost (x ∷ [])) (sym are) ∙ e in absurd (cc)
  lost_by (newest ∷ before ∷ items) are e = lost_now newest (before ∷ items) are.1 e (lost_by (before ∷ items) are.0)

  lost_of : (items : List SessionItem) → Contains (reverse items) loss → is_lost items ≡ true
  lost_of [] has = absurd (has_none loss has)
  lost_of (x ∷ items) has = go (lost_of items) (has_cases x loss items has)
    where
      go : (Contains (reverse items) loss → is_lost items ≡ true) → Contains (reverse items) loss ⊎ (x ≡ loss) → is_lost (x ∷ items) ≡ true
      go before (inl earlier) = stays_lost x items (before earlier)
      go before (inr is) = subst (λ y. is_lost (y ∷ items) ≡ true) (sym is) refl

pub lost_log : {S : Type 0} (l : Lang S) (log : List SessionItem) → IsLegalLog l log
    → (is_lost (reverse log) ≡ true) ↔ Contains log (item.Lost (worker_count log + 1))
lost_log l log are = on_log (λ items xs. AreLegal l (service_of log) items → (is_lost items ≡ true) ↔ Contains xs (item.Lost (worker_count log + 1)))
    (λ items legal. (lost_by l (worker_count log) items legal, lost_of l (worker_count log) items)) log are
