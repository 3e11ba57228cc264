-- Whether all has ended is told by the reader's own items.
use Rattle.std.proofs.Common.{◌≡◌, ◌⊎◌, true, List, [], ◌∷◌, reverse, Contains, inl, inr, refl, sym, subst, ◌∙◌}
use Rattle.std.specs.Prelude.{◌↔◌}
use Rattle.language.specs.Lang.{Lang}
use Rattle.message_values.specs.Asked.{asked}
use Rattle.core_rules.specs.Standing.{has_ended}
use Rattle.reply_outbox.specs.declared.item.Item.TheVariants as item
use Rattle.session_rules.specs.declared.entry.Entry.TheVariants as entry
use Rattle.session_rules.specs.declared.service.Service.{Service}
use Rattle.session_rules.specs.Services.{mode_of}
use Rattle.session_rules.proofs.KnownHolding.{message_goes}
use Rattle.keeping_rules.specs.Items.{SessionItem, session_in}
use Rattle.view_laws.specs.Callers.{service_of}
use Rattle.view_laws.specs.Histories.{session_after}
use Rattle.view_laws.proofs.Own.{has_cases, has_last, has_more, has_none, on_log}

module _ {S : Type 0} (l : Lang S) (service : Service) where
  abbrev HasEnded : List SessionItem → Type 0
  HasEnded items = has_ended (session_in l service items).events ≡ true

  abbrev end : SessionItem
  end = item.Made entry.Ended

  -- an item more
  stays_ended : (x : SessionItem) (items : List SessionItem) → HasEnded items → HasEnded (x ∷ items)
  stays_ended (item.Opened other) items e = e
  stays_ended (item.Sent writer len) items e = e
  stays_ended (item.Lost writer) items e = e
  stays_ended (item.Made (entry.Call message)) items e = message_goes l service (session_in l service items) (asked (mode_of service) message) ∙ e
  stays_ended (item.Made (entry.Claimed who part)) items e = e
  stays_ended (item.Made (entry.Finished who part)) items e = e
  stays_ended (item.Made (entry.Dropped who part)) items e = e
  stays_ended (item.Made entry.Ended) items e = refl

  ended_by : (items : List SessionItem) → HasEnded items → Contains (reverse items) end
  ended_by [] e = absurd (cc)
  ended_by (item.Opened other ∷ items) e = has_more (item.Opened other) end items (ended_by items e)
  ended_by (item.Sent writer len ∷ items) e = has_more (item.Sent writer len) end items (ended_by items e)
  ended_by (item.Lost writer ∷ items) e = has_more (item.Lost writer) end items (ended_by items e)
  ended_by (item.Made (entry.Call message) ∷ items) e = has_more (item.Made (entry.Call message)) end items
      (ended_by items (sym (message_goes l service (session_in l service items) (asked (mode_of service) message)) ∙ e))
  ended_by (item.Made (entry.Claimed who part) ∷ items) e = has_more (item.Made (entry.Claimed who part)) end items (ended_by items e)
  ended_by (item.Made (entry.Finished who part) ∷ items) e = has_more (item.Made (entry.Finished who part)) end items (ended_by items e)
  ended_by (item.Made (entry.Dropped who part) ∷ items) e = has_more (item.Made (entry.Dropped who part)) end items (ended_by items e)
  ended_by (item.Made entry.Ended ∷ items) e = has_last end items

  ended_of : (items : List SessionItem) → Contains (reverse items) end → HasEnded items
  ended_of [] has = absurd (has_none end has)
  ended_of (x ∷ items) has = go (ended_of items) (has_cases x end items has)
    where
      go : (Contains (reverse items) end → HasEnded items) → Contains (reverse items) end ⊎ (x ≡ end) → HasEnded (x ∷ items)
      go before (inl earlier) = stays_ended x items (before earlier)
      go before (inr is) = subst (λ y. HasEnded (y ∷ items)) (sym is) refl

pub ended_log : {S : Type 0} (l : Lang S) (log : List SessionItem)
    → (has_ended (session_after l log).events ≡ true) ↔ Contains log (item.Made entry.Ended)
ended_log l log = on_log (λ items xs. (has_ended (session_in l (service_of log) items).events ≡ true) ↔ Contains xs (item.Made entry.Ended))
    (λ items. (ended_by l (service_of log) items, ended_of l (service_of log) items)) log
