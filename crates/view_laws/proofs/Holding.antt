-- What a caller holds is told by its own items.
use Rattle.std.proofs.Common.{◌≡◌, ℕ, Bool, true, false, cond, List, [], ◌∷◌, ◌++◌, reverse, Option, None, refl, sym, ap, ◌∙◌}
use Rattle.std.specs.Prelude.{◌==◌}
use Rattle.std.proofs.lemmas.List.{reverse-reverse}
use Rattle.pide_base.specs.declared.part.Part.{Part}
use Rattle.language.specs.Lang.{Lang}
use Rattle.message_values.specs.Asked.{asked}
use Rattle.hist_lock.specs.Entries.{own}
use Rattle.worker_loop.specs.Held.{held_after, held_from, held_in}
use Rattle.core_rules.specs.Standing.{held}
use Rattle.reply_outbox.specs.declared.item.Item.TheVariants as item
use Rattle.session_rules.specs.declared.entry.Entry.TheVariants as entry
use Rattle.session_rules.specs.declared.service.Service.{Service}
use Rattle.session_rules.specs.Services.{mode_of}
use Rattle.session_rules.proofs.KnownHolding.{message_same}
use Rattle.keeping_rules.specs.Items.{SessionItem, session_in}
use Rattle.view_laws.specs.Callers.{service_of, whose}
use Rattle.view_laws.specs.Histories.{session_after}
use Rattle.view_laws.specs.Says.{says}
use Rattle.view_laws.proofs.Own.{own_more}

held_more : (held : Option Part) (xs ys : List SessionItem) → held_from says held (xs ++ ys) ≡ held_from says (held_from says held xs) ys
held_more held [] ys = refl
held_more held (x ∷ xs) ys = held_more (held_after held (says x)) xs ys

held_one : (b : Bool) (x : SessionItem) (o : Option Part) → held_from says o (cond b (x ∷ []) []) ≡ cond b (held_after o (says x)) o
held_one true x o = refl
held_one false x o = refl

same : (b : Bool) (o : Option Part) → o ≡ cond b o o
same true o = refl
same false o = refl

module _ {S : Type 0} (l : Lang S) (service : Service) (who : ℕ) where
  abbrev holds : List SessionItem → Option Part
  holds items = held (session_in l service items).events who

  -- by one item more
  held_by_item : (x : SessionItem) (items : List SessionItem) → holds (x ∷ items) ≡ cond (whose x == who) (held_after (holds items) (says x)) (holds items)
  held_by_item (item.Opened other) items = same (0 == who) (holds items)
  held_by_item (item.Sent writer len) items = same (writer == who) (holds items)
  held_by_item (item.Lost writer) items = same (writer == who) (holds items)
  held_by_item (item.Made (entry.Call message)) items =
      message_same l service (session_in l service items) who (asked (mode_of service) message) ∙ same (0 == who) (holds items)
  held_by_item (item.Made (entry.Claimed w part)) items = refl
  held_by_item (item.Made (entry.Finished w part)) items = refl
  held_by_item (item.Made (entry.Dropped w part)) items = refl
  held_by_item (item.Made entry.Ended) items = same (0 == who) (holds items)

  pub held_own : (items : List SessionItem) → holds items ≡ held_in says (own whose who (reverse items))
  held_own [] = refl
  held_own (x ∷ items) =
      let mine = own whose who (reverse items) in
      held_by_item x items
      ∙ (ap (λ o. cond (whose x == who) (held_after o (says x)) o) (held_own items)
      ∙ (sym (held_one (whose x == who) x (held_in says mine))
      ∙ (sym (held_more None mine (cond (whose x == who) (x ∷ []) []))
      ∙ sym (ap (λ (xs : List SessionItem). held_in says xs) (own_more who x items)))))

pub held_log : {S : Type 0} (l : Lang S) (log : List SessionItem) (who : ℕ) → held (session_after l log).events who ≡ held_in says (own whose who log)
held_log l log who = held_own l (service_of log) who (reverse log)
    ∙ ap (λ (xs : List SessionItem). held_in says (own whose who xs)) (reverse-reverse log)
