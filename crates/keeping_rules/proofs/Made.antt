-- One item more.
use Rattle.std.proofs.Common.{◌≡◌, ℕ, List, [], ◌∷◌, ◌++◌, ap, subst, ◌∙◌, append_assoc}
use Rattle.std.specs.Prelude.{map}
use Rattle.language.specs.Lang.{Lang}
use Rattle.reply_outbox.specs.declared.item.Item.TheVariants as item
use Rattle.session_rules.specs.declared.entry.Entry.{Entry}
use Rattle.session_rules.specs.declared.service.Service.{Service}
use Rattle.session_rules.specs.Heard.{heard}
use Rattle.session_rules.specs.History.{session_after}
use Rattle.session_rules.specs.Legal.{MayFollow}
use Rattle.session_rules.specs.Replies.{entry_replies}
use Rattle.session_rules.specs.Session.{Session}
use Rattle.session_replies.specs.Spelling.{reply_spelling}
use Rattle.keeping_rules.specs.Items.{SessionItem, heard_in}
use Rattle.keeping_rules.specs.Pieces.{pieces, AreWaiting}
use Rattle.keeping_rules.specs.Legal.{AreLegal, MayStand}
use Rattle.keeping_rules.specs.Kept.{IsListed}

module _ {S : Type 0} (l : Lang S) (service : Service) where
  pub stands_more : (x : SessionItem) (items : List SessionItem) → AreLegal l service items → MayStand l service items x
      → AreLegal l service (x ∷ items)
  stands_more x [] are may = absurd (are)
  stands_more x (y ∷ ys) are may = (are, may)

  waits_more : (all new : List (List ℕ)) (items : List SessionItem) (waiting : List (List ℕ)) (entry : Entry) → AreWaiting all items waiting
      → AreWaiting (all ++ new) (item.Made entry ∷ items) (waiting ++ new)
  waits_more all new items waiting entry w = record {
    gone = w.gone;
    replies = ap (λ (x : List (List ℕ)). x ++ new) w.replies ∙ append_assoc w.gone waiting new;
    count = w.count;
  }

  -- an entry that may follow, with its replies
  pub made : (items : List SessionItem) (waiting : List (List ℕ)) (s s' : Session) (entry : Entry) (replies : List (List ℕ))
      → IsListed l service items waiting s → MayFollow l service (heard_in service items) (heard service entry)
      → map reply_spelling (entry_replies l service (heard_in service items) (heard service
      entry)) ≡ replies
      → session_after l service s (heard service entry) ≡ s'
      → IsListed l service (item.Made entry ∷ items) (waiting ++ replies) s'
  made items waiting s s' entry replies k may told_is after_is = record {
    legal = stands_more (item.Made entry) items k.legal may;
    stands = ap (λ (t : Session). session_after l service t (heard service entry)) k.stands ∙
        after_is;
    waits = subst (λ (r : List (List ℕ)). AreWaiting (pieces l service (heard_in service items)
        ++ map reply_spelling (entry_replies l service (heard_in service items) (heard service entry))) (item.Made entry ∷ items) (waiting ++ r)) told_is
        (waits_more (pieces l service (heard_in service items)) (map reply_spelling (entry_replies l service (heard_in service items) (heard service entry)))
        items waiting entry k.waits);
  }
