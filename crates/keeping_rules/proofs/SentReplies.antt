-- What a session keeps once the writer did something.
use Rattle.std.proofs.Common.{◌≡◌, ℕ, false, List, [], ◌∷◌, ◌++◌, length, Option, refl, sym, ap, subst, ◌∙◌, arith, append_assoc, length-append}
use Rattle.language.specs.Lang.{Lang}
use Rattle.reply_outbox.specs.declared.item.Item.TheVariants as item
use Rattle.reply_outbox.specs.Items.{is_lost}
use Rattle.reply_outbox.specs.Waiting.{Log, IsSent}
use Rattle.session_rules.specs.declared.entry.Entry.{Entry}
use Rattle.session_rules.specs.declared.service.Service.{Service}
use Rattle.session_rules.specs.Session.{Session}
use Rattle.session_rules.specs.History.{session}
use Rattle.session_rules.specs.Steps.{due}
use Rattle.session_replies.specs.Works.{Work}
use Rattle.keeping_rules.specs.Items.{SessionItem, heard_in, writer_of}
use Rattle.keeping_rules.specs.Pieces.{pieces, AreWaiting}
use Rattle.keeping_rules.specs.Legal.{MayStand}
use Rattle.keeping_rules.specs.Kept.{IsListed, IsKept}
use Rattle.keeping_rules.proofs.Made.{stands_more}

sent_waits : (all : List (List ℕ)) (items : List SessionItem) (bytes : List ℕ) (behind : List (List ℕ)) (writer len : ℕ)
    → AreWaiting all items (bytes ∷ behind) → AreWaiting all (item.Sent writer len ∷ items) behind
sent_waits all items bytes behind writer len w = record {
  gone = w.gone ++ bytes ∷ [];
  replies = w.replies ∙ sym (append_assoc w.gone (bytes ∷ []) behind);
  count = omega (arith, length-append w.gone (bytes ∷ []), w.count);
}

module _ {S : Type 0} (l : Lang S) (service : Service) (old new : Log Service Entry) (s : Session) (last holding : ℕ)
    (jobs : ℕ → Option (Work S)) (k : IsKept l service old s last holding jobs) (free : new.free ≡ old.free) where
  kept_with : (x : SessionItem) → heard_in service (x ∷ old.items) ≡ heard_in service old.items
      → new.items ≡ x ∷ old.items → MayStand l service old.items x
      → AreWaiting (pieces l service (heard_in service old.items)) (x ∷ old.items) new.waiting
      → IsKept l service new s last holding jobs
  kept_with x heard items may waits = record {
    listed = subst (λ (is : List SessionItem). IsListed l service is new.waiting s) (sym items) (record {
      legal = stands_more l service x old.items k.listed.legal may;
      stands = ap (λ h. session l service h) heard ∙ k.listed.stands;
      waits = subst (λ h. AreWaiting (pieces l service h) (x ∷ old.items) new.waiting) (sym heard) waits;
    });
    at_rest = ap (λ (is : List SessionItem). due l service (heard_in service is)) items ∙ ap (λ h. due l service h) heard ∙ k.at_rest;
    last_is = k.last_is;
    workers = k.workers;
    jobs_are = k.jobs_are;
    holders_are = k.holders_are;
    blobs_are = k.blobs_are;
    room = omega (arith, k.room, free);
  }

  pub sent_kept : (writer : ℕ) (bytes : List ℕ) → writer ≡ writer_of service → IsSent writer bytes old new
      → IsKept l service new s last holding jobs
  sent_kept writer bytes is so =
      let all : List (List ℕ) = pieces l service (heard_in service old.items) in
      let waits : AreWaiting all old.items (bytes ∷ new.waiting) =
      subst (λ (ws : List (List ℕ)). AreWaiting all old.items ws) so.first k.listed.waits in
      kept_with (item.Sent writer (length bytes)) refl so.told
      (record { writer_is = is; going = so.going; bytes = bytes; behind = new.waiting; first = waits; len_is = refl })
      (sent_waits all old.items bytes new.waiting writer (length bytes) waits)

  pub lost_kept : (writer : ℕ) → writer ≡ writer_of service → is_lost old.items ≡ false → new.items ≡ item.Lost writer ∷ old.items
      → new.waiting ≡ old.waiting → IsKept l service new s last holding jobs
  lost_kept writer is going items waiting = kept_with (item.Lost writer) refl items (is, going)
      (subst (λ (ws : List (List ℕ)). AreWaiting (pieces l service (heard_in service old.items)) (item.Lost writer ∷ old.items) ws) (sym waiting)
      (record { gone = k.listed.waits.gone; replies = k.listed.waits.replies; count = k.listed.waits.count }))
