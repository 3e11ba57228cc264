-- What was sent is a front of the replies.
use Rattle.std.proofs.Common.{◌≡◌, ℕ, List, [], ◌∷◌, ◌++◌, map, reverse, length, refl, sym, ap, subst, ◌∙◌, arith}
use Rattle.std.proofs.lemmas.List.{append_assoc, map-append, reverse-append, length-map, length-reverse}
use Rattle.std.proofs.lemmas.List.Concat.{flat_map-append}
use Rattle.std.specs.Prelude.{flat_map}
use Rattle.language.specs.Lang.{Lang}
use Rattle.reply_outbox.specs.declared.item.Item.TheVariants as item
use Rattle.reply_outbox.specs.Items.{lengths_sent}
use Rattle.reply_messages.specs.declared.told.Told.{Told}
use Rattle.session_rules.specs.declared.entry.Entry.{Entry}
use Rattle.session_rules.specs.declared.service.Service.{Service}
use Rattle.session_rules.specs.Heard.{Heard, heard}
use Rattle.session_rules.specs.Replies.{bytes_of, replies, entry_replies}
use Rattle.session_replies.specs.Spelling.{reply_spelling}
use Rattle.keeping_rules.specs.Items.{SessionItem, heard_in}
use Rattle.keeping_rules.specs.Legal.{AreLegal, MaySend}
use Rattle.keeping_rules.specs.Pieces.{pieces}
use Rattle.keeping_rules.specs.Sent.{IsFrontSent}

same_front : (a b c d : List (List ℕ)) → a ++ c ≡ b ++ d → length a ≡ length b → a ≡ b
same_front [] [] c d e n = refl
same_front [] (y ∷ b) c d e n = absurd (omega (arith, n))
same_front (x ∷ a) [] c d e n = absurd (omega (arith, n))
same_front (x ∷ a) (y ∷ b) c d e n =
    let head : x ≡ y = cc in
    let rest : a ++ c ≡ b ++ d = cc in
    ap (λ v. v ∷ a) head ∙ ap (λ r. y ∷ r) (same_front a b c d rest (omega (arith, n)))

joined_some : (ts : List Told) → flat_map (λ bytes. bytes) (map reply_spelling ts) ≡ bytes_of ts
joined_some [] = refl
joined_some (t ∷ ts) = ap (λ r. reply_spelling t ++ r) (joined_some ts)

module _ {S : Type 0} (l : Lang S) (service : Service) where
  -- the replies one by one are all that is written
  pub joined : (h : List Heard) → flat_map (λ bytes. bytes) (pieces l service h) ≡ replies l service h
  joined [] = refl
  joined (e ∷ h) = flat_map-append (λ (bytes : List ℕ). bytes) (pieces l service h) (map reply_spelling (entry_replies l service h e))
      ∙ ap (λ r. r ++ flat_map (λ bytes. bytes)
      (map reply_spelling (entry_replies l service h e))) (joined h)
      ∙ ap (λ r. replies l service h ++ r) (joined_some (entry_replies l service h e))

  counted : (items : List SessionItem) (f : IsFrontSent l service items) → length f.sent ≡ length (lengths_sent items)
  counted items f = sym (length-map f.sent length) ∙ ap (λ (ns : List ℕ). length ns) f.lengths ∙ length-reverse (lengths_sent items)

  opened : (first : SessionItem) → first ≡ item.Opened service → IsFrontSent l service (first ∷ [])
  opened first is = subst (λ (x : SessionItem). IsFrontSent l service (x ∷ [])) (sym is)
      (record { sent = []; waiting = []; front = refl; lengths = refl })

  made : (entry : Entry) (items : List SessionItem) → IsFrontSent l service items → IsFrontSent l service (item.Made entry ∷ items)
  made entry items f = let more = map reply_spelling (entry_replies l service (heard_in service items) (heard service entry)) in record {
    sent = f.sent;
    waiting = f.waiting ++ more;
    front = ap (λ (all : List (List ℕ)). all ++ more) f.front ∙ append_assoc f.sent f.waiting more;
    lengths = f.lengths;
  }

  taken : (writer len : ℕ) (items : List SessionItem) → MaySend l service items writer len → IsFrontSent l service items
      → IsFrontSent l service (item.Sent writer len ∷ items)
  taken writer len items may f =
      let same : may.first.gone ≡ f.sent = same_front may.first.gone f.sent (may.bytes ∷ may.behind) f.waiting
      (sym may.first.replies ∙ f.front) (may.first.count ∙ sym (counted items f)) in
      record {
        sent = f.sent ++ may.bytes ∷ [];
        waiting = may.behind;
        front = may.first.replies ∙ ap (λ (a : List (List ℕ)). a ++ may.bytes ∷ may.behind) same
            ∙ sym (append_assoc f.sent (may.bytes ∷ []) may.behind);
        lengths = map-append length f.sent (may.bytes ∷ [])
            ∙ ap (λ (ns : List ℕ). ns ++ length may.bytes ∷ []) f.lengths
            ∙ ap (λ n. reverse (lengths_sent items) ++ n ∷ []) (sym may.len_is)
            ∙ sym (reverse-append (len ∷ []) (lengths_sent items));
      }

  pub front_sent : (items : List SessionItem) → AreLegal l service items → IsFrontSent l service items
  front_sent [] are = absurd (are)
  front_sent (first ∷ []) are = opened first are
  front_sent (item.Opened other ∷ before ∷ items) are = absurd (are.1)
  front_sent (item.Made entry ∷ before ∷ items) are = made entry (before ∷ items) (front_sent (before ∷ items) are.0)
  front_sent (item.Sent writer len ∷ before ∷ items) are = taken writer len (before ∷ items) are.1 (front_sent (before ∷ items) are.0)
  front_sent (item.Lost writer ∷ before ∷ items) are =
      let f = front_sent (before ∷ items) are.0 in
      record { sent = f.sent; waiting = f.waiting; front = f.front; lengths = f.lengths }
