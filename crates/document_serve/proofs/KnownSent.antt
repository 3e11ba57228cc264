-- What a list tells as sent, as it grows.
use Rattle.std.proofs.Common.{◌≡◌, ℕ, suc, ◌+◌, ◌≤◌, List, [], ◌∷◌, ◌++◌, length, map, take, refl, sym, ap, ◌∙◌, arith, append-nil}
use Rattle.std.proofs.lemmas.List.{length-append, length-map, length-reverse, take-append-le}
use Rattle.std.proofs.lemmas.List.Concat.{flat_map-append}
use Rattle.std.specs.Prelude.{flat_map}
use Rattle.language.specs.Lang.{Lang}
use Rattle.reply_outbox.specs.declared.item.Item.TheVariants as item
use Rattle.reply_outbox.specs.Items.{lengths_sent}
use Rattle.session_rules.specs.declared.entry.Entry.{Entry}
use Rattle.session_rules.specs.declared.service.Service.{Service}
use Rattle.session_rules.specs.Heard.{Heard, heard}
use Rattle.session_rules.specs.Replies.{replies, entry_replies}
use Rattle.document_session.specs.session_replies_below.Spelling.{reply_spelling}
use Rattle.document_session.specs.keeping_rules_below.Items.{SessionItem, heard_in}
use Rattle.document_session.specs.keeping_rules_below.Pieces.{pieces, AreWaiting}
use Rattle.document_session.specs.keeping_rules_below.Sent.{IsFrontSent}
use Rattle.document_serve.specs.Listening.{replies_sent}
use Rattle.document_serve.specs.Served.{AllSent, replies_in, sent_in}

-- replies, joined
abbrev pub joined : List (List ℕ) → List ℕ
joined texts = flat_map (λ bytes. bytes) texts

take_front : (gone rest : List (List ℕ)) → take (length gone) (gone ++ rest) ≡ gone
take_front [] rest = refl
take_front (x ∷ gone) rest = ap (λ xs. x ∷ xs) (take_front gone rest)

take_next : (gone : List (List ℕ)) (x : List ℕ) (rest : List (List ℕ)) → take (suc (length gone)) (gone ++ x ∷ rest) ≡ gone ++ x ∷ []
take_next [] x rest = refl
take_next (y ∷ gone) x rest = ap (λ xs. y ∷ xs) (take_next gone x rest)

module _ {S : Type 0} (l : Lang S) (service : Service) (items : List SessionItem) where
  abbrev all : List (List ℕ)
  all = pieces l service (heard_in service items)

  -- no more is told as sent than there is
  few : IsFrontSent l service items → length (lengths_sent items) ≤ length all
  few f =
      let count : length f.sent ≡ length (lengths_sent items) = sym (length-map f.sent length)
      ∙ ap (λ (ns : List ℕ). length ns) f.lengths ∙ length-reverse (lengths_sent items) in
      let parts : length all ≡ length f.sent + length f.waiting = ap (λ (ts : List (List ℕ)). length ts) f.front
      ∙ length-append f.sent f.waiting in
      omega (arith, count, parts)

  -- an entry sends nothing
  pub replies_made : (added : Entry) → IsFrontSent l service items → replies_sent l service (item.Made added ∷ items) ≡ replies_sent l service items
  replies_made added f = take-append-le (length (lengths_sent items)) all
      (map reply_spelling (entry_replies l service (heard_in service items) (heard service added))) (few f)

  pub sent_made : (added : Entry) → IsFrontSent l service items → sent_in l service (item.Made added ∷ items) ≡ sent_in l service items
  sent_made added f = ap joined (replies_made added f)

  module _ (waiting : List (List ℕ)) (w : AreWaiting all items waiting) where
    gone_is : take (length (lengths_sent items)) all ≡ w.gone
    gone_is = ap (λ n. take n all) (sym w.count) ∙ ap (take (length w.gone)) w.replies ∙ take_front w.gone waiting

    -- what waits comes after what is sent
    pub then_waiting : joined all ≡ sent_in l service items ++ joined waiting
    then_waiting = ap joined w.replies ∙ flat_map-append (λ (bytes : List ℕ). bytes) w.gone waiting
        ∙ ap (λ (ts : List (List ℕ)). joined ts ++ joined waiting) (sym gone_is)

  -- the reply that waited longest is sent
  pub reply_next : (writer len : ℕ) (bytes : List ℕ) (behind : List (List ℕ)) → AreWaiting all items (bytes ∷ behind)
      → replies_sent l service (item.Sent writer len ∷ items) ≡ replies_sent l service items ++ bytes ∷ []
  reply_next writer len bytes behind w =
      ap (λ n. take (suc n) all) (sym w.count) ∙ ap (take (suc (length w.gone))) w.replies ∙ take_next w.gone bytes behind
      ∙ ap (λ (ts : List (List ℕ)). ts ++ bytes ∷ []) (sym (gone_is (bytes ∷ behind) w))

  pub sent_next : (writer len : ℕ) (bytes : List ℕ) (behind : List (List ℕ)) → AreWaiting all items (bytes ∷ behind)
      → sent_in l service (item.Sent writer len ∷ items) ≡ sent_in l service items ++ bytes
  sent_next writer len bytes behind w =
      ap joined (reply_next writer len bytes behind w) ∙ flat_map-append (λ (b : List ℕ). b) (replies_sent l service items) (bytes ∷ [])
      ∙ ap (λ (b : List ℕ). sent_in l service items ++ b) (append-nil bytes)

  -- none waits
  pub none_waits : AreWaiting all items [] → AllSent l service items
  none_waits w = sym w.count ∙ ap (λ (ts : List (List ℕ)). length ts) (sym (w.replies ∙ append-nil w.gone))

  module _ (law : (h : List Heard) → joined (pieces l service h) ≡ replies l service h) where
    -- where all is sent it is all that is called for
    pub sent_whole : AllSent l service items → sent_in l service items ≡ replies_in l service items
    sent_whole whole = ap (λ n. joined (take n all)) whole ∙ ap joined (whole_front all) ∙ law (heard_in service items)
      where
        whole_front : (ts : List (List ℕ)) → take (length ts) ts ≡ ts
        whole_front [] = refl
        whole_front (t ∷ ts) = ap (λ xs. t ∷ xs) (whole_front ts)

    -- and otherwise what waits is the rest of it
    pub sent_front : (waiting : List (List ℕ)) → AreWaiting all items waiting
        → replies_in l service items ≡ sent_in l service items ++ joined waiting
    sent_front waiting w = sym (law (heard_in service items)) ∙ then_waiting waiting w
