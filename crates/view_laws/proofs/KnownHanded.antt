-- What the writer was handed, and what waits for it.
use Rattle.std.proofs.Common.{◌≡◌, ◌≢◌, ℕ, ◌+◌, cond, List, [], ◌∷◌, ◌++◌, length, reverse, take, drop, drop_at, map, refl, sym, ap, ◌∙◌, arith, eq-eqb, append_assoc, append-nil}
use Rattle.std.specs.Prelude.{◌==◌, flat_map}
use Rattle.std.proofs.lemmas.List.{reverse-append, take-append-le}
use Rattle.std.proofs.lemmas.List.Concat.{flat_map-append}
use Rattle.std.proofs.lemmas.List.Elements.{filter-append}
use Rattle.std.proofs.Math.Seq.{take-append_seam, take-append-add}
use mathlib.Core.List.{IsPrefix}
use Rattle.language.specs.Lang.{Lang}
use Rattle.hist_lock.specs.Entries.{own}
use Rattle.reply_outbox.specs.declared.item.Item.TheVariants as item
use Rattle.session_rules.specs.declared.service.Service.{Service}
use Rattle.session_rules.specs.declared.service.Service.TheVariants.{Workers}
use Rattle.session_rules.specs.Heard.{Heard, heard}
use Rattle.session_rules.specs.Replies.{replies, entry_replies}
use Rattle.keeping_rules.specs.session_replies_below.Spelling.{reply_spelling}
use Rattle.keeping_rules.specs.Items.{SessionItem, heard_in}
use Rattle.keeping_rules.specs.Pieces.{pieces}
use Rattle.view_laws.specs.Callers.{service_of, whose, worker_count}
use Rattle.view_laws.specs.Histories.{IsLegalLog, replies_after}
use Rattle.view_laws.specs.Idle.{Waits}
use Rattle.view_laws.specs.Sent.{sent_count, joined_bytes, bytes_sent}
use Rattle.view_laws.proofs.Begins.{begins_reversed, legal_begins, same_workers, some_legal, workers_front}
use Rattle.view_laws.proofs.Counts.{count_more, own_counts_log, own_within_replies}

abbrev Replies : Type 0
Replies = List (List ℕ)

module _ {S : Type 0} (l : Lang S) where
  -- replies only grow at their end
  pub record Grows (old new : Replies) : Type 0 where
    pub more : Replies
    pub is : new ≡ old ++ more

  grow : (service : Service) (new items : List SessionItem) → Grows (pieces l service (heard_in service items)) (pieces l service (heard_in service (new ++ items)))
  grow service [] items = record { more = []; is = sym (append-nil (pieces l service (heard_in service items))) }
  grow service (item.Opened other ∷ new) items = grow service new items
  grow service (item.Sent writer len ∷ new) items = grow service new items
  grow service (item.Lost writer ∷ new) items = grow service new items
  grow service (item.Made entry ∷ new) items =
      let g = grow service new items in
      let last = map reply_spelling (entry_replies l service (heard_in service (new ++ items))
      (heard service entry)) in
      record {
        more = g.more ++ last;
        is = ap (λ (all : Replies). all ++ last) g.is ∙ append_assoc (pieces l service (heard_in service items)) g.more last;
      }

  -- by how many workers there are, and the items
  replies_by : (log : List SessionItem) (n : ℕ) (items : List SessionItem) → worker_count log ≡ n → reverse log ≡ items
      → replies_after l log ≡ pieces l (Workers n) (heard_in (Workers n) items)
  replies_by log n items workers is = ap (λ m. pieces l (Workers m) (heard_in (Workers m) (reverse log))) workers
      ∙ ap (λ (xs : List SessionItem). pieces l (Workers n) (heard_in (Workers n) xs)) is

  replies_grow : (seen log : List SessionItem) → seen ≢ [] → IsPrefix seen log → Grows (replies_after l seen) (replies_after l log)
  replies_grow seen log some p =
      let g = grow (service_of seen) (reverse p.0) (reverse seen) in
      record { more = g.more; is = replies_by log (worker_count seen) (reverse p.0 ++ reverse seen) (same_workers seen log some p) (begins_reversed seen log p) ∙ g.is }

  -- the writer's item changes no replies
  unchanged : (log : List SessionItem) (x : SessionItem) → log ≢ []
      → heard_in (service_of log) (x ∷ reverse log) ≡ heard_in (service_of log) (reverse log) → replies_after l (log ++ x ∷ []) ≡ replies_after l log
  unchanged log x some same =
      replies_by (log ++ x ∷ []) (worker_count log) (x ∷ reverse log) (workers_front log (x ∷ []) some) (reverse-append log (x ∷ []))
      ∙ ap (λ (h : List Heard). pieces l (service_of log) h) same

  own_last : (who : ℕ) (log : List SessionItem) (x : SessionItem) → whose x ≡ who → own whose who (log ++ x ∷ []) ≡ own whose who log ++ x ∷ []
  own_last who log x is = filter-append (λ e. whose e == who) log (x ∷ [])
      ∙ ap (λ b. own whose who log ++ cond b (x ∷ []) []) (eq-eqb (whose x) who is)

  -- what others do hands a caller nothing
  pub others_hand_nothing : (who : ℕ) (seen log : List SessionItem) → IsLegalLog l log → IsPrefix seen log
      → own whose who log ≡ own whose who seen → bytes_sent l who log ≡ bytes_sent l who seen
  others_hand_nothing who [] log are p same =
      ap (λ (mine : List SessionItem). joined_bytes (take (sent_count mine) (replies_after l log))) same
  others_hand_nothing who (x ∷ rest) log are p same =
      let seen : List SessionItem = x ∷ rest in
      let some : seen ≢ [] = λ e. absurd (let no : ⊥ = cc in no) in
      let g = replies_grow seen log some p in
      let k = sent_count (own whose who seen) in
      ap (λ (mine : List SessionItem). joined_bytes (take (sent_count mine) (replies_after l log))) same
      ∙ (ap (λ (all : Replies). joined_bytes (take k all)) g.is
      ∙ ap (λ (all : Replies). joined_bytes all) (take-append-le k (replies_after l seen) g.more
      (own_within_replies l who seen (legal_begins l seen log some p are))))

  -- the replies that are gone are those that the writer took
  gone_taken : (log : List SessionItem) (waiting : Replies) → IsLegalLog l log → (w : Waits l log waiting)
      → sent_count (own whose (worker_count log + 1) log) ≡ length w.gone
  gone_taken log waiting are w = own_counts_log l log are ∙ sym w.count

  sent_gone : (log : List SessionItem) (waiting : Replies) → IsLegalLog l log → (w : Waits l log waiting)
      → bytes_sent l (worker_count log + 1) log ≡ joined_bytes w.gone
  sent_gone log waiting are w =
      ap (λ n. joined_bytes (take n (replies_after l log))) (gone_taken log waiting are w)
      ∙ (ap (λ (all : Replies). joined_bytes (take (length w.gone) all)) w.replies
      ∙ ap (λ (all : Replies). joined_bytes all) (take-append_seam w.gone waiting))

  -- the writer takes what waited longest
  pub next_sent : (log : List SessionItem) (bytes : List ℕ) (waiting : Replies) → IsLegalLog l log → Waits l log (bytes ∷ waiting)
      → bytes_sent l (worker_count log + 1) (log ++ item.Sent (worker_count log + 1) (length bytes) ∷ []) ≡ bytes_sent l (worker_count log + 1) log ++ bytes
  next_sent log bytes waiting are w =
      let who = worker_count log + 1 in
      let one : SessionItem = item.Sent who (length bytes) in
      let count : sent_count (own whose who (log ++ one ∷ [])) ≡ length w.gone + 1 =
      ap (λ (xs : List SessionItem). sent_count xs) (own_last who log one refl)
      ∙ (count_more (own whose who log) (one ∷ []) ∙ ap (λ n. n + 1) (gone_taken log (bytes ∷ waiting) are w)) in
      ap (λ n. joined_bytes (take n (replies_after l (log ++ one ∷ [])))) count
      ∙ (ap (λ (all : Replies). joined_bytes (take (length w.gone + 1) all)) (unchanged log one (some_legal l log are) refl ∙ w.replies)
      ∙ (ap (λ (all : Replies). joined_bytes all) (take-append-add w.gone (bytes ∷ waiting) 1)
      ∙ (flat_map-append (λ (b : List ℕ). b) w.gone (bytes ∷ [])
      ∙ (ap (λ (b : List ℕ). joined_bytes w.gone ++ b) (append-nil bytes)
      ∙ ap (λ (b : List ℕ). b ++ bytes) (sym (sent_gone log (bytes ∷ waiting) are w))))))

  -- it is handed nothing where it loses the sink
  pub loses_nothing : (log : List SessionItem) → log ≢ []
      → bytes_sent l (worker_count log + 1) (log ++ item.Lost (worker_count log + 1) ∷ []) ≡ bytes_sent l (worker_count log + 1) log
  loses_nothing log some =
      let who = worker_count log + 1 in
      let one : SessionItem = item.Lost who in
      let count : sent_count (own whose who (log ++ one ∷ [])) ≡ sent_count (own whose who log) + 0 =
      ap (λ (xs : List SessionItem). sent_count xs) (own_last who log one refl) ∙ count_more (own whose who log) (one ∷ []) in
      let same : sent_count (own whose who (log ++ one ∷ [])) ≡ sent_count (own whose who log) = omega (arith, count) in
      ap (λ n. joined_bytes (take n (replies_after l (log ++ one ∷ [])))) same
      ∙ ap (λ (all : Replies). joined_bytes (take (sent_count (own whose who log)) all)) (unchanged log one some refl)

  -- what it was handed and what waits are all replies
  pub all_replies : ((service : Service) (h : List Heard) → flat_map (λ bytes. bytes) (pieces l service h) ≡ replies l service h)
      → (log : List SessionItem) (waiting : Replies) → IsLegalLog l log → Waits l log waiting
      → bytes_sent l (worker_count log + 1) log ++ joined_bytes waiting ≡ replies l (service_of log) (heard_in (service_of log) (reverse log))
  all_replies law log waiting are w =
      ap (λ (b : List ℕ). b ++ joined_bytes waiting) (sent_gone log waiting are w)
      ∙ (sym (flat_map-append (λ (b : List ℕ). b) w.gone waiting)
      ∙ (ap (λ (all : Replies). joined_bytes all) (sym w.replies) ∙ law (service_of log) (heard_in (service_of log) (reverse log))))

  -- what waits grows at its end while the writer takes nothing
  pub waiting_grows : (seen log : List SessionItem) (before now : Replies) → IsLegalLog l seen → IsLegalLog l log → IsPrefix seen log
      → own whose (worker_count seen + 1) log ≡ own whose (worker_count seen + 1) seen → Waits l seen before → Waits l log now
      → (more : Replies) × (now ≡ before ++ more)
  waiting_grows seen log before now are_seen are p same w v =
      let some = some_legal l seen are_seen in
      let g = replies_grow seen log some p in
      let workers = same_workers seen log some p in
      let count : length w.gone ≡ length v.gone =
      sym (gone_taken seen before are_seen w) ∙ (ap (λ (xs : List SessionItem). sent_count xs) (sym same)
      ∙ (ap (λ n. sent_count (own whose (n + 1) log)) (sym workers) ∙ gone_taken log now are v)) in
      let all : w.gone ++ (before ++ g.more) ≡ v.gone ++ now =
      sym (append_assoc w.gone before g.more) ∙ (ap (λ (xs : Replies). xs ++ g.more) (sym w.replies) ∙ (sym g.is ∙ v.replies)) in (
        g.more,
        sym (drop_at v.gone now (length v.gone) refl)
            ∙ (ap (λ (xs : Replies). drop (length v.gone) xs) (sym all) ∙ drop_at w.gone (before ++ g.more) (length v.gone) (omega (arith, count))),
      )
