-- What the items of the reader and of the writer tell of the whole list.
use Rattle.std.proofs.Common.{◌≡◌, ◌⊎◌, ℕ, zero, suc, ◌+◌, ◌≤◌, Bool, true, false, List, [], ◌∷◌, reverse, Contains, None, inl, inr, refl, sym, ap, subst, ◌∙◌, arith}
use Rattle.std.specs.Prelude.{◌↔◌}
use Rattle.std.proofs.lemmas.List.Elements.{All-contains, Contains-append_left, Contains-push_cases}
use mathlib.Core.List.{reverse-cons}
use Rattle.language.specs.Lang.{Lang}
use Rattle.hist_lock.specs.Entries.{own}
use Rattle.hist_lock.specs.declared.view.View.{View}
use Rattle.hist_lock.proofs.KnownOwn.{own_within}
use Rattle.worker_loop.specs.Held.{held_in}
use Rattle.worker_loop.specs.Rounds.{HasSeen}
use Rattle.worker_loop.specs.Sending.{AreSent}
use Rattle.worker_loop.specs.declared.said.Said.TheVariants as said
use Rattle.core_rules.specs.Standing.{has_ended, held}
use Rattle.reply_outbox.specs.declared.item.Item.TheVariants as item
use Rattle.reply_outbox.specs.Items.{is_lost}
use Rattle.reply_outbox.proofs.KnownLost.{stays_lost}
use Rattle.session_rules.specs.declared.entry.Entry.TheVariants as entry
use Rattle.document_session.specs.keeping_rules_below.Items.{SessionItem, session_in}
use Rattle.document_session.specs.Contents.{SessionState}
use Rattle.document_serve.specs.Served.{calls_in}
use Rattle.view_laws.specs.Callers.{whose, worker_count}
use Rattle.view_laws.specs.Histories.{IsLegalLog, session_after}
use Rattle.view_laws.specs.Says.{says}
use Rattle.thread_serve.proofs.KnownLegal.{LegalLaw, WorkersLaw}
use Rattle.thread_serve.specs.Closed.{IsClosed, WorkersAreFree, made_items}
use Rattle.thread_serve.specs.Promises.{NobodyHolds}
use Rattle.thread_serve.specs.Reader.{calls_made}
use Rattle.thread_serve.proofs.Calls.{calls_own, calls_reversed}
use Rattle.thread_serve.proofs.Logs.{count_is, from_log, legal_log}

-- each item is its caller's own
abbrev pub OwnLaw : Type 0
OwnLaw = (log : List SessionItem) (one : SessionItem) → Contains log one ↔ Contains (own whose (whose one) log) one

nowhere : (x : SessionItem) → Contains [] x → ⊥
nowhere x has = absurd (omega (arith, has.1))

-- where an item tells of a loss, the sink is lost
tells_loss : (x : SessionItem) (items : List SessionItem) → says x ≡ said.Lost → is_lost (x ∷ items) ≡ true
tells_loss (item.Opened service) items e = absurd (let no : ⊥ = cc in no)
tells_loss (item.Sent writer len) items e = absurd (let no : ⊥ = cc in no)
tells_loss (item.Lost writer) items e = refl
tells_loss (item.Made (entry.Call message)) items e = absurd (let no : ⊥ = cc in no)
tells_loss (item.Made (entry.Claimed w part)) items e = absurd (let no : ⊥ = cc in no)
tells_loss (item.Made (entry.Finished w part)) items e = absurd (let no : ⊥ = cc in no)
tells_loss (item.Made (entry.Dropped w part)) items e = absurd (let no : ⊥ = cc in no)
tells_loss (item.Made entry.Ended) items e = absurd (let no : ⊥ = cc in no)

pub lost_where : (items : List SessionItem) (x : SessionItem) → says x ≡ said.Lost → Contains (reverse items) x → is_lost items ≡ true
lost_where [] x e has = absurd (nowhere x has)
lost_where (y ∷ items) x e has = go (lost_where items x e)
    (Contains-push_cases (reverse items) y x (subst (λ (xs : List SessionItem). Contains xs x) (reverse-cons y items) has))
  where
    go : (Contains (reverse items) x → is_lost items ≡ true) → Contains (reverse items) x ⊎ (y ≡ x) → is_lost (y ∷ items) ≡ true
    go before (inl earlier) = stays_lost y items (before earlier)
    go before (inr is) = tells_loss y items (ap says is ∙ e)

module _ {S : Type 0} (l : Lang S) (count : ℕ) (reader writer : View SessionItem) (s : SessionState) (c : IsClosed l count reader writer s) where
  -- the calls are the reader's
  pub calls_are : calls_in s.items ≡ calls_made reader.mine
  calls_are = calls_reversed s.items ∙ (sym (calls_own (reverse s.items)) ∙ ap calls_made c.reader_made)

  -- so is the loss of the sink the writer's, and others may have seen it
  pub writer_lost : (x : SessionItem) → Contains writer.mine x → says x ≡ said.Lost → is_lost s.items ≡ true
  writer_lost x has e = lost_where s.items x e
      (own_within whose (count + 1) (reverse s.items) x (subst (λ (xs : List SessionItem). Contains xs x) (sym c.writer_made) has))

  pub reader_saw_loss : HasSeen says reader said.Lost → is_lost s.items ≡ true
  reader_saw_loss saw = lost_where s.items saw.0 saw.2
      (subst (λ (xs : List SessionItem). Contains xs saw.0) c.reader_saw.1 (Contains-append_left reader.seen c.reader_saw.0 saw.0 saw.1))

  module _ (workers : WorkersLaw l) (legal : LegalLaw l) where
    abbrev log : List SessionItem
    log = reverse s.items

    pub not_lost : ((log : List SessionItem) → IsLegalLog l log → (is_lost (reverse log) ≡ true) ↔ Contains log (item.Lost (worker_count log + 1)))
        → OwnLaw → AreSent says writer.mine → is_lost s.items ≡ false
    not_lost lost_law own_law only = from_log l count s c.service c.legal workers (λ v items. is_lost items ≡ false) (go (is_lost (reverse log)) refl)
      where
        loss : SessionItem
        loss = item.Lost (count + 1)

        go : (b : Bool) → is_lost (reverse log) ≡ b → b ≡ false
        go false e = refl
        go true e =
            let has = subst (λ n. Contains log (item.Lost (n + 1))) (count_is l count s c.service c.legal workers)
            ((lost_law log (legal_log l count s c.service c.legal legal)).0 e) in
            let mine = subst (λ (xs : List SessionItem). Contains xs loss) c.writer_made ((own_law log loss).0 has) in
            let no : said.Lost ≡ said.Sent = All-contains (λ x. says x ≡ said.Sent) writer.mine loss only mine in
            absurd (let never : ⊥ = cc in never)

    -- the end is the reader's
    pub all_ended : ((log : List SessionItem) → (has_ended (session_after l log).events ≡ true) ↔ Contains log (item.Made entry.Ended))
        → OwnLaw → Contains reader.mine (item.Made entry.Ended) → has_ended (session_in l s.service s.items).events ≡ true
    all_ended ended_law own_law has =
        let end : SessionItem = item.Made entry.Ended in
        let stands = (own_law log end).1 (subst (λ (xs : List SessionItem). Contains xs end) (sym c.reader_made) has) in
        from_log l count s c.service c.legal workers (λ v items. has_ended (session_in l v items).events ≡ true) ((ended_law log).1 stands)

    -- where neither the reader nor a worker holds a part, nobody does
    pub nobody_holds : ((log : List SessionItem) (who : ℕ) → IsLegalLog l log
        → ((w : ℕ) → w ≤ worker_count log → held_in says (own whose w log) ≡ None) → held (session_after l log).events who ≡ None)
        → held_in says reader.mine ≡ None → WorkersAreFree count s → NobodyHolds l s
    nobody_holds law free others who =
        let few = count_is l count s c.service c.legal workers in
        from_log l count s c.service c.legal workers (λ v items. held (session_in l v items).events who ≡ None)
        (law log who (legal_log l count s c.service c.legal legal) (λ w within. each w (subst (λ n. w ≤ n) few within)))
      where
        each : (w : ℕ) → w ≤ count → held_in says (made_items w s) ≡ None
        each zero within = ap (λ (mine : List SessionItem). held_in says mine) c.reader_made ∙ free
        each (suc w) within = others (suc w) (omega arith) within
