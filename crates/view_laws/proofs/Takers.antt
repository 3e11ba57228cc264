-- Only the writer is handed replies.
use Rattle.std.proofs.Common.{◌≡◌, ◌≢◌, ◌⊎◌, ℕ, ◌+◌, true, List, [], ◌∷◌, reverse, Contains, inl, inr, refl, sym, ap, subst, ◌∙◌, eqb-true}
use Rattle.std.specs.Prelude.{◌==◌}
use Rattle.std.proofs.lemmas.List.Elements.{All-contains, Contains-append_left, Contains-push, filter_passes}
use Rattle.language.specs.Lang.{Lang}
use Rattle.hist_lock.specs.Entries.{own}
use Rattle.hist_lock.proofs.KnownOwn.{own_within}
use Rattle.worker_loop.specs.declared.said.Said.TheVariants as said
use Rattle.worker_loop.specs.Sending.{AreSent}
use Rattle.reply_outbox.specs.declared.item.Item.TheVariants as item
use Rattle.session_rules.specs.declared.entry.Entry.TheVariants as entry
use Rattle.session_rules.specs.declared.service.Service.{Service}
use Rattle.session_rules.specs.declared.service.Service.TheVariants.{Workers}
use Rattle.keeping_rules.specs.Items.{SessionItem}
use Rattle.keeping_rules.specs.Legal.{AreLegal, MayStand}
use Rattle.view_laws.specs.Callers.{service_of, whose, worker_count}
use Rattle.view_laws.specs.Histories.{IsLegalLog}
use Rattle.view_laws.specs.Says.{says}
use Rattle.view_laws.proofs.Own.{has_cases, has_none, on_log}

module _ {S : Type 0} (l : Lang S) where
  module _ (count : ℕ) where
    abbrev service : Service
    service = Workers count

    abbrev writer : ℕ
    writer = count + 1

    made_unsent : (x : SessionItem) (rest : List SessionItem) → MayStand l service rest x → says x ≡ said.Sent → whose x ≡ writer
    made_unsent (item.Opened other) rest may e = absurd (may)
    made_unsent (item.Made (entry.Call message)) rest may e = absurd (cc)
    made_unsent (item.Made (entry.Claimed who part)) rest may e = absurd (cc)
    made_unsent (item.Made (entry.Finished who part)) rest may e = absurd (cc)
    made_unsent (item.Made (entry.Dropped who part)) rest may e = absurd (cc)
    made_unsent (item.Made entry.Ended) rest may e = absurd (cc)
    made_unsent (item.Sent w len) rest may e = may.writer_is
    made_unsent (item.Lost w) rest may e = absurd (cc)

    -- only the writer is handed replies
    sent_by_writer : (items : List SessionItem) → AreLegal l service items → (x : SessionItem) → Contains (reverse items) x
        → says x ≡ said.Sent → whose x ≡ writer
    sent_by_writer [] are x has e = absurd (are)
    sent_by_writer (oldest ∷ []) are x has e = go (has_cases oldest x [] has)
      where
        go : Contains (reverse []) x ⊎ (oldest ≡ x) → whose x ≡ writer
        go (inl none) = absurd (has_none x none)
        go (inr is) = let no : said.Other ≡ said.Sent = ap says (sym are ∙ is) ∙ e in absurd (cc)
    sent_by_writer (newest ∷ before ∷ items) are x has e = go (sent_by_writer (before ∷ items) are.0 x) (has_cases newest x (before ∷ items) has)
      where
        go : (Contains (reverse (before ∷ items)) x → says x ≡ said.Sent → whose x ≡ writer)
            → Contains (reverse (before ∷ items)) x ⊎ (newest ≡ x) → whose x ≡ writer
        go earlier (inl at) = earlier at e
        go earlier (inr is) = sym (ap whose is) ∙ made_unsent newest (before ∷ items) are.1 (ap says is ∙ e)

  -- who took replies, and made no other items, is the writer
  pub taker_is_writer : (log : List SessionItem) (who : ℕ) → IsLegalLog l log → AreSent says (own whose who log) → own whose who log ≢ []
      → who ≡ worker_count log + 1
  taker_is_writer log who are only some = go (own whose who log) refl
    where
      by_writer : (x : SessionItem) → Contains log x → says x ≡ said.Sent → whose x ≡ worker_count log + 1
      by_writer = on_log (λ items xs. AreLegal l (service_of log) items → (x : SessionItem) → Contains xs x → says x ≡ said.Sent → whose x ≡ worker_count log + 1)
          (sent_by_writer (worker_count log)) log are

      one : (x : SessionItem) → Contains (own whose who log) x → who ≡ worker_count log + 1
      one x has =
          let its : whose x ≡ who = eqb-true (whose x) who (All-contains (λ y. (whose y == who) ≡ true) (own whose who log) x (filter_passes (λ y. whose y == who) log) has) in
          sym its ∙ by_writer x (own_within whose who log x has) (All-contains (λ y. says y ≡ said.Sent) (own whose who log) x only has)

      go : (mine : List SessionItem) → own whose who log ≡ mine → who ≡ worker_count log + 1
      go [] e = absurd (some e)
      go (x ∷ rest) e = one x (subst (λ xs. Contains xs x) (sym e) (Contains-append_left (x ∷ []) rest x (Contains-push [] x)))
