-- The session's list, once all passes are joined.
use Rattle.std.proofs.Common.{◌≡◌, ℕ, ◌+◌, List, [], ◌∷◌, ◌++◌, reverse, Contains, refl, sym, ap, subst, ◌∙◌, arith}
use Rattle.std.proofs.lemmas.List.{reverse-reverse}
use Rattle.std.proofs.lemmas.List.Elements.{All-contains, Contains-append_left, Contains-append_right}
use mathlib.Core.List.{IsPrefix, reverse-cons}
use mathlib.Core.Logic.{dite}
use native.Mathlib.Decide.{ℕ_discrete}
use Rattle.language.specs.Lang.{Lang}
use Rattle.hist_lock.specs.Callers.{HasJoined, HasJoinedUpTo, HasTheirs, brings, callers}
use Rattle.hist_lock.specs.Entries.{IsLonger, own}
use Rattle.hist_lock.specs.declared.view.View.{View}
use Rattle.hist_lock.specs.declared.view.Joined.{Joined}
use Rattle.hist_lock.proofs.KnownJoinings.{joined_last, keeps_joined}
use Rattle.worker_loop.specs.Crew.{HasGathered, HoldNothing}
use Rattle.worker_loop.specs.Held.{held_in}
use Rattle.worker_loop.proofs.KnownGathered.{prefix_then}
use Rattle.reply_outbox.specs.declared.item.Item.TheVariants as item
use Rattle.session_rules.specs.declared.service.Service.{Service}
use Rattle.session_rules.specs.declared.service.Service.TheVariants.{Workers}
use Rattle.document_session.specs.keeping_rules_below.Items.{SessionItem}
use Rattle.document_session.specs.keeping_rules_below.Legal.{AreLegal}
use Rattle.document_session.specs.Contents.{SessionState}
use Rattle.view_laws.specs.Callers.{service_of, whose}
use Rattle.view_laws.specs.Histories.{IsLegalLog}
use Rattle.view_laws.specs.Says.{says}
use Rattle.thread_serve.specs.Closed.{IsClosed, WorkersAreFree, made_items}

module _ {S : Type 0} (l : Lang S) where
  -- a legal list is opened by how the session is served
  opened_first : (service : Service) (items : List SessionItem) → AreLegal l service items
      → (rest : List SessionItem) × (reverse items ≡ item.Opened service ∷ rest)
  opened_first service [] are = absurd are
  opened_first service (first ∷ []) are = ([], ap (λ (x : SessionItem). x ∷ []) are)
  opened_first service (newest ∷ before ∷ items) are = let r = opened_first service (before ∷ items) are.0 in
      (r.0 ++ newest ∷ [], reverse-cons newest (before ∷ items) ∙ ap (λ (xs : List SessionItem). xs ++ newest ∷ []) r.1)

  -- the reader opened it
  opened_so : (count : ℕ) (service : Service) (items mine : List SessionItem) → AreLegal l service items → own whose 0 (reverse items) ≡ mine
      → IsPrefix (item.Opened (Workers count) ∷ []) mine → service ≡ Workers count
  opened_so count service items mine are made opened =
      let first = opened_first service items are in
      let same : item.Opened service ∷ own whose 0 first.0 ≡ item.Opened (Workers count) ∷ opened.0 =
      ap (λ (xs : List SessionItem). own whose 0 xs) (sym first.1) ∙ (made ∙ sym opened.1) in
      cc

  module _ (count : ℕ) (r0 r1 r2 writer : View SessionItem) (gathered : HasGathered r0 r1) (joined : HasJoined r1 writer r2) where
    caller_stays : r2.caller ≡ r0.caller
    caller_stays = ap (λ (z : View SessionItem). z.caller) joined ∙ ap (λ (z : View SessionItem). z.caller) gathered

    mine_stays : r2.mine ≡ r0.mine
    mine_stays = ap (λ (z : View SessionItem). z.mine) joined ∙ ap (λ (z : View SessionItem). z.mine) gathered

    joined_are : r2.joined ≡ r1.joined ++ brings writer
    joined_are = ap (λ (z : View SessionItem). z.joined) joined

    -- each pass that was split is joined
    pub all_joined : r0.made ≡ count + 1 → writer.caller ≡ count + 1 → HasJoinedUpTo 0 count r1 → HasJoinedUpTo 0 r2.made r2
    all_joined made is before c above below =
        let made_is : r2.made ≡ count + 1 = ap (λ (z : View SessionItem). z.made) joined ∙ (ap (λ (z : View SessionItem). z.made) gathered ∙ made) in
        dite (ℕ_discrete c (count + 1))
        (λ e. subst (λ n. Contains (callers r2.joined) n) (is ∙ sym e) (joined_last r1 writer r2 joined))
        (λ n. keeps_joined r1 writer r2 joined c (before c above (omega (arith, below, made_is))))

    module _ (s : SessionState) (log : List SessionItem) (items : reverse s.items ≡ log) (service : s.service ≡ service_of log) (legal : IsLegalLog l log)
        (mine : own whose r2.caller log ≡ r2.mine) (theirs : HasTheirs whose r2 log) (reader : r0.caller ≡ 0) where
      their_own : (r : Joined SessionItem) → Contains r2.joined r → own whose r.caller (reverse s.items) ≡ r.mine
      their_own r has = ap (λ (xs : List SessionItem). own whose r.caller xs) items
          ∙ All-contains (λ (j : Joined SessionItem). own whose j.caller log ≡ j.mine) r2.joined r theirs has

      reader_own : made_items 0 s ≡ r0.mine
      reader_own = ap (λ (xs : List SessionItem). own whose 0 xs) items
          ∙ (ap (λ n. own whose n log) (sym (caller_stays ∙ reader)) ∙ (mine ∙ mine_stays))

      session_legal : AreLegal l s.service s.items
      session_legal = subst (λ v. AreLegal l v s.items) (sym service)
          (subst (AreLegal l (service_of log)) (ap (λ (xs : List SessionItem). reverse xs) (sym items) ∙ reverse-reverse s.items) legal)

      pub closed : writer.caller ≡ count + 1 → IsPrefix (item.Opened (Workers count) ∷ []) r0.mine → IsPrefix r0.seen r1.seen
          → IsLonger r1.seen writer.seen r2.seen → IsPrefix r2.seen log → IsClosed l count r0 writer s
      closed is opened saw longer all = record {
        service = opened_so count s.service s.items r0.mine session_legal reader_own opened;
        legal = session_legal;
        reader_made = reader_own;
        writer_made = ap (λ n. own whose n (reverse s.items)) (sym is) ∙ their_own (record { caller = writer.caller; mine = writer.mine })
            (subst (λ (js : List (Joined SessionItem)). Contains js (record { caller = writer.caller; mine = writer.mine })) (sym joined_are)
            (Contains-append_right r1.joined (brings writer) (record { caller = writer.caller; mine = writer.mine }) (0, omega arith, refl)));
        reader_saw = within r0.seen (prefix_then r0.seen r1.seen r2.seen saw longer.first);
        writer_saw = within writer.seen longer.second;
      }
        where
          within : (xs : List SessionItem) → IsPrefix xs r2.seen → IsPrefix xs (reverse s.items)
          within xs p = subst (IsPrefix xs) (sym items) (prefix_then xs r2.seen log p all)

      -- whoever held nothing holds nothing
      pub free : HoldNothing says 0 count r1 → WorkersAreFree count s
      free nothing who above below =
          let r = nothing who above below in
          let has = subst (λ (js : List (Joined SessionItem)). Contains js r.0) (sym joined_are) (Contains-append_left r1.joined (brings writer) r.0 r.1) in
          ap (λ n. held_in says (own whose n (reverse s.items))) (sym r.2) ∙ (ap (λ (xs : List SessionItem). held_in says xs) (their_own r.0 has) ∙ r.3)
