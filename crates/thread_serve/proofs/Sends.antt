-- What the writer knows after a turn.
use Rattle.std.proofs.Common.{◌≡◌, ◌≢◌, ◌⊎◌, ℕ, ◌+◌, Bool, true, false, List, [], ◌∷◌, ◌++◌, length, reverse, Contains, inl, inr, refl, sym, ap, subst, ◌∙◌, arith}
use Rattle.std.specs.Prelude.{◌↔◌}
use Rattle.std.proofs.lemmas.List.Elements.{All-contains}
use mathlib.Core.List.{IsPrefix}
use Rattle.language.specs.Lang.{Lang}
use Rattle.hist_lock.specs.Entries.{own}
use Rattle.hist_lock.specs.declared.view.View.{View}
use Rattle.worker_loop.specs.Answers.{Makes}
use Rattle.worker_loop.specs.Sending.{AreSent, KnowsOwn}
use Rattle.worker_loop.specs.Stays.{SeesOn}
use Rattle.worker_loop.specs.declared.said.Said.TheVariants as said
use Rattle.worker_loop.proofs.KnownGathered.{prefix_then}
use Rattle.reply_outbox.specs.declared.item.Item.TheVariants as item
use Rattle.reply_outbox.specs.Items.{is_lost}
use Rattle.document_session.specs.keeping_rules_below.Items.{SessionItem}
use Rattle.thread_serve.specs.Contents.{SharedState}
use Rattle.thread_serve.specs.Sending.{SendsSo}
use Rattle.thread_serve.specs.declared.sending.Sending.{Sending}
use Rattle.thread_serve.specs.declared.sending.Sending.TheVariants as sending
use Rattle.view_laws.specs.Callers.{whose, worker_count}
use Rattle.view_laws.specs.Histories.{IsLegalLog}
use Rattle.view_laws.specs.Idle.{HasNothingToDo, Waits}
use Rattle.view_laws.specs.Says.{says}
use Rattle.view_laws.specs.Sent.{bytes_sent}
use Rattle.view_laws.proofs.KnownHanded.{others_hand_nothing}
use Rattle.thread_serve.proofs.Lists.{OneOf, some_legal}
use Rattle.thread_serve.proofs.Turns.{FitsView, IsTurn, LostLaw, caller_stays, makes, seen_is}

-- each item is its caller's own
abbrev pub OwnLaw : Type 0
OwnLaw = (log : List SessionItem) (one : SessionItem) → Contains log one ↔ Contains (own whose (whose one) log) one

module _ {S : Type 0} (l : Lang S) where
  -- who took replies, and made no other items, is the writer
  abbrev pub WriterLaw : Type 0
  WriterLaw = (log : List SessionItem) (who : ℕ) → IsLegalLog l log → AreSent says (own whose who log) → own whose who log ≢ []
      → who ≡ worker_count log + 1

  abbrev pub NextLaw : Type 0
  NextLaw = (log : List SessionItem) (bytes : List ℕ) (waiting : List (List ℕ)) → IsLegalLog l log → Waits l log (bytes ∷ waiting)
      → bytes_sent l (worker_count log + 1) (log ++ item.Sent (worker_count log + 1) (length bytes) ∷ [])
      ≡ bytes_sent l (worker_count log + 1) log ++ bytes

  abbrev pub LosesLaw : Type 0
  LosesLaw = (log : List SessionItem) → log ≢ []
      → bytes_sent l (worker_count log + 1) (log ++ item.Lost (worker_count log + 1) ∷ []) ≡ bytes_sent l (worker_count log + 1) log

  module _ (v : View SessionItem) (who : ℕ) (is : v.caller ≡ who) (x : SharedState) (fits : FitsView l v x) where
    own_is : own whose who x.log ≡ v.mine
    own_is = subst (λ c. own whose c x.log ≡ v.mine) is fits.mine

    -- others handed the caller nothing
    pub unhanded : KnowsOwn whose v → bytes_sent l who x.log ≡ bytes_sent l who v.seen
    unhanded knows = others_hand_nothing l who v.seen x.log fits.is_legal fits.seen
        (own_is ∙ sym (subst (λ c. own whose c v.seen ≡ v.mine) is knows))

    -- the writer has not lost the sink while all its items are for replies
    pub not_lost : LostLaw l → OwnLaw → AreSent says v.mine → who ≡ worker_count x.log + 1 → is_lost (reverse x.log) ≡ false
    not_lost lost_law own_law only writer = go (is_lost (reverse x.log)) refl
      where
        one : SessionItem
        one = item.Lost (worker_count x.log + 1)

        go : (b : Bool) → is_lost (reverse x.log) ≡ b → b ≡ false
        go false lost = refl
        go true lost =
            let has = (own_law x.log one).0 ((lost_law x.log fits.is_legal).0 lost) in
            let mine : Contains v.mine one = subst (λ (xs : List SessionItem). Contains xs one) own_is
            (subst (λ c. Contains (own whose c x.log) one) (sym writer) has) in
            let no : said.Lost ≡ said.Sent = All-contains (λ y. says y ≡ said.Sent) v.mine one only mine in
            absurd (let never : ⊥ = cc in never)

    pub writer_is : WriterLaw → AreSent says v.mine → v.mine ≢ [] → who ≡ worker_count x.log + 1
    writer_is law only some = law x.log who fits.is_legal (subst (AreSent says) (sym own_is) only) (λ none. some (sym own_is ∙ none))

  -- the caller has looked again and again
  pub sees_then : (u v w : View SessionItem) → SeesOn u v → SeesOn v w → SeesOn u w
  sees_then u v w first second = (prefix_then u.seen v.seen w.seen first.0 second.0, second.1 ∙ first.1)

  -- while it has only looked it was handed nothing
  pub still_unhanded : (who : ℕ) (v w : View SessionItem) → v.caller ≡ who → w.caller ≡ v.caller → KnowsOwn whose v → KnowsOwn whose w
      → SeesOn v w → IsLegalLog l w.seen → bytes_sent l who w.seen ≡ bytes_sent l who v.seen
  still_unhanded who v w is same knew knows sees legal =
      let now : own whose who w.seen ≡ w.mine = subst (λ c. own whose c w.seen ≡ w.mine) (same ∙ is) knows in
      let then : own whose who v.seen ≡ v.mine = subst (λ c. own whose c v.seen ≡ v.mine) is knew in
      others_hand_nothing l who v.seen w.seen legal sees.0 (now ∙ (sees.1 ∙ sym then))

  module _ (who : ℕ) where
    abbrev pub Sends : SharedState → Sending → SharedState → Type 0
    Sends old answer new = SendsSo l who old.log answer new.log

    pub sends_own : (old new : SharedState) (s : Sending) → Sends old s new → OneOf who old.log new.log
    sends_own old new (sending.Piece piece) so = inr (item.Sent (worker_count old.log + 1) (length piece.items), sym so.0, so.1.1)
    sends_own old new sending.Nothing so = inl so.2.0
    sends_own old new sending.Ended so = inl so.0
    sends_own old new sending.NotWriter so = inl so.0

    module _ (v : View SessionItem) (s : Sending) (w : View SessionItem) (t : IsTurn l Sends v s w) (is : v.caller ≡ who)
        (knows : KnowsOwn whose v) where
      -- nothing was handed out
      pub hands_nothing : t.after.log ≡ t.before.log → bytes_sent l who w.seen ≡ bytes_sent l who v.seen
      hands_nothing same = ap (λ (xs : List SessionItem). bytes_sent l who xs) (seen_is l Sends v s w t same)
          ∙ unhanded v who is t.before t.fits knows

      -- the reply that waited longest was handed out
      pub hands : NextLaw → (bytes : List ℕ) (behind : List (List ℕ)) → who ≡ worker_count t.before.log + 1
          → Waits l t.before.log (bytes ∷ behind)
          → t.after.log ≡ t.before.log ++ item.Sent (worker_count t.before.log + 1) (length bytes) ∷ []
          → bytes_sent l who w.seen ≡ bytes_sent l who v.seen ++ bytes
      hands law bytes behind writer waits grown =
          let log = t.before.log in
          let one : SessionItem = item.Sent (worker_count log + 1) (length bytes) in
          ap (λ (xs : List SessionItem). bytes_sent l who xs) (t.seen ∙ grown)
          ∙ (subst (λ c. bytes_sent l c (log ++ one ∷ []) ≡ bytes_sent l c log ++ bytes) (sym writer)
          (law log bytes behind t.fits.is_legal waits)
          ∙ ap (λ (b : List ℕ). b ++ bytes) (unhanded v who is t.before t.fits knows))

      -- there is nothing to send before another item comes
      pub idle_so : LostLaw l → OwnLaw → AreSent says v.mine → (so : Sends t.before sending.Nothing t.after)
          → HasNothingToDo l w.seen w.caller
      idle_so lost_law own_law only so =
          subst (λ c. HasNothingToDo l w.seen c) (sym (caller_stays l Sends v s w t ∙ is))
          (subst (λ (xs : List SessionItem). HasNothingToDo l xs who) (sym (seen_is l Sends v s w t so.2.0))
          (record { going = so.1; worker = λ within. absurd (omega (arith, so.0, within)); writer = λ writer. waits so.2.1 }))
        where
          waits : Waits l t.before.log [] ⊎ (is_lost (reverse t.before.log) ≡ true) → Waits l t.before.log []
          waits (inl none) = none
          waits (inr lost) =
              let no : true ≡ false = sym lost ∙ not_lost v who is t.before t.fits lost_law own_law only so.0 in
              absurd (let never : ⊥ = cc in never)

    abbrev pub Loses : {A : Type 0} → SharedState → A → SharedState → Type 0
    Loses old answer new = new.log ≡ old.log ++ item.Lost (worker_count old.log + 1) ∷ []

    -- the loss is the writer's item, and it is handed nothing by it
    pub loses : {A : Type 0} (a : A) (v w : View SessionItem) (t : IsTurn l Loses v a w) → v.caller ≡ who → KnowsOwn whose v
        → LosesLaw → who ≡ worker_count t.before.log + 1
        → Makes says v said.Lost w × (bytes_sent l who w.seen ≡ bytes_sent l who v.seen)
    loses a v w t is knows law writer =
        let log = t.before.log in
        let one : SessionItem = item.Lost (worker_count log + 1) in (
          makes l Loses v a w t one t.given,
          ap (λ (xs : List SessionItem). bytes_sent l who xs) (t.seen ∙ t.given)
              ∙ (subst (λ c. bytes_sent l c (log ++ one ∷ []) ≡ bytes_sent l c log) (sym writer) (law log (some_legal l log t.fits.is_legal))
              ∙ unhanded v who is t.before t.fits knows),
        )
