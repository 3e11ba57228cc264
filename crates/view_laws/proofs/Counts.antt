-- How many replies were sent, by the items of the writer and by all.
use Rattle.std.proofs.Common.{◌≡◌, ℕ, ◌+◌, ◌≤◌, Bool, true, false, cond, List, [], ◌∷◌, ◌++◌, length, map, reverse, refl, sym, ap, subst, ◌∙◌, arith, eq-eqb, length-append, zero-add}
use Rattle.std.specs.Prelude.{◌==◌}
use Rattle.language.specs.Lang.{Lang}
use Rattle.hist_lock.specs.Entries.{own}
use Rattle.reply_outbox.specs.declared.item.Item.TheVariants as item
use Rattle.reply_outbox.specs.Items.{lengths_sent}
use Rattle.session_rules.specs.declared.service.Service.{Service}
use Rattle.session_rules.specs.declared.service.Service.TheVariants.{Workers}
use Rattle.session_rules.specs.Heard.{heard}
use Rattle.session_rules.specs.Replies.{entry_replies}
use Rattle.keeping_rules.specs.session_replies_below.Spelling.{reply_spelling}
use Rattle.keeping_rules.specs.Items.{SessionItem, heard_in}
use Rattle.keeping_rules.specs.Legal.{AreLegal, MayStand}
use Rattle.keeping_rules.specs.Pieces.{pieces}
use Rattle.view_laws.specs.Callers.{maker, service_of, whose, worker_count}
use Rattle.view_laws.specs.Histories.{IsLegalLog, replies_after}
use Rattle.view_laws.specs.Sent.{sent_count}
use Rattle.view_laws.proofs.Own.{either, on_log, own_more}

pub count_more : (xs ys : List SessionItem) → sent_count (xs ++ ys) ≡ sent_count xs + sent_count ys
count_more [] ys = sym (zero-add (sent_count ys))
count_more (item.Opened service ∷ xs) ys = count_more xs ys
count_more (item.Made entry ∷ xs) ys = count_more xs ys
count_more (item.Sent writer len ∷ xs) ys = let rest = count_more xs ys in omega (arith, rest)
count_more (item.Lost writer ∷ xs) ys = count_more xs ys

-- a caller's count grows by its own items alone
pub own_count_more : (who : ℕ) (x : SessionItem) (items : List SessionItem)
    → sent_count (own whose who (reverse (x ∷ items))) ≡ sent_count (own whose who (reverse items)) + sent_count (cond (whose x == who) (x ∷ []) [])
own_count_more who x items = ap (λ (xs : List SessionItem). sent_count xs) (own_more who x items)
    ∙ count_more (own whose who (reverse items)) (cond (whose x == who) (x ∷ []) [])

one_fewer : (b : Bool) (x : SessionItem) (items : List SessionItem) → sent_count (cond b (x ∷ []) []) + sent_count items ≤ sent_count (x ∷ items)
one_fewer true (item.Opened service) items = omega arith
one_fewer true (item.Made entry) items = omega arith
one_fewer true (item.Sent writer len) items = omega arith
one_fewer true (item.Lost writer) items = omega arith
one_fewer false (item.Opened service) items = omega arith
one_fewer false (item.Made entry) items = omega arith
one_fewer false (item.Sent writer len) items = omega arith
one_fewer false (item.Lost writer) items = omega arith

own_fewer : (who : ℕ) (items : List SessionItem) → sent_count (own whose who (reverse items)) ≤ sent_count items
own_fewer who [] = omega arith
own_fewer who (x ∷ items) = omega (arith, own_count_more who x items, one_fewer (whose x == who) x items, own_fewer who items)

module _ {S : Type 0} (l : Lang S) where
  -- no more replies were sent than there are
  within_replies : (service : Service) (items : List SessionItem) → AreLegal l service items
      → sent_count items ≤ length (pieces l service (heard_in service items))
  within_replies service [] are = absurd (are)
  within_replies service (oldest ∷ []) are =
      subst (λ (x : SessionItem). sent_count (x ∷ []) ≤ length (pieces l service (heard_in service (x ∷ [])))) (sym are) (omega arith)
  within_replies service (item.Opened other ∷ before ∷ items) are = absurd (are.1)
  within_replies service (item.Lost w ∷ before ∷ items) are = within_replies service (before ∷ items) are.0
  within_replies service (item.Made entry ∷ before ∷ items) are =
      let h = heard_in service (before ∷ items) in
      omega (
        arith,
        within_replies service (before ∷ items) are.0,
        length-append (pieces l service h)
            (map reply_spelling (entry_replies l service h (heard service entry))),
      )
  within_replies service (item.Sent w len ∷ before ∷ items) are =
      let first = are.1.first in
      omega (
        arith,
        first.count,
        ap (λ (xs : List (List ℕ)). length xs) first.replies,
        length-append first.gone (are.1.bytes ∷ are.1.behind),
      )

  -- a caller was handed no more replies than there are
  pub own_within_replies : (who : ℕ) (log : List SessionItem) → IsLegalLog l log
      → sent_count (own whose who log) ≤ length (replies_after l log)
  own_within_replies who log are =
      let fewer = on_log (λ items xs. sent_count (own whose who xs) ≤ sent_count items) (own_fewer who) log in
      omega (arith, fewer, within_replies (service_of log) (reverse log) are)

  module _ (count : ℕ) where
    abbrev service : Service
    service = Workers count

    abbrev writer : ℕ
    writer = count + 1

    taken_one : (x : SessionItem) (rest : List SessionItem) → MayStand l service rest x
        → sent_count (cond (whose x == writer) (x ∷ []) []) + sent_count rest ≡ sent_count (x ∷ rest)
    taken_one (item.Opened other) rest may = absurd (may)
    taken_one (item.Made made) rest may =
        let none : sent_count (cond (maker made == writer) (item.Made made ∷ []) []) ≡ 0 =
        either (λ (xs : List SessionItem). sent_count xs) (maker made == writer) (item.Made made ∷ []) [] refl in
        omega (arith, none)
    taken_one (item.Lost w) rest may =
        let none : sent_count (cond (w == writer) (item.Lost w ∷ []) []) ≡ 0 =
        either (λ (xs : List SessionItem). sent_count xs) (w == writer) (item.Lost w ∷ []) [] refl in
        omega (arith, none)
    taken_one (item.Sent w len) rest may =
        let one : sent_count (cond (w == writer) (item.Sent w len ∷ []) []) ≡ 1 =
        ap (λ b. sent_count (cond b (item.Sent w len ∷ []) [])) (eq-eqb w writer may.writer_is) in
        omega (arith, one)

    -- all that was sent the writer took
    own_counts : (items : List SessionItem) → AreLegal l service items → sent_count (own whose writer (reverse items)) ≡ sent_count items
    own_counts [] are = absurd (are)
    own_counts (oldest ∷ []) are = subst (λ (x : SessionItem). sent_count (own whose writer (x ∷ [])) ≡ sent_count (x ∷ [])) (sym are)
        (either (λ (xs : List SessionItem). sent_count xs) (0 == writer) (item.Opened service ∷ []) [] refl)
    own_counts (newest ∷ before ∷ items) are =
        omega (arith, own_count_more writer newest (before ∷ items), own_counts (before ∷ items) are.0, taken_one newest (before ∷ items) are.1)

  pub own_counts_log : (log : List SessionItem) → IsLegalLog l log
      → sent_count (own whose (worker_count log + 1) log) ≡ sent_count (reverse log)
  own_counts_log log are = on_log (λ items xs. AreLegal l (service_of log) items → sent_count (own whose (worker_count log + 1) xs) ≡ sent_count items)
      (own_counts (worker_count log)) log are
