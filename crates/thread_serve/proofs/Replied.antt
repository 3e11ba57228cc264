-- What becomes of a message.
use Rattle.std.proofs.Common.{◌≡◌, ◌⊎◌, ℕ, true, List, [], ◌∷◌, ◌++◌, reverse, Result, Ok, Err, IfOk, OnErr, inl, inr, refl, sym, ap, subst, ◌∙◌}
use Rattle.language.specs.Lang.{Lang}
use Rattle.hist_lock.specs.Entries.{Grows}
use Rattle.reply_outbox.specs.declared.item.Item.TheVariants as item
use Rattle.session_rules.specs.declared.entry.Entry.TheVariants as entry
use Rattle.session_rules.specs.declared.service.Service.{Service}
use Rattle.session_rules.specs.declared.service.Service.TheVariants.{Workers}
use Rattle.session_rules.specs.Steps.{Nothing, due}
use Rattle.document_session.specs.keeping_rules_below.Items.{SessionItem, heard_in}
use Rattle.document_session.specs.declared.taking.Taken.{Taken}
use Rattle.document_session.specs.declared.taking.Taken.TheVariants as taken
use Rattle.document_session.specs.Answers.{IsAnswered, IsWaiting, TakenSo}
use Rattle.document_session.specs.Contents.{SessionState}
use Rattle.view_laws.specs.Callers.{service_of, worker_count}
use Rattle.thread_serve.specs.Working.{AnswersSo}
use Rattle.thread_serve.proofs.TurnLogs.{grows_by, grows_not, on_log, one_more}

module _ {S : Type 0} (l : Lang S) (law : (count : ℕ) (items : List SessionItem) → due l (Workers count) (heard_in (Workers count) items) ≡ Nothing)
    (message : List (List ℕ)) (was now : SessionState) (log : List SessionItem) (e : reverse was.items ≡ log)
    (same : was.service ≡ service_of (reverse was.items)) where
  abbrev call : SessionItem
  call = item.Made (entry.Call message)

  nothing_due : due l was.service (heard_in was.service (call ∷ was.items)) ≡ Nothing
  nothing_due = subst (λ s. due l s (heard_in s (call ∷ was.items)) ≡ Nothing) (sym same) (law (worker_count (reverse was.items)) (call ∷ was.items))

  -- one call is made
  one_call : IsAnswered l was.service was.items message now.items → now.items ≡ call ∷ was.items
  one_call (inl is) = is
  one_call (inr so) = absurd (so.2 nothing_due)

  answers : (t : Taken) → TakenSo l was.service message was.items t now.items → AnswersSo l message log t (reverse now.items)
  answers taken.Replied so = one_more call was.items now.items (one_call so) ∙ ap (λ (xs : List SessionItem). xs ++ call ∷ []) e
  answers (taken.Waits back) so = (
    so.0,
    ap (λ (xs : List SessionItem). reverse xs) so.1 ∙ e,
    on_log (λ s xs ys. IsWaiting l s xs message) was.service was.items was.items log e same so.2,
  )

  pub answered : {A : Type 0} (r : Result Taken A) → IfOk r (λ t. TakenSo l was.service message was.items t now.items)
      → IfOk r (λ t. AnswersSo l message log t (reverse now.items))
  answered (Ok t) so = answers t so
  answered (Err a) so = tt

  grows : (t : Taken) → TakenSo l was.service message was.items t now.items → Grows log (reverse now.items)
  grows taken.Replied so = grows_by call was.items now.items log e (one_call so)
  grows (taken.Waits back) so = grows_not was.items now.items log e so.1

  pub answered_grows : {A : Type 0} (r : Result Taken A) → IfOk r (λ t. TakenSo l was.service message was.items t now.items)
      → OnErr r (now ≡ was) → Grows log (reverse now.items)
  answered_grows (Ok t) so none = grows t so
  answered_grows (Err a) so none = grows_not was.items now.items log e (ap (λ (s : SessionState). s.items) none)
