-- What the writer takes.
use Rattle.std.proofs.Common.{◌≡◌, ◌⊎◌, ℕ, ◌+◌, true, List, [], ◌∷◌, ◌++◌, length, reverse, Option, Some, None, inl, inr, refl, sym, ap, subst, ◌∙◌}
use Rattle.std.specs.Prelude.{IfSome, IfNone}
use Rattle.language.specs.Lang.{Lang}
use Rattle.hist_lock.specs.Entries.{Grows}
use Rattle.reply_outbox.specs.declared.item.Item.TheVariants as item
use Rattle.reply_outbox.specs.Items.{is_lost}
use Rattle.session_rules.specs.declared.service.Service.{Service}
use Rattle.document_session.specs.keeping_rules_below.Items.{SessionItem, heard_in, writer_of}
use Rattle.document_session.specs.keeping_rules_below.Pieces.{pieces, AreWaiting}
use Rattle.document_session.specs.Contents.{SessionState}
use Rattle.view_laws.specs.Callers.{service_of, worker_count}
use Rattle.view_laws.specs.Idle.{Waits}
use Rattle.thread_serve.specs.Sending.{FindsNone, TakesPiece}
use Rattle.thread_serve.proofs.TurnLogs.{grows_by, grows_not, on_log, one_more}

module _ {S A : Type 0} (l : Lang S) (of : A → List ℕ) (was now : SessionState) (log : List SessionItem) (e : reverse was.items ≡ log)
    (same : was.service ≡ service_of (reverse was.items)) where
  abbrev pub IsPiece : A → Type 0
  IsPiece piece = (was.waiting ≡ of piece ∷ now.waiting) × (now.items ≡ item.Sent (writer_of was.service) (length (of piece)) ∷ was.items)

  abbrev pub IsNoPiece : Type 0
  IsNoPiece = ((was.waiting ≡ []) ⊎ (is_lost was.items ≡ true)) × (now ≡ was)

  abbrev pub AllWait : Type 0
  AllWait = AreWaiting (pieces l was.service (heard_in was.service was.items)) was.items was.waiting

  waits_log : AllWait → (waiting : List (List ℕ)) → was.waiting ≡ waiting → Waits l log waiting
  waits_log all waiting is = on_log (λ s xs ys. AreWaiting (pieces l s (heard_in s xs)) xs waiting) was.service was.items was.items log e same
      (subst (AreWaiting (pieces l was.service (heard_in was.service was.items)) was.items) is all)

  writer_is : writer_of was.service ≡ worker_count log + 1
  writer_is = ap writer_of same ∙ ap (λ (xs : List SessionItem). worker_count xs + 1) e

  pub piece_taken : AllWait → (o : Option A) → IfSome o IsPiece → IfSome o (λ piece. TakesPiece l log (of piece) (reverse now.items))
  piece_taken all None so = tt
  piece_taken all (Some piece) so = (
    (now.waiting, waits_log all (of piece ∷ now.waiting) so.0),
    one_more (item.Sent (writer_of was.service) (length (of piece))) was.items now.items so.1
        ∙ (ap (λ (xs : List SessionItem). xs ++ item.Sent (writer_of was.service) (length (of piece)) ∷ []) e
        ∙ ap (λ w. log ++ item.Sent w (length (of piece)) ∷ []) writer_is),
  )

  found : AllWait → (was.waiting ≡ []) ⊎ (is_lost was.items ≡ true) → Waits l log [] ⊎ (is_lost (reverse log) ≡ true)
  found all (inl none) = inl (waits_log all [] none)
  found all (inr lost) = inr (on_log (λ s xs ys. is_lost xs ≡ true) was.service was.items was.items log e same lost)

  pub none_taken : AllWait → (o : Option A) → IfNone o IsNoPiece → IfNone o (FindsNone l log (reverse now.items))
  none_taken all (Some piece) so = tt
  none_taken all None so = (ap (λ (s : SessionState). reverse s.items) so.1 ∙ e, found all so.0)

  pub piece_grows : (o : Option A) → IfSome o IsPiece → IfNone o IsNoPiece → Grows log (reverse now.items)
  piece_grows (Some piece) some none = grows_by (item.Sent (writer_of was.service) (length (of piece))) was.items now.items log e some.1
  piece_grows None some none = grows_not was.items now.items log e (ap (λ (s : SessionState). s.items) none.1)
