-- What the writer takes, as it is told.
use Rattle.std.proofs.Common.{◌≡◌, ℕ, List, ◌∷◌, length, Option, Some, None, sym, ap, subst, ◌∙◌}
use Rattle.std.specs.Prelude.{IfSome, IfNone}
use Rattle.reply_outbox.specs.declared.item.Item.TheVariants as item
use Rattle.reply_outbox.specs.Waiting.{Log, IsSent, IsStill}
use Rattle.session_rules.specs.declared.entry.Entry.{Entry}
use Rattle.session_rules.specs.declared.service.Service.{Service}
use Rattle.keeping_rules.specs.Items.{SessionItem, writer_of}
use Rattle.document_session.specs.Contents.{SessionState}

-- where a reply is sent the state after it is sound, and where none is it is as it was
pub sent_or_still : {V : Type 0} (Q : Log Service Entry → Type 0) (of : V → List ℕ) (o : Option V) (writer : ℕ) (old new : Log Service Entry)
    → ((bytes : List ℕ) → IsSent writer bytes old new → Q new) → Q old
    → IfSome o (λ bytes. IsSent writer (of bytes) old new) → IfNone o (IsStill old × (new ≡ old)) → Q new
sent_or_still Q of (Some bytes) writer old new step k some none = step (of bytes) some
sent_or_still Q of None writer old new step k some none = subst Q (sym none.1) k

-- what is told of it
pub sent_told : {V : Type 0} (of : V → List ℕ) (o : Option V) (writer : ℕ) (old new : Log Service Entry) (now : SessionState)
    → writer ≡ writer_of now.service → old.items ≡ now.items → old.waiting ≡ now.waiting
    → IfSome o (λ bytes. IsSent writer (of bytes) old new)
    → IfSome o (λ bytes. (now.waiting ≡ of bytes ∷ new.waiting)
    × (new.items ≡ item.Sent (writer_of now.service) (length (of bytes)) ∷ now.items))
sent_told of None writer old new now is items waiting some = tt
sent_told of (Some bytes) writer old new now is items waiting some = (
  sym waiting ∙ some.first,
  some.told ∙ ap (λ w. item.Sent w (length (of bytes)) ∷ old.items) is
      ∙ ap (λ (xs : List SessionItem). item.Sent (writer_of now.service) (length (of bytes)) ∷ xs) items,
)
