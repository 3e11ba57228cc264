-- What was heard among moves, and the entries of a history from its beginning.
use Rattle.std.proofs.Common.{◌≡◌, List, [], ◌∷◌, ◌++◌, Some, refl, ap, sym, ◌∙◌}
use Rattle.reply_messages.specs.declared.told.Told.{Told}
use Rattle.session_rules.specs.declared.entry.Entry.{Entry}
use Rattle.mirror_rules.specs.Events.{heard_moves}
use Rattle.mirror_rules.specs.Moves.{Move, Sent, Heard, Broken}
use Rattle.editor_laws.proofs.HeardReplies.{HeardTold}
use Rattle.editor_laws.proofs.KnownWalking.{whole}

-- what was heard is one list of replies
pub heard_same : (moves : List Move) (f g : List Told) → HeardTold moves f → HeardTold moves g → f ≡ g
heard_same [] f g x y = x ∙ sym y
heard_same (Sent read ∷ moves) f g x y = absurd x
heard_same (Broken fault ∷ moves) f g x y = absurd x
heard_same (Heard at reply ∷ moves) f g (a, t, p, r, x) (b, u, q, s, y) =
    let told : Some t ≡ Some u = sym r ∙ s in
    let same : t ≡ u = cc in
    p ∙ ap (λ us. us ++ t ∷ []) (heard_same moves a b x y) ∙ ap (λ z. b ++ z ∷ []) same ∙ sym q

pub next_of : (history : List Entry) → (next : List Entry) × (history ≡ whole next [])
next_of [] = ([], refl)
next_of (e ∷ h) = let r = next_of h in (r.0 ++ e ∷ [], ap (λ hs. e ∷ hs) r.1 ∙ sym (last r.0 []))
  where
    last : (next hs : List Entry) → whole (next ++ e ∷ []) hs ≡ e ∷ whole next hs
    last [] hs = refl
    last (x ∷ next) hs = last next (x ∷ hs)
