-- What calls tell of looks and of steps that may be refused, by what they answer.
use Rattle.std.proofs.Common.{◌≡◌, ℕ, List, Result, Ok, Err, sym, ap, subst, ◌∙◌}
use Rattle.std.specs.Result.{IfOk, IsErrAnd}
use Rattle.language.specs.Lang.{Lang}
use Rattle.message_values.specs.declared.editor_message.EditorMessage.{EditorMessage}
use Rattle.message_values.specs.declared.refusal.Refusal.{Refusal}
use Rattle.editor_buffer.specs.declared.fault.PrepareError.{PrepareError}
use Rattle.editor_buffer.specs.declared.fault.PrepareError.TheVariants.{Refused}
use Rattle.editor_buffer.specs.Telling.{Tells}
use Rattle.session_rules.specs.declared.service.Service.{Service}
use Rattle.session_rules.specs.Session.{Session}
use Rattle.session_rules.specs.Accepting.{taken}
use Rattle.keeping_rules.specs.Looks.{IsLook}
use Rattle.document_session.specs.Looks.{LookedSo}

-- a step that is refused
pub refused_step : {A B : Type 0} (view : A → B) (r : Result A PrepareError) (step : Result B Refusal) (reason : Refusal) → r ≡ Err (Refused reason)
    → Tells view r step → step ≡ Err reason
refused_step {A} view r step reason is told = subst (λ (x : Result A PrepareError). Tells view x step) is told

module _ {S A : Type 0} (l : Lang S) (service : Service) (s : Session) (m : EditorMessage) (bytes : A → List ℕ) (r : Result A PrepareError) where
  -- a look that is refused, and one that is told, where this is asked
  pub refused_look : (read : Result EditorMessage Refusal) (reason : Refusal) → read ≡ Ok m → r ≡ Err (Refused reason) → LookedSo l service s m bytes r
      → taken l service s read ≡ Err reason
  refused_look read reason asks_it is so = ap (λ (x : Result EditorMessage Refusal). taken l service s x) asks_it
      ∙ subst (λ (x : Result A PrepareError). LookedSo l service s m bytes x) is so

  pub told_look : (read : Result EditorMessage Refusal) (reply : A) → read ≡ Ok m → r ≡ Ok reply → LookedSo l service s m bytes r
      → IsLook l service s read (bytes reply)
  told_look read reply asks_it is so = subst (λ (x : Result EditorMessage Refusal). IsLook l service s x (bytes reply)) (sym asks_it)
      (subst (λ (x : Result A PrepareError). LookedSo l service s m bytes x) is so)

-- an error that is passed on
pub passed_look : {S A : Type 0} (l : Lang S) (service : Service) (s : Session) (m : EditorMessage) (bytes : A → List ℕ) (r : Result A PrepareError)
    (e : PrepareError) → IsErrAnd r (λ shown. shown ≡ e) → LookedSo l service s m bytes (Err e) → LookedSo l service s m bytes r
passed_look l service s m bytes (Ok reply) e is so = absurd is
passed_look l service s m bytes (Err shown) e is so =
    subst (λ (x : PrepareError). LookedSo l service s m bytes (Err x)) (sym is) so

-- what is told where something failed
pub err_not_ok : {A E : Type 0} (Q : A → Type 0) (r : Result A E) (e : E) → IsErrAnd r (λ shown. shown ≡ e) → IfOk r Q
err_not_ok Q (Ok made) e is = absurd is
err_not_ok Q (Err shown) e is = tt
