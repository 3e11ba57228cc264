-- A message takes no part from a worker that works as it finds parts ready.
use Rattle.std.proofs.Common.{◌≡◌, ℕ, List, Some, inl, inr, refl, sym, ap, subst}
use Rattle.language.specs.Lang.{Lang}
use Rattle.message_values.specs.declared.editor_message.EditorMessage.TheVariants as asks
use Rattle.message_values.specs.declared.function.Function.TheVariants as function
use Rattle.message_values.specs.declared.mode.Mode.TheVariants as mode
use Rattle.message_values.specs.Asked.{asked}
use Rattle.message_values.specs.Functions.{word, function_named}
use Rattle.core_rules.specs.Standing.{held}
use Rattle.session_rules.specs.declared.service.Service.{Service}
use Rattle.session_rules.specs.declared.service.Service.TheVariants.{Workers}
use Rattle.session_rules.specs.Session.{Session}
use Rattle.session_rules.specs.Steps.{Due, Nothing, Claims, Finishes, due_of}
use Rattle.document_session.specs.keeping_rules_below.Items.{SessionItem, session_in}
use Rattle.session_rules.proofs.KnownHolding.{message_same}
use Rattle.session_rules.proofs.KnownNamed.{AskedLaw, claims_asked, finishes_asked}
use Rattle.document_session.specs.Answers.{IsAnswered, TakenSo}
use Rattle.document_session.specs.declared.taking.Taken.{Taken}
use Rattle.document_session.specs.declared.taking.Taken.TheVariants as taken

module _ {S : Type 0} (l : Lang S) (law : AskedLaw) (count : ℕ) (items : List SessionItem) (message : List (List ℕ)) where
  abbrev before : Session
  before = session_in l (Workers count) items

  -- no message calls for a step
  nothing_due : (d : Due) → due_of l (Workers count) before (asked mode.Serve message) ≡ d → d ≡ Nothing
  nothing_due Nothing e = refl
  nothing_due (Claims w) e =
      let never : function_named mode.Serve (word function.Claim) ≡ Some function.Claim =
      ((law mode.Serve message (asks.Claim w)).0 (claims_asked l (Workers count) before (asked mode.Serve message) w e)).2 in absurd (cc)
  nothing_due (Finishes w) e =
      let never : function_named mode.Serve (word function.Finish) ≡ Some function.Finish =
      ((law mode.Serve message (asks.Finish w)).0 (finishes_asked l (Workers count) before (asked mode.Serve message) w e)).2 in absurd (cc)

  answered_holds : (who : ℕ) (new : List SessionItem) → IsAnswered l (Workers count) items message new
      → held (session_in l (Workers count) new).events who ≡ held before.events who
  answered_holds who new (inl is) = subst (λ (xs : List SessionItem). held (session_in l (Workers count) xs).events who ≡ held before.events who)
      (sym is) (message_same l (Workers count) before who (asked mode.Serve message))
  answered_holds who new (inr (step, stepping, called, is)) =
      absurd (called (nothing_due (due_of l (Workers count) before (asked mode.Serve message)) refl))

  taken_holds : (who : ℕ) (new : List SessionItem) (r : Taken) → TakenSo l (Workers count) message items r new
      → held (session_in l (Workers count) new).events who ≡ held before.events who
  taken_holds who new taken.Replied so = answered_holds who new so
  taken_holds who new (taken.Waits back) so = ap (λ (xs : List SessionItem). held (session_in l (Workers count) xs).events who) so.1

  -- so the worker holds what it held
  pub still_holds : (who : ℕ) (service after : Service) (new : List SessionItem) (r : Taken) → service ≡ Workers count → after ≡ service
      → TakenSo l service message items r new
      → held (session_in l after new).events who ≡ held (session_in l service items).events who
  still_holds who service after new r is same so =
      subst (λ (v : Service). held (session_in l v new).events who ≡ held (session_in l service items).events who) (sym same)
      (subst (λ (v : Service). TakenSo l v message items r new → held (session_in l v new).events who ≡ held (session_in l v items).events who)
      (sym is) (taken_holds who new r) so)
