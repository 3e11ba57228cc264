-- A message that was answered at once, and its reply written.
use Rattle.std.proofs.Common.{◌≡◌, ℕ, List, [], ◌∷◌, Option, Result, OnOk, IfErr, subst}
use Rattle.language.specs.Lang.{Lang}
use Rattle.session_rules.specs.declared.service.Service.{Service}
use Rattle.session_rules.proofs.KnownNamed.{AskedLaw}
use Rattle.document_session.specs.keeping_rules_below.Legal.{AreLegal}
use Rattle.document_session.specs.Answers.{IsAnswered}
use Rattle.document_session.specs.Contents.{SessionState}
use Rattle.message_input.specs.Answers.{HaltsAmong}
use Rattle.message_input.specs.declared.answering.Halt.{Halt}
use Rattle.document_serve.specs.Going.{IsAtRest}
use Rattle.document_serve.specs.Laws.{ListLaws}
use Rattle.document_serve.specs.Runs.{GoesOn, StopsSo, WrittenSo}
use Rattle.document_serve.proofs.Answered.{answer_err, answer_ok}
use Rattle.document_serve.proofs.At.{IsAt, at_first}
use Rattle.document_serve.proofs.Stepping.{IsAfter, answered}

module _ {S : Type 0} (l : Lang S) (laws : ListLaws l) (law : AskedLaw) (held now : Option (List ℕ)) (old mid new : SessionState)
    (message : List (List ℕ)) (rests : IsAtRest l old) (service : mid.service ≡ old.service) (legal : AreLegal l mid.service mid.items)
    (is : IsAnswered l old.service old.items message mid.items) where
  at : IsAt l held held old old message message
  at = at_first l held old message rests

  after : IsAfter l old.service old.items law message mid.items
  after = answered l old.service old.items law message mid.items (subst (λ (v : Service). AreLegal l v mid.items) service legal)
      (λ xs are. laws.sends old.service xs are) at.going.alone at.going.legal is

  -- it goes on
  pub written_ok : (r : Result (Unit {0}) Halt) → WrittenSo l held now mid new r → OnOk r (GoesOn l held now old new (message ∷ []))
  written_ok r w = answer_ok l law held held old old message message at mid new now service after legal r w

  -- or the sink fails
  pub written_err : (r : Result (Unit {0}) Halt) → WrittenSo l held now mid new r
      → IfErr r (λ h. HaltsAmong (λ (o : SessionState) first x rest (n : SessionState). StopsSo l x held now o n first rest) old (message ∷ []) h new)
  written_err r w = answer_err l law held held old old message message at mid new now service after legal r w
