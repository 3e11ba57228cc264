-- Where messages wait behind others, work goes on for the first of them (this project's own).
use Rattle.std.specs.Prelude.{zero, suc, ℕ, List, [], ◌∷◌, ◌++◌}
use Rattle.std.proofs.Common.{inl, inr}
use Rattle.language.specs.Lang.{Lang}
use Rattle.session_rules.specs.declared.service.Service.{Service}
use Rattle.session_rules.specs.Heard.{Heard, Message, Claimed, Finished, Dropped, Ended}
use Rattle.session_rules.proofs.KnownStays.{may_wait}
use Rattle.document_serve.specs.Going.{IsBegunFor, IsLeftFor, IsWorkedFor, awaited_by}

module _ {S : Type 0} (l : Lang S) (service : Service) where
  -- one thread may have worked for the first of more
  pub more_waits : (rest more : List (List (List ℕ))) (h : List Heard)
      → IsWorkedFor l service rest h → IsWorkedFor l service (rest ++ more) h
  more_waits (message ∷ rest) more h a = a
  more_waits [] [] h a = a
  more_waits [] (message ∷ more) h a = may_wait l service (awaited_by l service h message) h a

  -- and have begun on a part for it
  more_begun : (rest more : List (List (List ℕ))) (h : List Heard)
      → IsBegunFor l service rest h → IsBegunFor l service (rest ++ more) h
  more_begun [] more h a = absurd (a)
  more_begun (message ∷ rest) more (Claimed zero part ∷ h) a = a
  more_begun (message ∷ rest) more (Claimed (suc w) part ∷ h) a = absurd (a)
  more_begun (message ∷ rest) more (Message read ∷ h) a = absurd (a)
  more_begun (message ∷ rest) more (Finished who part ∷ h) a = absurd (a)
  more_begun (message ∷ rest) more (Dropped who part ∷ h) a = absurd (a)
  more_begun (message ∷ rest) more (Ended ∷ h) a = absurd (a)
  more_begun (message ∷ rest) more [] a = absurd (a)

  -- and so it may be left
  pub more_left : (rest more : List (List (List ℕ))) (h : List Heard)
      → IsLeftFor l service rest h → IsLeftFor l service (rest ++ more) h
  more_left rest more h (inl a) = inl (more_waits rest more h a)
  more_left rest more h (inr a) = inr (more_begun rest more h a)
