-- How a session and a sink end.
use Rattle.std.proofs.Common.{◌≡◌, ℕ, List, Option}
use Rattle.language.specs.Lang.{Lang}
use Rattle.document_session.specs.Contents.{SessionState}
use Rattle.document_serve.specs.Runs.{IsEnded}

-- the session ends, and nothing is written
module _ {S A : Type 0} (l : Lang S) (session_of : A → SessionState) (held_of : A → Option (List ℕ)) (faults_of : A → ℕ) where
  abbrev pub Ends : A → A → Type 0
  Ends x y = IsEnded l (session_of x) (session_of y) × (held_of y ≡ held_of x) × (faults_of y ≡ faults_of x)
