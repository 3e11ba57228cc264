-- What an execution does next tells that it was made.
use Rattle.std.proofs.Common.{◌≡◌, ℕ, ◌≤◌, List, length, Option, Some, None, refl}
use Rattle.std.specs.Option.{option_and_then}
use Rattle.pide_base.specs.declared.part.PartKind.{PartKind}
use Rattle.exec_rules.specs.declared.home.Home.{Home}
use Rattle.language.specs.Lang.{Lang}
use Rattle.core_rules.specs.declared.event.Event.{Event}
use Rattle.core_rules.specs.Numbered.{numbered}
use Rattle.core_rules.specs.Parts.{forks}
use Rattle.core_rules.specs.Doc.{doc}
use Rattle.prover_core.specs.Progress.{completed_in, next_kind, next_of}
use Rattle.core_rules.proofs.KnownNumbers.{numbered_within}

pub made_next : {S : Type 0} (l : Lang S) (h : List Event) (e : ℕ) (x : PartKind) → next_of l h (doc l h) e ≡ Some x
    → e ≤ length (doc l h).homes
made_next l h e x is = go (numbered (doc l h).homes e) refl is
  where
    go : (o : Option Home) → numbered (doc l h).homes e ≡ o
        → option_and_then (λ (y : Home). next_kind y.input (forks l (doc l h).homes e) (completed_in h e)) o ≡ Some x → e ≤ length (doc l h).homes
    go None at is = absurd (cc)
    go (Some y) at is = numbered_within (doc l h).homes e y at
