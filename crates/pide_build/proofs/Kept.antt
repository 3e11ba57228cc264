-- A theory more is kept.
use Rattle.std.proofs.Common.{◌≡◌, ℕ, List, [], ◌∷◌, ◌++◌, Option, Result, Ok, sym, ap, subst, arith}
use Rattle.std.specs.Io.KnownBytes.{Appends}
use Rattle.std.proofs.KnownBytes.{Appends-nil}
use Rattle.message_values.specs.declared.refusal.Refusal.{Refusal}
use Rattle.pide_build.specs.declared.theories.Taken.{Taken}
use Rattle.pide_build.specs.declared.theories.Taken.TheVariants.{Kept, Refused}
use Rattle.pide_build.specs.Answers.{GoesOn}
use Rattle.pide_build.specs.Replies.{refusal_of}
use Rattle.pide_build.specs.Taking.{TakesSo}
use Rattle.pide_build.specs.Theories.{TheoryList, kept_by, next_theories}

-- what is kept is what the message makes
pub made_kept : (t : Taken) (made : Result TheoryList Refusal) (old new : TheoryList) → t ≡ Kept
    → TakesSo (Ok t) made old new → made ≡ Ok new
made_kept Kept made old new is takes = takes
made_kept (Refused reason) made old new is takes = absurd (cc)

-- so the message is answered, and nothing is written
pub goes_kept : (held : Option (List ℕ)) (faults : ℕ) (old new : TheoryList) (message : List (List ℕ))
    → next_theories message old ≡ Ok new → GoesOn held held faults faults old new (message ∷ [])
goes_kept held faults old new message made = record {
  theories = ap (λ r. kept_by r old) (sym made);
  writes = subst (λ r. Appends held held (refusal_of r ++ [])) (sym made) (Appends-nil held);
  steady = omega arith;
}
