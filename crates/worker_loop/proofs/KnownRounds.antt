-- Rounds after rounds are rounds, and tell what is held.
use Rattle.std.proofs.Common.{◌≡◌, List, [], ◌∷◌, ◌++◌, Option, None, Some, refl, sym, ap, ◌∙◌, append_assoc, append-nil, subst}
use Rattle.pide_base.specs.declared.part.Part.{Part}
use Rattle.hist_lock.specs.declared.view.View.{View}
use Rattle.worker_loop.specs.declared.said.Said.{Said}
use Rattle.worker_loop.specs.declared.said.Said.TheVariants as said
use Rattle.worker_loop.specs.declared.worker.Worked.{Worked}
use Rattle.worker_loop.specs.declared.worker.Worked.TheVariants as worked
use Rattle.worker_loop.specs.Held.{held_after, held_from, held_in}
use Rattle.worker_loop.specs.Rounds.{Steps, AreRounds, GoesOn}
use Rattle.worker_loop.specs.Worked.{StoppedSo}
use Rattle.worker_loop.proofs.KnownHeld.{held-append}

-- a step tells what is held after it
pub step_held : (held : Option Part) (what : Said) (next : Option Part) → Steps held what next → held_after held what ≡ next
step_held None (said.Claimed p) next s = sym s
step_held (Some p) (said.Finished q) next s = sym s.1
step_held (Some p) (said.Dropped q) next s = sym s.1
step_held None (said.Finished q) next s = absurd s
step_held None (said.Dropped q) next s = absurd s
step_held None said.Sent next s = absurd s
step_held None said.Lost next s = absurd s
step_held None said.Ended next s = absurd s
step_held None said.Other next s = absurd s
step_held (Some p) (said.Claimed q) next s = absurd s
step_held (Some p) said.Sent next s = absurd s
step_held (Some p) said.Lost next s = absurd s
step_held (Some p) said.Ended next s = absurd s
step_held (Some p) said.Other next s = absurd s

module _ {E : Type 0} (says : E → Said) where
  pub rounds_held : (held : Option Part) (es : List E) (after : Option Part) → AreRounds says held es after → held_from says held es ≡ after
  rounds_held held [] after r = sym r
  rounds_held held (e ∷ es) after r =
      ap (λ h. held_from says h es) (step_held held (says e) r.0 r.1) ∙ rounds_held r.0 es after r.2

  rounds_then : (a b c : Option Part) (xs ys : List E) → AreRounds says a xs b → AreRounds says b ys c → AreRounds says a (xs ++ ys) c
  rounds_then a b c [] ys first second = subst (λ h. AreRounds says h ys c) first second
  rounds_then a b c (x ∷ xs) ys first second = (first.0, first.1, rounds_then first.0 b c xs ys first.2 second)

  -- where nothing was made, nothing has changed
  pub stands : (v w : View E) (held : Option Part) → w.mine ≡ v.mine → GoesOn says v held w held
  stands v w held same = ([], same ∙ sym (append-nil v.mine), refl)

  -- rounds tell what a caller holds
  pub goes_held : (v w : View E) (a b : Option Part) → held_in says v.mine ≡ a → GoesOn says v a w b → held_in says w.mine ≡ b
  goes_held v w a b holds went =
      ap (held_in says) went.1 ∙ (held-append says _ v.mine went.0 ∙ (ap (λ h. held_from says h went.0) holds ∙ rounds_held a went.0 b went.2))

  -- one went on, and then went on
  pub goes_then : (v w x : View E) (a b c : Option Part) → GoesOn says v a w b → GoesOn says w b x c → GoesOn says v a x c
  goes_then v w x a b c first second = (
    first.0 ++ second.0,
    second.1 ∙ (ap (λ es. es ++ second.0) first.1 ∙ append_assoc v.mine first.0 second.0),
    rounds_then a b c first.0 second.0 first.2 second.2,
  )

  -- one went on, and then stopped
  pub stopped_then : (v w x : View E) (a b : Option Part) (why : Worked) → GoesOn says v a w b → StoppedSo says b w why x → StoppedSo says a v why x
  stopped_then v w x a b worked.Ended first second = (goes_then v w x a b None first second.0, second.1)
  stopped_then v w x a b worked.WriteFault first second = (goes_then v w x a b None first second.0, second.1)
  stopped_then v w x a b worked.NoMemory first second =
      ((second.0.0, goes_then v w x a b second.0.0 first second.0.1), second.1)
