-- What is looked at for a settled version, once it is gathered.
use Rattle.std.proofs.Common.{◌≡◌, ℕ, Bool, true, false, not, ◌&&◌, ◌||◌, List, ◌++◌, length, refl, ap, sym, ◌∙◌}
use Rattle.std.proofs.Math.Bool.{or-false}
use Rattle.std.specs.Prelude.{◌==◌, nat_lt, is_some}
use Rattle.text_words.specs.Members.{has}
use Rattle.text_words.proofs.KnownMembers.{has_both, has_passing}
use Rattle.core_tables.specs.Ready.{Standings}
use Rattle.version_losses.specs.Leaving.{below}
use Rattle.prover_core.specs.Settling.{is_looked_at}

module _ (tasks : Standings) (n e : ℕ) (lost cancelled : List ℕ) where
  -- nothing of the tip, where nothing is cancelled
  pub lost_alone : (length cancelled == 0) ≡ true → has lost e ≡ (has lost e || is_looked_at cancelled tasks n e)
  lost_alone none = sym (ap (λ b. has lost e || (not b && (nat_lt e n && (has cancelled e || is_some (tasks e))))) none ∙ or-false (has lost e))

  by_cases : (a b c d : Bool) → ((a || (b && c)) || (b && d)) ≡ (a || (b && (c || d)))
  by_cases true b c d = refl
  by_cases false true c d = refl
  by_cases false false c d = refl

  -- what is cancelled and what has a task, below n
  pub gathered : (all more tasked : List ℕ) → (length cancelled == 0) ≡ false → has tasked e ≡ is_some (tasks e)
      → more ≡ lost ++ below n cancelled → all ≡ more ++ below n tasked
      → has all e ≡ (has lost e || is_looked_at cancelled tasks n e)
  gathered all more tasked some are first then =
      ap (λ es. has es e) (then ∙ ap (λ es. es ++ below n tasked) first)
      ∙ has_both (lost ++ below n cancelled) (below n tasked) e
      ∙ ap (λ b. b || has (below n tasked) e) (has_both lost (below n cancelled) e)
      ∙ ap (λ b. (has lost e || b) || has (below n tasked) e) (has_passing (λ x. nat_lt x n) cancelled e)
      ∙ ap (λ b. (has lost e || (nat_lt e n && has cancelled e)) || b) (has_passing (λ x. nat_lt x n) tasked e)
      ∙ ap (λ b. (has lost e || (nat_lt e n && has cancelled e)) || (nat_lt e n && b)) are
      ∙ by_cases (has lost e) (nat_lt e n) (has cancelled e) (is_some (tasks e))
      ∙ sym (ap (λ b. has lost e || (not b && (nat_lt e n && (has cancelled e || is_some (tasks e))))) some)
