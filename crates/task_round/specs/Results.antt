-- What comes of the tasks that were done.
use Rattle.std.specs.Prelude.{◌≡◌, List, map, IsPermutation}
use Rattle.std.specs.List.Sorted.{IsNonDecreasingBy}
use Rattle.task_round.specs.declared.tasks.Done.{Done}
use Rattle.task_round.specs.declared.ordering.Round.{Round}
use Rattle.task_round.specs.Workers.{numbers}

-- the round's results are those of these tasks, by their numbers
pub record ComesOf {M : Type 0} (done : List (Done M)) (round : Round M) : Type 0 where
  pub sorted : List (Done M)
  pub same : IsPermutation done sorted
  pub rises : IsNonDecreasingBy (λ (d : Done M). d.task) sorted
  pub made : round.made.items ≡ map (λ d. d.made) sorted
  pub taken : round.taken.items ≡ numbers done
