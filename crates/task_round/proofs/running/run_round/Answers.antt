-- What comes of the tasks that were done, all of them once.
use Rattle.std.proofs.Common.{◌≡◌, IsPermutation, length}
use Rattle.std.specs.List.{range_with_len}
use Rattle.std.proofs.lemmas.Result.{IfOk-weaker}
use Rattle.task_round.specs.Rounds.{AreMade}
use Rattle.task_round.specs.Results.{ComesOf}
use Rattle.task_round.proofs.Results.{all_made, as_many, each_once}
use Rattle.task_round.proofs.running.run_round.Goals as goal

pub returns-clause-length : goal.returns-clause-length
returns-clause-length g c =
    let makes = g.T.Tasks.makes c.args.tasks.now in let count = g.T.Tasks.count c.args.tasks.now in
    let done = c.in_ok-done.done.items in let all = c.in_ok-done.ensures.all in
    IfOk-weaker c.round_of.result (ComesOf done) (λ round. length round.made.items ≡ count)
    (λ round comes. as_many makes count done round all comes) c.round_of.ensures

pub returns-clause-made : goal.returns-clause-made
returns-clause-made g c =
    let makes = g.T.Tasks.makes c.args.tasks.now in let count = g.T.Tasks.count c.args.tasks.now in
    let done = c.in_ok-done.done.items in let all = c.in_ok-done.ensures.all in
    IfOk-weaker c.round_of.result (ComesOf done) (λ round. AreMade makes 0 round.made.items)
    (λ round comes. all_made makes count done round all c.in_ok-done.ensures.done comes) c.round_of.ensures

pub returns-clause-once : goal.returns-clause-once
returns-clause-once g c =
    let makes = g.T.Tasks.makes c.args.tasks.now in let count = g.T.Tasks.count c.args.tasks.now in
    let done = c.in_ok-done.done.items in let all = c.in_ok-done.ensures.all in
    IfOk-weaker c.round_of.result (ComesOf done) (λ round. IsPermutation (range_with_len 0 count) round.taken.items)
    (λ round comes. each_once makes count done round all comes) c.round_of.ensures
