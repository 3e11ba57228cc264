use Rattle.std.proofs.Common.{rules, ◌≡◌, ◌++◌, length, false, ◌||◌, ap, ◌∙◌}
use Rattle.std.specs.Prelude.{◌==◌}
use Rattle.core_tables.specs.Tasks.{standing}
use Rattle.version_losses.specs.Leaving.{below}
use Rattle.prover_core.specs.Settling.{is_looked_at}
use Rattle.prover_core.proofs.LookedAt.{gathered}
use Rattle.prover_core.proofs.settling.looked_at.Goals as goal

pub returns : goal.returns
returns c = λ tip top live version are at e id.
    let some : (length c.args.cancelled.now == 0) ≡ false = search rules in
    let first : c.add_below.new.execs.items ≡ c.in_ok-all.all.items ++ below c.args.behind c.args.cancelled.now = search rules in
    let then : c.add_below-2.new.execs.items ≡ c.add_below.new.execs.items ++ below c.args.behind c.deref.result.now = search rules in
    gathered (standing c.args.queue.now) c.args.behind e c.in_ok-all.all.items c.args.cancelled.now c.add_below-2.new.execs.items
    c.add_below.new.execs.items c.in_ok-tasked.tasked.items some (c.in_ok-tasked.ensures e id) first
    (then ∙ ap (λ es. c.add_below.new.execs.items ++ below c.args.behind es) c.deref.ensures.value)
    ∙ ap (λ b. b || is_looked_at c.args.cancelled.now (standing c.args.queue.now) c.args.behind e)
    (c.in_ok-all.ensures tip top live version are at e)
