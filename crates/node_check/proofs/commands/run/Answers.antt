-- What is reported of a command lies in its source, since the language is tidy.
use Rattle.std.proofs.Common.{◌≡◌, true, None, sym, ap, ◌∙◌}
use Rattle.language.specs.declared.made.Made.{Made}
use Rattle.node_check.proofs.Tidy.{fork_lies, reports_lie}
use Rattle.node_check.proofs.commands.run.Goals as goal

pub add_moved-requires-clause-lie : goal.add_moved-requires-clause-lie
add_moved-requires-clause-lie g c =
    let l = g.L.Language.lang in
    let source = c.scalars-source.result.now in
    let forks : (l.step source None c.args.state.now).forks ≡ true =
    sym (ap (λ (m : Made g.row.L-State.Denot). m.forks) c.in_ok-made.ensures) ∙ c.if-made.true in
    rw c.in_ok-later.ensures (fork_lies l g.met.L.Language.tidy source c.args.state.now forks)

pub add_moved-requires-2-clause-lie : goal.add_moved-requires-2-clause-lie
add_moved-requires-2-clause-lie g c =
    let l = g.L.Language.lang in
    let source = c.scalars-source.result.now in
    rw c.in_ok-made.ensures (reports_lie l g.met.L.Language.tidy source c.args.state.now)
