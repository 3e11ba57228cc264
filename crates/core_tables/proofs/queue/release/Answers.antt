use Rattle.std.proofs.Common.{rules, ◌≡◌, Some, None, sym, ◌∙◌}
use Rattle.core_tables.specs.Kept.{looked}
use Rattle.core_tables.proofs.queue.release.Goals as goal

pub returns-in_default-clause-free : goal.returns-in_default-clause-free
returns-in_default-clause-free c s is =
    let none : looked c.get_mut.follows.lender-at-none c.args.waiter ≡ None = search rules in
    let clash : None ≡ Some s = sym none ∙ is in cc
