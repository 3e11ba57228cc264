-- The commands that have the execution are those that are found for it.
use Rattle.std.proofs.Common.{◌≡◌, ℕ, Some, ap, sym, ◌∙◌}
use Rattle.std.specs.Option.{option_and_then}
use Rattle.std.specs.Ordering.{nat_cmp}
use Rattle.shared_map.specs.Pairs.{found}
use Rattle.pide_mirror.specs.Tables.{table_of}
use Rattle.pide_mirror.proofs.places.Places.told.Goals as goal

pub returns-clause-taken : goal.returns-clause-taken
returns-clause-taken c =
    let at : Some c.in-Some.commands.now ≡ found nat_cmp c.args.told.now.part.exec c.args.self.now.by_exec
    = c.in-Some.ensures ∙ ap (λ e. found nat_cmp e c.args.self.now.by_exec) c.number-exec.ensures.value in
    let same : (d : ℕ) → found nat_cmp d c.in-Some.commands.now ≡ table_of c.args.self.now c.args.told.now.part.exec d
    = λ d. ap (option_and_then (found nat_cmp d)) at in
    let taken = c.in_ok-commands.ensures.taken in (
      λ is. let one = taken.0 is in (one.0, one.1, sym (same one.0) ∙ one.2, one.3),
      λ one. taken.1 (one.0, one.1, same one.0 ∙ one.2, one.3),
    )
