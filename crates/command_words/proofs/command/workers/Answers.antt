use Rattle.std.proofs.Common.{rules, codes, Some, None, ◌≡◌, ◌∙◌, sym}
use Rattle.clap.specs.Words.{first_value, found_of}
use Rattle.command_words.proofs.Numbers.{no_workers, workers_given}
use Rattle.command_words.proofs.command.workers.Goals as goal

pub returns-in-Some : goal.returns-in-Some
returns-in-Some c =
    let text = c.in-Some.text.now in
    let some : first_value (found_of c.args.options.now) (codes "workers") ≡ Some text = search rules in
    c.number.ensures ∙ sym (workers_given (found_of c.args.options.now) text some)

pub returns-in-None : goal.returns-in-None
returns-in-None c =
    let none : first_value (found_of c.args.options.now) (codes "workers") ≡ None = search rules in
    sym (no_workers (found_of c.args.options.now) none)
