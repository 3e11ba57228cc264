use Rattle.std.proofs.Common.{rules, codes, Some, None, ◌≡◌, ◌∙◌, sym}
use Rattle.clap.specs.Words.{first_value, found_of}
use Rattle.command_words.proofs.Numbers.{no_nodes, nodes_given}
use Rattle.command_words.proofs.command.nodes.Goals as goal

pub returns-in_err-get_str : goal.returns-in_err-get_str
returns-in_err-get_str c =
    let none : first_value (found_of c.args.options.now) (codes "nodes") ≡ None = search rules in
    let given = no_nodes (found_of c.args.options.now) none in search rules

pub returns : goal.returns
returns c =
    let text = c.in_ok-get_str.field-0.now in
    let some : first_value (found_of c.args.options.now) (codes "nodes") ≡ Some text = search rules in
    c.number.ensures ∙ sym (nodes_given (found_of c.args.options.now) text some)
