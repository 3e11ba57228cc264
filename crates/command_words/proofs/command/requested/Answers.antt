use Rattle.std.proofs.Common.{rules, codes, Some, ◌≡◌, ◌∙◌, sym, ap}
use Rattle.std.specs.Prelude.{option_and_then}
use Rattle.clap.specs.Words.{found_of, rows_of, subcommand_rows_of}
use Rattle.command_words.specs.Asked.{request_of}
use Rattle.command_words.proofs.command.requested.Goals as goal

pub returns-in-gen : goal.returns-in-gen
returns-in-gen c =
    let is : subcommand_rows_of c.args.matches.now ≡ Some (codes "gen", rows_of (found_of c.in_ok-name.options.now)) = search rules in
    c.generated.ensures ∙ sym (ap (option_and_then request_of) is)
