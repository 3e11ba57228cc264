-- The program's command line, as one of `clap`'s (the commands are this project's own).
use Rattle.std.specs.Prelude.{ℕ, List, true, Some, pos, codes}
use Rattle.clap.specs.Words.{App, Rule, new_app, new_rule, with_rule, with_subcommand}
use Rattle.clap.specs.Simple.{on_top}
use Rattle.clap.specs.declared.builder.value_parser.ValueParser.TheVariants.{Signed}

-- `--workers` with a number from 0 to 16
abbrev pub workers : Rule
workers = record (new_rule (codes "workers")) {
  long = Some (codes "workers");
  parser = Some (Signed (pos 0) (pos 16));
}

-- a number from 1 to 1,000, which must be given
abbrev pub nodes : Rule
nodes = record (new_rule (codes "nodes")) {
  required = true;
  parser = Some (Signed (pos 1) (pos 1000));
}

-- a command of this name, with workers
abbrev pub with_workers : List ℕ → App
with_workers name = with_rule (new_app name) workers

-- the program's name isn't among the words, and one of the commands is
abbrev pub bare : App
bare = on_top (λ top. record top { no_binary_name = true; subcommand_required = true })
    (new_app (codes "pide"))

-- the commands that read messages or a text
abbrev pub readers : App
readers = with_subcommand (with_subcommand (with_subcommand (with_subcommand bare
    (with_workers (codes "serve")).top) (new_app (codes "replay")).top)
    (new_app (codes "mirror")).top) (new_app (codes "check")).top

-- all commands
abbrev pub program : App
program = with_subcommand (with_subcommand readers (with_workers (codes "build")).top)
    (with_rule (with_workers (codes "gen")) nodes).top
