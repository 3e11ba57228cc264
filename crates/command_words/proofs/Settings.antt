-- Settings of a command line.
use Rattle.std.proofs.Common.{◌≡◌, true, map, ap}
use Rattle.clap.specs.Words.{app_of, shape_of}
use Rattle.clap.specs.Simple.{on_top, shape_of_fields}
use Rattle.clap.specs.declared.builder.command.Command.{Command}
use Rattle.clap.specs.declared.builder.command.Command.TheViews.{out-Command}

pub without_name : (c d : Command) → out-Command d ≡ record (out-Command c) { no_binary_name = true }
    → app_of d ≡ on_top (λ top. record top { no_binary_name = true }) (app_of c)
without_name c d e = ap (λ f. record { top = shape_of_fields f; subs = map shape_of f.subcommands.items }) e

pub requires_one : (c d : Command) → out-Command d ≡ record (out-Command c) { subcommand_required = true }
    → app_of d ≡ on_top (λ top. record top { subcommand_required = true }) (app_of c)
requires_one c d e = ap (λ f. record { top = shape_of_fields f; subs = map shape_of f.subcommands.items }) e
