use Rattle.std.proofs.Common.{◌≡◌, ◌++◌, drop, map}
use Rattle.std.specs.Prelude.{string_bytes}
use Rattle.nj_syntax.specs.ArgumentText.{argument_text, listed, after_commas}
use Rattle.nj_syntax.proofs.print_arguments.+arguments.Given as goal

abbrev pub invariant-write_arguments-loop-argument : goal.invariant-write_arguments-loop-argument
invariant-write_arguments-loop-argument l =
    string_bytes l.text ++ after_commas (map (argument_text l.names.items) (drop l.argument-index l.others))
    ≡ string_bytes l.fn.text ++ listed (map (argument_text l.names.items) l.arguments)
