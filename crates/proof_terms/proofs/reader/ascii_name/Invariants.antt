use Rattle.std.proofs.Common.{◌≡◌, ◌++◌, drop}
use Rattle.std.specs.Prelude.{string_bytes}
use Rattle.proof_terms.specs.Marks.{is_ascii}
use Rattle.proof_terms.proofs.reader.ascii_name.Given as goal

abbrev pub invariant-loop-c : goal.invariant-loop-c
invariant-loop-c l = (string_bytes l.letters ++ drop l.c-index l.scalars ≡ l.scalars)
    × (is_ascii l.scalars ≡ is_ascii (drop l.c-index l.scalars))
