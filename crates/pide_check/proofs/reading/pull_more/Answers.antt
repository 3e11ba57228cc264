-- A piece for which memory was wanting had been taken.
use Rattle.std.proofs.Common.{◌+◌, ◌++◌, List, ℕ, Option, arith, length, take}
use Rattle.std.specs.Io.KnownBytes.{Consumes}
use Rattle.pide_check.specs.Reading.{TookSo}
use Rattle.pide_check.proofs.Pulling.{pulled_more}
use Rattle.pide_check.proofs.reading.pull_more.Goals as goal
use Rattle.pide_check.proofs.KnownErrors.{on_err}

pub returns-in_err-extend_from_slice-in-Bytes-clause-err :
    goal.returns-in_err-extend_from_slice-in-Bytes-clause-err
returns-in_err-extend_from_slice-in-Bytes-clause-err g c =
    let taken : (first : Option (List ℕ)) → Consumes first (g.S.Source.left c.args.source.now) c.args.bytes.now.items
    → TookSo first (g.S.Source.left c.pull.new.self) (length c.args.bytes.now.items + length c.args.buffer.now) =
    λ first took. let all = pulled_more first _ _ c.args.bytes.now.items c.pull.new.buffer c.in-Bytes.count took c.in-Bytes.ensures.bytes in
    (c.args.bytes.now.items ++ take c.in-Bytes.count c.pull.new.buffer, all.0, omega arith) in
    on_err c.from_residual.result taken
