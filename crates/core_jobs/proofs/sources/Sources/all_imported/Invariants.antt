use Rattle.std.proofs.Common.{◌≡◌, ◌++◌, zip, length}
use Rattle.std.specs.Option.{option_map}
use Rattle.core_jobs.specs.Inputs.{known_state, all_imported}
use Rattle.core_jobs.proofs.sources.Sources.all_imported.Given as goal

abbrev pub invariant-imports : goal.invariant-imports
invariant-imports g l =
    let found = all_imported g.L.Language.lang l.fn.self.nodes.now (known_state l.fn.self.execs.now.rows) in
    found (zip l.fn.names l.fn.lasts) ≡ option_map (λ ys. l.all ++ ys) (found (zip l.more l.rest))

abbrev pub decreases-imports : goal.decreases-imports
decreases-imports g l = length l.more
