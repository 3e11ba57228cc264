use Rattle.std.proofs.Common.{◌≡◌, drop}
use Rattle.std.specs.Prelude.{find}
use Rattle.doc_nodes.specs.Imports.{is_bad}
use Rattle.exec_assign.proofs.keying.first_bad.Given as goal

abbrev pub invariant-imports : goal.invariant-imports
invariant-imports l = find (is_bad l.nodes) (drop l.place l.imports) ≡ find (is_bad l.nodes) l.imports
