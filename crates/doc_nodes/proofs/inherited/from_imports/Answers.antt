use Rattle.doc_nodes.proofs.CleanFolds.{folded_import}
use Rattle.doc_nodes.proofs.inherited.from_imports.Goals as goal

pub imports-preserved : goal.imports-preserved
imports-preserved c = λ done are.
    folded_import done c.args.aims.now c.imports.aim-index c.imports.folding _ c.imports-test.true
    (c.imports.invariant done are)
    (c.in_ok-folding.ensures done are)
