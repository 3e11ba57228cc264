use Rattle.core_rules.specs.Doc.{doc}
use Rattle.core_rules.proofs.CancelledLaw.{cancelled_within, stays_cancelled}
use Rattle.core_rules.proofs.UpdateNot.{update_not}
use Rattle.core_rules.proofs.laws.cancelled_law.Goals as goal

pub returns-clause-not_again : goal.returns-clause-not_again
returns-clause-not_again g c = λ h id nodes blobs e is.
    update_not (doc g.L.Language.lang h) nodes blobs e (cancelled_within g.L.Language.lang h) is

pub returns-clause-stays : goal.returns-clause-stays
returns-clause-stays g c = λ x h e is. stays_cancelled g.L.Language.lang x h e is
