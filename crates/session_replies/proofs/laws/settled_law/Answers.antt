use Rattle.std.proofs.Common.{◌&&◌, length}
use Rattle.core_rules.specs.Assigned.{assigns}
use Rattle.core_rules.specs.Doc.{doc}
use Rattle.core_rules.specs.Stuck.{is_stuck_in}
use Rattle.session_replies.proofs.RisingNumbers.{range_filtered}
use Rattle.session_replies.proofs.laws.settled_law.Goals as goal

pub returns : goal.returns
returns g c = λ h version.
    let l = g.L.Language.lang in
    range_filtered (λ e. assigns version e && is_stuck_in l h (doc l h) e) 1 (length (doc l h).homes)
