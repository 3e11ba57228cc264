use Rattle.session_replies.proofs.ShownParts.{pending_rises, shown_is, told_moves}
use Rattle.session_replies.proofs.ToldMessages.{snapshot_told}
use Rattle.session_replies.proofs.laws.snapshot_law.Goals as goal

pub returns-clause-shown : goal.returns-clause-shown
returns-clause-shown g c = λ h id name edits results legal found.
    shown_is g.L.Language.lang h id name results found c.core_law.ensures.shown legal edits

pub returns-clause-rises : goal.returns-clause-rises
returns-clause-rises g c = λ h id name results found. pending_rises g.L.Language.lang h id name results found

pub returns-clause-movable : goal.returns-clause-movable
returns-clause-movable g c = λ h id name edits results node legal found at fit.
    told_moves g.L.Language.lang h id name results found c.core_law.ensures.shown legal g.met.L.Language.tidy edits node at fit

pub returns-clause-told : goal.returns-clause-told
returns-clause-told g c = λ service s id name edits results node text legal found at edited.
    snapshot_told g.L.Language.lang service s c.core_law.ensures.shown id name edits results node text legal found at edited
