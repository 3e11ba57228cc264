use Rattle.std.proofs.Common.{◌==◌, ap}
use Rattle.std.specs.Map.{lookup}
use Rattle.document_session.proofs.Begun.{begun}
use Rattle.document_session.proofs.session.Session.new.Goals as goal

pub invariant_of-result : goal.invariant_of-result
invariant_of-result g c = begun g.L.Language.lang c.args.service _ _ _ _ c.in-Ok-new.ensures.items c.in-Ok-new.ensures.waiting
    c.in-Ok-new.ensures.free c.new-in-Ok-new.ensures c.in-Ok.ensures c.requires.workers (λ who. ap (lookup (λ x. who == x)) c.new-in-Ok-new-2.ensures.empty)
