-- The list tells how the session is served.
use Rattle.std.proofs.Common.{◌≡◌, reverse, sym, ap, subst, ◌∙◌}
use Rattle.session_rules.specs.declared.service.Service.TheVariants.{Workers}
use Rattle.document_session.specs.keeping_rules_below.Legal.{AreLegal}
use Rattle.thread_serve.proofs.locked.Locked.new.Goals as goal

pub invariant_of-result : goal.invariant_of-result
invariant_of-result g c =
    let are = subst (λ s. AreLegal g.L.Language.lang s c.args.session.items) c.requires.workers.1 c.requires.legal in
    c.requires.workers.1 ∙ ap Workers (sym (c.list_law.ensures.workers c.requires.workers.0 c.args.session.items are))
