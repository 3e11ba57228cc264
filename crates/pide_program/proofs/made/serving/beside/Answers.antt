-- A run that is done has answered all.
use Rattle.std.proofs.Common.{◌≡◌, Some}
use Rattle.pide_base.specs.declared.status.Status.TheVariants as status
use Rattle.pide_program.specs.Answered.{Answered}
use Rattle.pide_program.proofs.Asking.{answered, ok_with}
use Rattle.pide_program.proofs.made.serving.beside.Goals as goal

pub returns : goal.returns
returns g c = ok_with c.done.result (c.serve-served.result.status ≡ status.Done) c.serve-served.result.session
    (Answered g.L.Language.lang c.args.session.service c.args.source.left) c.done.ensures.status c.done.ensures.session
    (answered g.L.Language.lang c.args.source.left (Some c.serve-served.result.source.left) c.args.session.service c.serve-served.result.session c.serve-served.result.status
    c.serve-served.ensures.service c.serve-served.ensures.one_legal_history c.serve-served.ensures.messages_read c.serve-served.ensures.done)
