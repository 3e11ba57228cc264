-- A run that is done has answered all.
use Rattle.std.proofs.Common.{◌≡◌, Some}
use Rattle.pide_base.specs.declared.status.Status.TheVariants as status
use Rattle.pide_program.specs.Answered.{Answered}
use Rattle.pide_program.proofs.Asking.{answered, ok_with}
use Rattle.pide_program.proofs.made.serving.alone.Goals as goal

pub returns : goal.returns
returns g c = ok_with c.done.result (c.serve-status.result.status ≡ status.Done) c.serve-status.result.session
    (Answered g.L.Language.lang c.args.session.service c.args.source.left) c.done.ensures.status c.done.ensures.session
    (answered g.L.Language.lang c.args.source.left (Some c.serve-status.new.source.left) c.args.session.service c.serve-status.result.session c.serve-status.result.status
    c.serve-status.ensures.service c.serve-status.ensures.one_legal_history c.serve-status.ensures.messages_read c.serve-status.ensures.done)
