-- The messages are those that make the document.
use Rattle.std.proofs.Common.{ap}
use Rattle.pide_io.specs.Memory.{SourceState}
use Rattle.pide_program.proofs.Asking.{made, ok_on}
use Rattle.pide_program.proofs.made.serving.made.Goals as goal

pub returns-then-workers-eq0 : goal.returns-then-workers-eq0
returns-then-workers-eq0 g c = ok_on c.alone.result _ _ (λ s is. made g.L.Language.lang c.one_reading.ensures c.args.count c.args.workers
    c.in_ok-bytes.bytes.items c.new-source.result.left c.in-Ok.session.service s c.in_ok-bytes.ensures
    (ap (λ (x : SourceState). x.left) c.new-source.ensures) c.in-Ok.ensures.service is) c.alone.ensures

pub returns-else-workers-eq0 : goal.returns-else-workers-eq0
returns-else-workers-eq0 g c = ok_on c.beside.result _ _ (λ s is. made g.L.Language.lang c.one_reading.ensures c.args.count c.args.workers
    c.in_ok-bytes.bytes.items c.new-source.result.left c.in-Ok.session.service s c.in_ok-bytes.ensures
    (ap (λ (x : SourceState). x.left) c.new-source.ensures) c.in-Ok.ensures.service is) c.beside.ensures
