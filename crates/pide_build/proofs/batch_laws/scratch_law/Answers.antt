use Rattle.pide_build.proofs.BatchParts.{is_scratch}
use Rattle.pide_build.proofs.batch_laws.scratch_law.Goals as goal

pub returns : goal.returns
returns g c = λ nodes blobs batches are. is_scratch g.L.Language.lang nodes blobs
    (c.batches_law.ensures.join nodes) (c.batches_law.ensures.before nodes) (c.order_law.ensures.once nodes)
    (λ p pair e good. (c.order_law.ensures.ordered nodes p pair e).1 good) batches are
