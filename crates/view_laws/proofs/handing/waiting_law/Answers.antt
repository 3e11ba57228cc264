use Rattle.view_laws.proofs.KnownHanded.{waiting_grows}
use Rattle.view_laws.proofs.handing.waiting_law.Goals as goal

pub returns : goal.returns
returns g c = λ seen log before now are_seen are p same w v.
    waiting_grows g.L.Language.lang seen log before now are_seen are p same w v
