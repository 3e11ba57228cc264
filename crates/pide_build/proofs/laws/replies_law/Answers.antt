-- Bytes are read in one way.
use Rattle.std.proofs.Common.{sym, ap}
use Rattle.byte_message.proofs.KnownEndings.{one-reading}
use Rattle.pide_build.specs.Runs.{all_replies}
use Rattle.pide_build.proofs.laws.replies_law.Goals as goal

pub returns : goal.returns
returns g c = λ bytes messages others ending other first second.
    ap (all_replies g.L.Language.lang) (sym (one-reading bytes messages others ending other first second).0)
