use Rattle.std.proofs.Common.{ap, lit≤}
use Rattle.std.specs.Prelude.{is_ok}
use Rattle.proof_terms.specs.Reading.{deepest}
use Rattle.suggest_rules.specs.Names.{citable}
use Rattle.nj_suggest.proofs.SeenLemmas.{citable-seen}
use Rattle.nj_suggest.proofs.SoundLemmas.{within_right}
use Rattle.nj_suggest.proofs.laws.suggestion_law.Goals as goal

pub returns : goal.returns
unfolding deepest
returns c goal scope aliases t plain found =
    ap is_ok (within_right aliases 4 200 (lit≤ tt) (citable scope.locals) scope (citable-seen scope.locals plain) goal t found).is
