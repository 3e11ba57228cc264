use Rattle.nj_syntax.proofs.KnownTokens.{tokens_are, cut_is}
use Rattle.nj_syntax.proofs.token_law.one_cut.Goals as goal

pub returns : goal.returns
returns c = record { has = tokens_are; one = λ text ts stop whole h. cut_is h }
