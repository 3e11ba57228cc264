use Rattle.exec_rules.proofs.KeyLaws.{key_is, is_key}
use Rattle.exec_rules.proofs.laws.key_law.Goals as goal

pub returns : goal.returns
returns c = λ a b. (key_is a b, is_key a b)
