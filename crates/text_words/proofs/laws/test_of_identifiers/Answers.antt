use Rattle.text_words.proofs.KnownIdentifiers.{identifier-tested, tested-identifier}
use Rattle.text_words.proofs.laws.test_of_identifiers.Goals as goal

pub returns : goal.returns
returns c = λ s. (identifier-tested s, tested-identifier s)
