use Rattle.std.specs.Prelude.{IsTrue}
use Rattle.text_words.proofs.KnownFronts.{found-front, one-front}
use Rattle.text_words.proofs.laws.one_longest_front.Goals as goal

pub returns : goal.returns
returns c = record {
  found = found-front;
  one = λ form text a b. one-front (λ s. IsTrue (form s)) text a b;
}
