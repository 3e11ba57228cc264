-- What finds the longest front with one form finds the longest with another that says the same.
use Rattle.std.proofs.Common.{ℕ, Option, None, Some, List}
use Rattle.text_words.specs.Longest.{FindsLongest}

-- what a test finds is what the form that it tests has
pub finds-as : (F G : List ℕ → Type 0) (text : List ℕ) (o : Option ℕ) → ((s : List ℕ) → F s → G s) → ((s : List ℕ) → G s → F s) → FindsLongest F text o → FindsLongest G text o
finds-as F G text None to from none = λ m within fits. none m within (from _ fits)
finds-as F G text (Some n) to from is = record {
  within = is.within;
  fits = to _ is.fits;
  longest = λ m within fits. is.longest m within (from _ fits);
}
