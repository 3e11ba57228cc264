-- The run of blanks at the front of a text.
use Rattle.std.proofs.Common.{ℕ, ◌<◌, List, arith, length-take-le}
use Rattle.std.specs.List.{prefix_len}
use Rattle.std.proofs.lemmas.List.Sums.{prefix_len-le-length}
use Rattle.text_words.specs.Blanks.{is_blank}
use Rattle.text_words.specs.Longest.{IsLongest}
use Rattle.text_words.proofs.KnownIdentifiers.{run-passes, run-longest}
use Rattle.outer_syntax.specs.Forms.{IsSpace}

-- where there are blanks, their run is the longest space
pub space-some : (s : List ℕ) → 0 < prefix_len is_blank s → IsLongest IsSpace s (prefix_len is_blank s)
space-some s some = record {
  within = prefix_len-le-length is_blank s;
  fits = (omega (arith, some, length-take-le (prefix_len is_blank s) s (prefix_len-le-length is_blank s)), run-passes is_blank s);
  longest = λ m within space. run-longest is_blank s m within space.1;
}
