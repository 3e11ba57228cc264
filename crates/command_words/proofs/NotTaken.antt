-- Words that are no form of the command line.
use Rattle.std.proofs.Common.{◌≡◌, [], ◌∷◌, codes, refl}
use Rattle.std.specs.Prelude.{None}
use Rattle.clap.proofs.OnLiterals.{clap_on_literals}
use Rattle.command_words.specs.Asked.{words_request}
use Rattle.command_words.specs.Forms.{AreNotTaken}

none : words_request ([]) ≡ None
unfolding clap_on_literals
none = refl

other : words_request (codes "server" ∷ []) ≡ None
unfolding clap_on_literals
other = refl

many : words_request (codes "serve" ∷ codes "--workers" ∷ codes "17" ∷ []) ≡ None
unfolding clap_on_literals
many = refl

missing : words_request (codes "serve" ∷ codes "--workers" ∷ []) ≡ None
unfolding clap_on_literals
missing = refl

letters : words_request (codes "serve" ∷ codes "--workers" ∷ codes "two" ∷ []) ≡ None
unfolding clap_on_literals
letters = refl

twice : words_request (codes "serve" ∷ codes "--workers" ∷ codes "1" ∷ codes "--workers" ∷ codes
    "1" ∷ []) ≡ None
unfolding clap_on_literals
twice = refl

more : words_request (codes "check" ∷ codes "A.thy" ∷ []) ≡ None
unfolding clap_on_literals
more = refl

beside : words_request (codes "mirror" ∷ codes "--workers" ∷ codes "1" ∷ []) ≡ None
unfolding clap_on_literals
beside = refl

help : words_request (codes "--help" ∷ []) ≡ None
unfolding clap_on_literals
help = refl

zeros : words_request (codes "serve" ∷ codes "--workers" ∷ codes "00" ∷ []) ≡ None
unfolding clap_on_literals
zeros = refl

plus : words_request (codes "serve" ∷ codes "--workers" ∷ codes "+0" ∷ []) ≡ None
unfolding clap_on_literals
plus = refl

numberless : words_request (codes "gen" ∷ []) ≡ None
unfolding clap_on_literals
numberless = refl

few_nodes : words_request (codes "gen" ∷ codes "0" ∷ []) ≡ None
unfolding clap_on_literals
few_nodes = refl

many_nodes : words_request (codes "gen" ∷ codes "1001" ∷ []) ≡ None
unfolding clap_on_literals
many_nodes = refl

many_makers : words_request (codes "gen" ∷ codes "3" ∷ codes "--workers" ∷ codes "17" ∷ []) ≡ None
unfolding clap_on_literals
many_makers = refl

plus_nodes : words_request (codes "gen" ∷ codes "+3" ∷ []) ≡ None
unfolding clap_on_literals
plus_nodes = refl

zeros_nodes : words_request (codes "gen" ∷ codes "03" ∷ []) ≡ None
unfolding clap_on_literals
zeros_nodes = refl

two_numbers : words_request (codes "gen" ∷ codes "1" ∷ codes "2" ∷ []) ≡ None
unfolding clap_on_literals
two_numbers = refl

pub are_not_taken : AreNotTaken
are_not_taken = record {
  none = none;
  other = other;
  many = many;
  missing = missing;
  letters = letters;
  twice = twice;
  more = more;
  beside = beside;
  help = help;
  zeros = zeros;
  plus = plus;
  numberless = numberless;
  few_nodes = few_nodes;
  many_nodes = many_nodes;
  many_makers = many_makers;
  plus_nodes = plus_nodes;
  zeros_nodes = zeros_nodes;
  two_numbers = two_numbers;
}
