use Rattle.std.proofs.Common.{◌≡◌, ◌<◌, ◌+◌, ◌-◌, ℕ, IsTrue, length}
use Rattle.std.specs.Prelude.{string_bytes}
use Rattle.nj_formula.specs.Meaning.{meaning}
use Rattle.nj_syntax.specs.Primed.{is_shown, with_primes}
use Rattle.nj_syntax.proofs.LengthLemmas.{room}
use Rattle.nj_syntax.proofs.names.primed.Given as goal

abbrev pub invariant-primes : goal.invariant-primes
invariant-primes l = record {
  primes : ℕ;
  is : string_bytes l.text ≡ with_primes l.name primes;
  least : (fewer : ℕ) → fewer < primes → IsTrue (is_shown (with_primes l.name fewer) l.names.items 1 (meaning l.body));
}

abbrev pub decreases-primes : goal.decreases-primes
decreases-primes l = room l.names.items (meaning l.body) + 1 - length (string_bytes l.text)
