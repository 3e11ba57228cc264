use Rattle.std.proofs.Common.{◌+◌, ◌-◌, length}
use Rattle.std.specs.Prelude.{string_bytes}
use Rattle.suggest_rules.specs.Names.{longest_taken}
use Rattle.nj_suggest.proofs.NextLemmas.{IsTried}
use Rattle.nj_suggest.proofs.naming.next_name.Given as goal

abbrev pub invariant-primes : goal.invariant-primes
invariant-primes l = IsTried l.aliases l.names (string_bytes l.text)

abbrev pub decreases-primes : goal.decreases-primes
decreases-primes l = longest_taken l.aliases l.names + 1 - length (string_bytes l.text)
