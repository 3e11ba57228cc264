-- The name with one prime more.
use Rattle.std.proofs.Common.{rules, ◌≡◌, ◌++◌, ◌+◌, true, [], ◌∷◌, string_bytes}
use Rattle.nj_formula.specs.Meaning.{meaning}
use Rattle.nj_syntax.specs.Primed.{is_shown}
use Rattle.nj_syntax.proofs.PrimesLemmas.{fewer_left, one_prime_more, still_least}
use Rattle.nj_syntax.proofs.names.primed.Goals as goal

pub primes-smaller : goal.primes-smaller
primes-smaller c =
    let added : string_bytes c.push.new.self ≡ string_bytes c.primes.text ++ 39 ∷ [] = search rules in
    let shown : is_shown (string_bytes c.primes.text) c.args.names.now.items 1 (meaning c.args.body.now) ≡ true = search rules in
    fewer_left c.args.name.now c.args.names.now.items (meaning c.args.body.now) (string_bytes c.primes.text) (string_bytes c.push.new.self) added shown

pub primes-preserved : goal.primes-preserved
primes-preserved c =
    let added : string_bytes c.push.new.self ≡ string_bytes c.primes.text ++ 39 ∷ [] = search rules in
    let shown : is_shown (string_bytes c.primes.text) c.args.names.now.items 1 (meaning c.args.body.now) ≡ true = search rules in
    let before = c.primes.invariant in
    record {
      primes = before.primes + 1;
      is = one_prime_more c.args.name.now c.args.names.now.items (meaning c.args.body.now) (string_bytes c.primes.text) (string_bytes c.push.new.self) added shown before.primes before.is;
      least = still_least c.args.name.now c.args.names.now.items (meaning c.args.body.now) (string_bytes c.primes.text) (string_bytes c.push.new.self) added shown before.primes before.is before.least;
    }
