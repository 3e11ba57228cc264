use Rattle.std.proofs.Common.{rules, ◌≡◌, ◌++◌, true, false, [], ◌∷◌, string_bytes}
use Rattle.suggest_rules.specs.Names.{is_taken, next_name}
use Rattle.nj_suggest.proofs.NextLemmas.{fewer_left, one_more, next_is}
use Rattle.nj_suggest.proofs.naming.next_name.Goals as goal

pub primes-smaller : goal.primes-smaller
primes-smaller c =
    let added : string_bytes c.push.new.self ≡ string_bytes c.primes.text ++ 39 ∷ [] = search rules in
    let taken : is_taken c.args.aliases.now c.args.names.now (string_bytes c.primes.text) ≡ true = search rules in
    fewer_left c.args.aliases.now c.args.names.now (string_bytes c.primes.text) (string_bytes c.push.new.self) added taken

pub primes-preserved : goal.primes-preserved
primes-preserved c =
    let added : string_bytes c.push.new.self ≡ string_bytes c.primes.text ++ 39 ∷ [] = search rules in
    let taken : is_taken c.args.aliases.now c.args.names.now (string_bytes c.primes.text) ≡ true = search rules in
    one_more c.args.aliases.now c.args.names.now (string_bytes c.primes.text) (string_bytes c.push.new.self) added taken c.primes.invariant

pub returns : goal.returns
returns c =
    let free : is_taken c.args.aliases.now c.args.names.now (string_bytes c.primes.text) ≡ false = search rules in
    let is : string_bytes c.primes.text ≡ next_name c.args.aliases.now c.args.names.now = next_is c.args.aliases.now c.args.names.now (string_bytes c.primes.text) c.primes.invariant free in
    search (rules, is)
