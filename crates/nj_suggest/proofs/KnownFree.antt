-- The name of the next assumption is free, and the search for it is the least that is.
use Rattle.std.proofs.Common.{◌≡◌, ◌≤◌, ◌<◌, ℕ, zero, suc, ◌+◌, Bool, true, false, List, [], ◌∷◌, length, map, replicate, bytes_eq, refl, ap, subst, ◌∙◌, arith, ⊎_elim, length-append, eqb}
use Rattle.std.specs.Prelude.{sum, if◌then◌else◌}
use Rattle.std.proofs.lemmas.Bool.{or_cases, and_parts, cases_lt}
use Rattle.std.proofs.lemmas.List.{length-replicate}
use Rattle.std.proofs.lemmas.Slice.Eq.{bytes_eq-Decides}
use Rattle.text_words.proofs.KnownLists.{sum_cons}
use Rattle.outer_syntax.specs.Words.{same}
use Rattle.theory_ctx.specs.declared.local.Local.{Local}
use Rattle.nj_syntax.specs.Primed.{with_primes}
use Rattle.nj_syntax.specs.Printed.{least_failing}
use Rattle.suggest_rules.specs.declared.names.Names.{Names}
use Rattle.suggest_rules.specs.Names.{is_alias, is_name_of, is_taken, longest_taken, numbered, next_name}

-- a name of a fact is no longer than all names of facts
fact_length : (facts : List Local) (name : List ℕ) → is_name_of facts name ≡ true → length name ≤ sum (map (λ local. length local.name) facts)
fact_length [] name e = cc
fact_length (local ∷ facts) name e =
    let more = sum_cons (length local.name) (map (λ l. length l.name) facts) in
    ⊎_elim
    (λ is. omega (arith, more, ap length ((bytes_eq-Decides local.name name).0 is)))
    (λ later. omega (arith, more, fact_length facts name later))
    (or_cases (bytes_eq local.name name) (is_name_of facts name) e)

same_length : (x y : List ℕ) → same x y ≡ true → length x ≡ length y
same_length [] [] e = refl
same_length [] (d ∷ y) e = cc
same_length (c ∷ x) [] e = cc
same_length (c ∷ x) (d ∷ y) e = ap suc (same_length x y (and_parts (eqb c d) (same x y) e).1)

alias_length : (aliases : List (List ℕ)) (name : List ℕ) → is_alias aliases name ≡ true → length name ≤ sum (map length aliases)
alias_length [] name e = cc
alias_length (alias ∷ aliases) name e =
    let more = sum_cons (length alias) (map length aliases) in
    ⊎_elim
    (λ is. omega (arith, more, same_length name alias is))
    (λ later. omega (arith, more, alias_length aliases name later))
    (or_cases (same name alias) (is_alias aliases name) e)

-- the first number from here on that fails, where one does
fails : (test : ℕ → Bool) (fuel from : ℕ) → test (from + fuel) ≡ false → test (least_failing test from fuel) ≡ false
fails test zero from last = subst (λ n. test n ≡ false) (omega arith) last
fails test (suc fuel) from last = go (fails test fuel (from + 1) (subst (λ n. test n ≡ false) (omega arith) last)) (test from) refl
  where
    go : test (least_failing test (from + 1) fuel) ≡ false → (b : Bool) → test from ≡ b → test (if b then least_failing test (from + 1) fuel else from) ≡ false
    go later true e = later
    go later false e = e

module _ (aliases : List (List ℕ)) (names : Names) where
  with_length : (k : ℕ) → length (with_primes (numbered names) k) ≡ length (numbered names) + k
  with_length k = length-append (numbered names) (replicate k 39) ∙ ap (λ n. length (numbered names) + n) (length-replicate k 39)

  pub taken_length : (name : List ℕ) → is_taken aliases names name ≡ true → length name ≤ longest_taken aliases names
  taken_length name e =
      ⊎_elim (λ is. omega (arith, fact_length names.facts name is)) (λ is. omega (arith, alias_length aliases name is))
      (or_cases (is_name_of names.facts name) (is_alias aliases name) e)

  last_free : (b : Bool) → is_taken aliases names (with_primes (numbered names) (longest_taken aliases names + 1)) ≡ b → b ≡ false
  last_free true e =
      absurd (omega (arith, with_length (longest_taken aliases names + 1), taken_length (with_primes (numbered names) (longest_taken aliases names + 1)) e))
  last_free false e = refl

  pub next_free : is_taken aliases names (next_name aliases names) ≡ false
  next_free =
      fails (λ k. is_taken aliases names (with_primes (numbered names) k)) (longest_taken aliases names + 1) 0
      (subst (λ n. is_taken aliases names (with_primes (numbered names) n) ≡ false) (omega arith) (last_free _ refl))

  -- so many `'` are taken at most
  pub few_taken : (k : ℕ) → ((m : ℕ) → m < k → is_taken aliases names (with_primes (numbered names) m) ≡ true) → k ≤ longest_taken aliases names + 1
  few_taken k taken =
      ⊎_elim
      (λ many. absurd (omega (arith, with_length (longest_taken aliases names + 1), taken_length _ (taken (longest_taken aliases names + 1) many))))
      (λ few. few) (cases_lt (longest_taken aliases names + 1) k)
