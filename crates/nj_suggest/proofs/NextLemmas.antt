-- One `'` more, after a name that is taken; and the first name that is free.
use Rattle.std.proofs.Common.{◌≡◌, ◌<◌, ◌+◌, ◌-◌, ℕ, true, false, List, [], ◌∷◌, ◌++◌, replicate, length, ap, sym, subst, ◌∙◌, arith, append_assoc, append-nil, length-append, below_more}
use Rattle.std.proofs.lemmas.List.{replicate-append-replicate}
use Rattle.nj_syntax.specs.Primed.{with_primes}
use Rattle.nj_syntax.proofs.KnownPrimed.{least_is}
use Rattle.suggest_rules.specs.declared.names.Names.{Names}
use Rattle.suggest_rules.specs.Names.{is_taken, longest_taken, numbered, next_name}
use Rattle.nj_suggest.proofs.KnownFree.{taken_length, few_taken}

module _ (aliases : List (List ℕ)) (names : Names) where
  -- the name with so many `'`, where it is taken with each fewer
  pub record IsTried (text : List ℕ) : Type 0 where
    pub primes : ℕ
    pub is : text ≡ with_primes (numbered names) primes
    pub taken : (fewer : ℕ) → fewer < primes → is_taken aliases names (with_primes (numbered names) fewer) ≡ true

  pub first_tried : (text : List ℕ) → text ≡ numbered names → IsTried text
  first_tried text is = record {
    primes = 0;
    is = is ∙ sym (append-nil (numbered names));
    taken = λ fewer below. absurd (omega (arith, below));
  }

  pub next_is : (text : List ℕ) → IsTried text → is_taken aliases names text ≡ false → text ≡ next_name aliases names
  next_is text tried free =
      tried.is ∙ ap (with_primes (numbered names))
      (sym (least_is (λ k. is_taken aliases names (with_primes (numbered names) k)) (longest_taken aliases names + 1) 0 tried.primes
      (omega arith) (omega (arith, few_taken aliases names tried.primes tried.taken))
      (ap (is_taken aliases names) (sym tried.is) ∙ free) (λ m low high. tried.taken m high)))

  module _ (old new : List ℕ) (added : new ≡ old ++ 39 ∷ []) (taken : is_taken aliases names old ≡ true) where
    pub fewer_left : longest_taken aliases names + 1 - length new < longest_taken aliases names + 1 - length old
    fewer_left =
        let longer : length new ≡ length old + 1 = ap length added ∙ length-append old (39 ∷ []) in
        omega (arith, longer, taken_length aliases names old taken)

    pub one_more : IsTried old → IsTried new
    one_more tried = record {
      primes = tried.primes + 1;
      is =
          added ∙ (ap (λ t. t ++ 39 ∷ []) tried.is ∙ (append_assoc (numbered names) (replicate tried.primes 39) (39 ∷ [])
          ∙ ap (λ t. numbered names ++ t) (replicate-append-replicate tried.primes 1 39)));
      taken = below_more (λ n. is_taken aliases names (with_primes (numbered names) n) ≡ true) tried.primes tried.taken
          (subst (λ y. is_taken aliases names y ≡ true) tried.is taken);
    }
