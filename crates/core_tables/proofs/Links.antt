-- A list of entries has no fewer entries than keys that are found in it.
use Rattle.std.proofs.Common.{◌≡◌, ◌≢◌, ℕ, zero, suc, ◌<◌, ◌≤◌, Bool, true, false, cond, ◌&&◌, eqb, List, [], ◌∷◌, length, get_or, IsSome, refl, ap, arith}
use Rattle.std.specs.Map.{lookup}
use Rattle.std.specs.List.{All, AllPairs}
use Rattle.pide_base.specs.declared.part.Part.{Part}
use Rattle.core_tables.specs.declared.waiters.Link.{Link}

module _ {K X : Type 0} where
  -- the entries without the first one whose key passes the test
  abbrev without : (K → Bool) → List (K × X) → List (K × X)
  without p [] = []
  without p (x ∷ xs) = cond (p x.0) xs (x ∷ without p xs)

  one_less : (p : K → Bool) (xs : List (K × X)) → IsSome (lookup p xs)
      → length xs ≡ suc (length (without p xs))
  one_less p [] found = cc
  one_less p (x ∷ xs) found = go (p x.0) refl (one_less p xs)
    where
      go : (b : Bool) → p x.0 ≡ b
          → (IsSome (lookup p xs) → length xs ≡ suc (length (without p xs)))
          → length (x ∷ xs) ≡ suc (length (without p (x ∷ xs)))
      go true e rest = rw e refl
      go false e rest = rw e (ap suc (rest (rw e at found)))

  others_stay : (p q : K → Bool) (xs : List (K × X)) → ((x : K) → p x ≡ true → q x ≡ false)
      → lookup q (without p xs) ≡ lookup q xs
  others_stay p q [] apart = refl
  others_stay p q (x ∷ xs) apart = go (p x.0) refl (others_stay p q xs apart)
    where
      go : (b : Bool) → p x.0 ≡ b → lookup q (without p xs) ≡ lookup q xs
          → lookup q (without p (x ∷ xs)) ≡ lookup q (x ∷ xs)
      go true e rest = rw (e, apart x.0 e) refl
      go false e rest = rw (e, rest) refl

-- the link of this number of the execution
abbrev pub is_link : ℕ → ℕ → Link → Bool
is_link e n x = (eqb e x.input) && (eqb n x.number)

apart_links : (e c n : ℕ) → n < c → (x : Link) → is_link e c x ≡ true → is_link e n x ≡ false
apart_links e c n low x is = grind arith

pub few : (e c : ℕ) (xs : List (Link × ℕ)) → ((n : ℕ) → n < c → IsSome (lookup (is_link e n) xs)) → c ≤ length xs
few e zero xs all = omega arith
few e (suc c) xs all =
    let here : IsSome (lookup (is_link e c) xs) = all c (omega arith) in
    let rest : c ≤ length (without (is_link e c) xs) = few e c (without (is_link e c) xs) (λ n low.
    rw (others_stay (is_link e c) (is_link e n) xs (apart_links e c n low)) (all n (omega (arith, low)))) in
    rw (one_less (is_link e c) xs here) (omega (arith, rest))

apart_numbers : (a b : ℕ) → a ≢ b → (x : ℕ) → eqb a x ≡ true → eqb b x ≡ false
apart_numbers a b differ x is = grind arith

-- there are no more parts of different executions than executions that are found
pub few_parts : {X : Type 0} (parts : List Part) (xs : List (ℕ × X))
    → AllPairs (λ p q. p.exec ≢ q.exec) parts
    → All (λ p. IsSome (lookup (eqb p.exec) xs)) parts → length parts ≤ length xs
few_parts [] xs apart all = omega arith
few_parts (p ∷ ps) xs apart all =
    let here : IsSome (lookup (eqb p.exec) xs) = all 0 p (omega arith) in
    let rest : length ps ≤ length (without (eqb p.exec) xs) = few_parts ps (without (eqb p.exec) xs)
    (λ i j d low high. apart (suc i) (suc j) d (omega (arith, low)) (omega (arith, high)))
    (λ k d low. rw (others_stay (eqb p.exec) (eqb (get_or ps k d).exec) xs
    (apart_numbers p.exec (get_or ps k d).exec (apart 0 (suc k) d (omega arith) (omega (arith, low)))))
    (all (suc k) d (omega (arith, low)))) in
    rw (one_less (eqb p.exec) xs here) (omega (arith, rest))
