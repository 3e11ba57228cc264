-- Where a worker holds a part, some are held.
use Rattle.std.proofs.Common.{◌≡◌, ℕ, ◌≤◌, Bool, true, false, cond, not, List, [], ◌∷◌, length, Option, Some, None, refl, sym, ap, ◌∙◌, arith}
use Rattle.std.proofs.lemmas.Bool.{eqb-true}
use Rattle.std.specs.Prelude.{◌==◌, ◌||◌, is_some, if◌then◌else◌}
use Rattle.std.specs.List.{list_any}
use Rattle.pide_base.specs.declared.part.Part.{Part}
use Rattle.core_rules.specs.declared.event.Event.{Event}
use Rattle.core_rules.specs.declared.event.Event.TheVariants as event
use Rattle.core_rules.specs.Standing.{held}
use Rattle.keeping_rules.specs.Holders.{without, holders}

-- the worker is among them
abbrev among : ℕ → List ℕ → Bool
among who xs = list_any (λ w. w == who) xs

stays : (other who : ℕ) (xs : List ℕ) → (other == who) ≡ false → among who xs ≡ true → among who (without other xs) ≡ true
stays other who [] apart is = is
stays other who (x ∷ xs) apart is = go (x == other) (x == who) refl refl is (stays other who xs apart)
  where
    go : (a b : Bool) → (x == other) ≡ a → (x == who) ≡ b → (b || among who xs) ≡ true
        → (among who xs ≡ true → among who (without other xs) ≡ true)
        → among who (cond (not a) (x ∷ without other xs) (without other xs)) ≡ true
    go true true e f is rest = let same : (other == who) ≡ (x == who) = ap (λ n. n == who) (sym (eqb-true x other e)) in absurd (cc)
    go true false e f is rest = rest is
    go false true e f is rest = ap (λ t. t || among who (without other xs)) f
    go false false e f is rest = ap (λ t. t || among who (without other xs)) f ∙ rest is

is_among : (h : List Event) (who : ℕ) → is_some (held h who) ≡ true → among who (holders h) ≡ true
is_among [] who is = is
is_among (event.Update id nodes blobs ∷ h) who is = is_among h who is
is_among (event.Cancel e ∷ h) who is = is_among h who is
is_among (event.Remove ids ∷ h) who is = is_among h who is
is_among (event.Claimed other p ∷ h) who is = go (other == who) is (is_among h who)
  where
    go : (b : Bool) → is_some (if b then Some p else held h who) ≡ true → (is_some (held h who) ≡ true → among who (holders h) ≡ true)
        → (b || among who (holders h)) ≡ true
    go true is rest = refl
    go false is rest = rest is
is_among (event.Finished other p ∷ h) who is = go (other == who) refl is (is_among h who)
  where
    go : (b : Bool) → (other == who) ≡ b → is_some (if b then None else held h who) ≡ true
        → (is_some (held h who) ≡ true → among who (holders h) ≡ true) → among who (without other (holders h)) ≡ true
    go true e is rest = absurd (cc)
    go false e is rest = stays other who (holders h) e (rest is)
is_among (event.Dropped other p ∷ h) who is = go (other == who) refl is (is_among h who)
  where
    go : (b : Bool) → (other == who) ≡ b → is_some (if b then None else held h who) ≡ true
        → (is_some (held h who) ≡ true → among who (holders h) ≡ true) → among who (without other (holders h)) ≡ true
    go true e is rest = absurd (cc)
    go false e is rest = stays other who (holders h) e (rest is)
is_among (event.Ended ∷ h) who is = is_among h who is

some_among : (who : ℕ) (xs : List ℕ) → among who xs ≡ true → 1 ≤ length xs
some_among who [] is = absurd (cc)
some_among who (x ∷ xs) is = omega arith

-- so there is one at least
pub one_held : (h : List Event) (who holding : ℕ) (part : Part) → holding ≡ length (holders h) → held h who ≡ Some part → 1 ≤ holding
one_held h who holding part is holds =
    let some : 1 ≤ length (holders h) = some_among who (holders h) (is_among h who (ap (λ (o : Option Part). is_some o) holds)) in
    omega (arith, is, some)
