-- Who holds parts, counted.
use Rattle.std.proofs.Common.{◌≡◌, ℕ, suc, ◌+◌, Bool, true, false, cond, not, List, [], ◌∷◌, length, Some, None, refl, sym, ap, subst, ◌∙◌, arith, eq-eqb}
use Rattle.std.proofs.lemmas.Bool.{eqb-true}
use Rattle.std.specs.Prelude.{◌==◌, ◌||◌, is_some, if◌then◌else◌}
use Rattle.text_words.specs.Members.{has}
use Rattle.language.specs.Lang.{Lang}
use Rattle.core_rules.specs.declared.event.Event.{Event}
use Rattle.core_rules.specs.declared.event.Event.TheVariants as event
use Rattle.core_rules.specs.Legal.{IsLegal}
use Rattle.core_rules.specs.Standing.{held}
use Rattle.core_rules.specs.Updates.{AllDiffer}
use Rattle.keeping_rules.specs.Holders.{without, holders}

apart : (m n : ℕ) → m ≡ n → (m == n) ≡ false → ⊥
apart m n same e = let is : (m == n) ≡ true = eq-eqb m n same in absurd (cc)

has_without : (who w : ℕ) (xs : List ℕ) → has (without who xs) w ≡ (if who == w then false else has xs w)
has_without who w [] = by (who == w)
  where
    by : (b : Bool) → false ≡ (if b then false else false)
    by true = refl
    by false = refl
has_without who w (x ∷ xs) = go (x == who) (w == x) (who == w) refl refl refl (has_without who w xs)
  where
    go : (a b c : Bool) → (x == who) ≡ a → (w == x) ≡ b → (who == w) ≡ c
        → has (without who xs) w ≡ (if c then false else has xs w)
        → has (cond (not a) (x ∷ without who xs) (without who xs)) w ≡ (if c then false else (b || has xs w))
    go true true true e f i rest = rest
    go true false true e f i rest = rest
    go true true false e f i rest = absurd (apart who w (sym (eqb-true x who e) ∙ sym (eqb-true w x f)) i)
    go true false false e f i rest = rest
    go false true true e f i rest = absurd (apart x who (sym (eqb-true w x f) ∙ sym (eqb-true who w i)) e)
    go false false true e f i rest = ap (λ t. t || has (without who xs) w) f ∙ rest
    go false true false e f i rest = ap (λ t. t || has (without who xs) w) f
    go false false false e f i rest = ap (λ t. t || has (without who xs) w) f ∙ rest

-- those who hold parts
pub has_holders : (h : List Event) (w : ℕ) → has (holders h) w ≡ is_some (held h w)
has_holders [] w = refl
has_holders (event.Update id nodes blobs ∷ h) w = has_holders h w
has_holders (event.Cancel e ∷ h) w = has_holders h w
has_holders (event.Remove ids ∷ h) w = has_holders h w
has_holders (event.Claimed who p ∷ h) w = go (who == w) (w == who) refl refl (has_holders h w)
  where
    go : (a b : Bool) → (who == w) ≡ a → (w == who) ≡ b → has (holders h) w ≡ is_some (held h w)
        → (b || has (holders h) w) ≡ is_some (if a then Some p else held h w)
    go true true e f rest = refl
    go false false e f rest = rest
    go true false e f rest = absurd (apart w who (sym (eqb-true who w e)) f)
    go false true e f rest = absurd (apart who w (sym (eqb-true w who f)) e)
has_holders (event.Finished who p ∷ h) w = has_without who w (holders h) ∙ go (who == w) (has_holders h w)
  where
    go : (b : Bool) → has (holders h) w ≡ is_some (held h w) → (if b then false else has (holders h) w) ≡ is_some (if b then None else held h w)
    go true rest = refl
    go false rest = rest
has_holders (event.Dropped who p ∷ h) w = has_without who w (holders h) ∙ go (who == w) (has_holders h w)
  where
    go : (b : Bool) → has (holders h) w ≡ is_some (held h w) → (if b then false else has (holders h) w) ≡ is_some (if b then None else held h w)
    go true rest = refl
    go false rest = rest
has_holders (event.Ended ∷ h) w = has_holders h w

kept_apart : (who w : ℕ) (xs : List ℕ) → has xs w ≡ false → has (without who xs) w ≡ false
kept_apart who w xs e = has_without who w xs ∙ go (who == w)
  where
    go : (b : Bool) → (if b then false else has xs w) ≡ false
    go true = refl
    go false = e

differ_without : (who : ℕ) (xs : List ℕ) → AllDiffer xs → AllDiffer (without who xs)
differ_without who [] d = tt
differ_without who (x ∷ xs) d = go (x == who) (differ_without who xs d.1)
  where
    go : (b : Bool) → AllDiffer (without who xs) → AllDiffer (cond (not b) (x ∷ without who xs) (without who xs))
    go true rest = rest
    go false rest = (kept_apart who x xs d.0, rest)

-- each once
pub holders_differ : {S : Type 0} (l : Lang S) (h : List Event) → IsLegal l h → AllDiffer (holders h)
holders_differ l [] legal = tt
holders_differ l (event.Update id nodes blobs ∷ h) legal = holders_differ l h legal.0
holders_differ l (event.Cancel e ∷ h) legal = holders_differ l h legal.0
holders_differ l (event.Remove ids ∷ h) legal = holders_differ l h legal.0
holders_differ l (event.Claimed who p ∷ h) legal =
    (has_holders h who ∙ ap (λ o. is_some o) legal.1.1, holders_differ l h legal.0)
holders_differ l (event.Finished who p ∷ h) legal = differ_without who (holders h) (holders_differ l h legal.0)
holders_differ l (event.Dropped who p ∷ h) legal = differ_without who (holders h) (holders_differ l h legal.0)
holders_differ l (event.Ended ∷ h) legal = holders_differ l h legal.0

all_without : (who : ℕ) (xs : List ℕ) → has xs who ≡ false → length (without who xs) ≡ length xs
all_without who [] none = refl
all_without who (x ∷ xs) none = go (x == who) (who == x) refl refl none (all_without who xs)
  where
    go : (a b : Bool) → (x == who) ≡ a → (who == x) ≡ b → (b || has xs who) ≡ false
        → (has xs who ≡ false → length (without who xs) ≡ length xs)
        → length (cond (not a) (x ∷ without who xs) (without who xs)) ≡ suc (length xs)
    go false false e f i rest = ap (λ n. suc n) (rest i)
    go true true e f i rest = absurd (cc)
    go false true e f i rest = absurd (cc)
    go true false e f i rest = absurd (apart who x (sym (eqb-true x who e)) f)

-- one is left out
pub one_less : (who : ℕ) (xs : List ℕ) → AllDiffer xs → has xs who ≡ true → length (without who xs) + 1 ≡ length xs
one_less who [] d is = absurd (cc)
one_less who (x ∷ xs) d is = go (x == who) (who == x) refl refl is (one_less who xs d.1)
  where
    go : (a b : Bool) → (x == who) ≡ a → (who == x) ≡ b → (b || has xs who) ≡ true
        → (has xs who ≡ true → length (without who xs) + 1 ≡ length xs)
        → length (cond (not a) (x ∷ without who xs) (without who xs)) + 1 ≡ suc (length xs)
    go true true e f i rest =
        let same : x ≡ who = eqb-true x who e in
        let all : length (without who xs) ≡ length xs = all_without who xs (subst (λ n. has xs n ≡ false) same d.0) in omega (arith, all)
    go false false e f i rest = let less : length (without who xs) + 1 ≡ length xs = rest i in omega (arith, less)
    go true false e f i rest = absurd (apart who x (sym (eqb-true x who e)) f)
    go false true e f i rest = absurd (apart x who (sym (eqb-true who x f)) e)
