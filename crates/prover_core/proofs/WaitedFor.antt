-- What is free, and what waits for nothing.
use Rattle.std.proofs.Common.{◌≡◌, ℕ, Bool, true, false, not, ◌&&◌, ◌||◌, List, [], ◌∷◌, length, refl, ap, sym, ◌∙◌, arith}
use Rattle.std.proofs.lemmas.Bool.{false≢true, eqb-true, eq-eqb, or_left, and_parts, and_from}
use Rattle.std.specs.Prelude.{◌==◌}
use Rattle.std.specs.List.{list_all}
use Rattle.text_words.specs.Members.{has}
use Rattle.core_rules.specs.Standing.{Standing, Free, Held, Done, is_done, is_unclaimed}
use Rattle.prover_core.specs.Tasks.{is_held}

-- a part that nobody holds and that is unfinished is free
pub free_by : (s : Standing) → is_held s ≡ false → is_done s ≡ false → is_unclaimed s ≡ true
free_by Free x y = refl
free_by (Held w) x y = absurd (cc)
free_by Done x y = absurd (cc)

pub free_so : (s : Standing) → is_unclaimed s ≡ true → (is_held s ≡ false) × (is_done s ≡ false)
free_so Free x = (refl, refl)
free_so (Held w) x = absurd (cc)
free_so Done x = absurd (cc)

-- all that is waited for is finished, where nothing of it is left
pub none_left : (done : ℕ → Bool) (es : List ℕ) → ((f : ℕ) → (has es f && not (done f)) ≡ false) → list_all done es ≡ true
none_left done [] left = refl
none_left done (e ∷ es) left = and_from (done e) (list_all done es) (here (e == e) (eq-eqb e e refl) (has es e) (done e) (left e))
    (none_left done es (λ f. there (f == e) (has es f) (done f) (left f)))
  where
    here : (a : Bool) → a ≡ true → (b c : Bool) → ((a || b) && not c) ≡ false → c ≡ true
    here true x b true y = refl
    here true x b false y = absurd (cc)
    here false x b c y = absurd (cc)

    there : (a b c : Bool) → ((a || b) && not c) ≡ false → (b && not c) ≡ false
    there true false c y = refl
    there true true c y = y
    there false b c y = y

-- nothing of it is left, where all is finished
pub all_done : (done : ℕ → Bool) (es : List ℕ) → list_all done es ≡ true → (f : ℕ) → (has es f && not (done f)) ≡ false
all_done done [] all f = refl
all_done done (e ∷ es) all f = go (f == e) refl (and_parts (done e) (list_all done es) all)
    (λ rest. all_done done es rest f)
  where
    no_left : (a b : Bool) → b ≡ true → ((true || a) && not b) ≡ false
    no_left a true x = refl
    no_left a false x = absurd (cc)

    go : (b : Bool) → (f == e) ≡ b → (done e ≡ true) × (list_all done es ≡ true)
        → (list_all done es ≡ true → (has es f && not (done f)) ≡ false) → ((b || has es f) && not (done f)) ≡ false
    go true x parts rest = no_left (has es f) (done f) (ap done (eqb-true f e x) ∙ parts.0)
    go false x parts rest = rest parts.1

pub no_inputs : (es : List ℕ) → ((f : ℕ) → has es f ≡ false) → (length es == 0) ≡ true
no_inputs [] none = refl
no_inputs (e ∷ es) none = absurd (false≢true (sym (none e) ∙ or_left (e == e) (has es e) (eq-eqb e e refl)))

pub nothing_waits : (es : List ℕ) → (length es == 0) ≡ true → (f : ℕ) → has es f ≡ false
nothing_waits [] none f = refl
nothing_waits (e ∷ es) none f = let same = eqb-true (length (e ∷ es)) 0 none in absurd (omega (arith, same))
