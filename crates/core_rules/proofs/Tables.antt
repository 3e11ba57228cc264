-- What is computed of each execution by what it goes by, from the oldest on.
use Rattle.std.proofs.Common.{◌≡◌, ℕ, suc, ◌≤◌, Bool, true, false, cond, List, [], ◌∷◌, length, Option, Some, refl, ap, sym, subst, ◌∙◌, arith}
use Rattle.text_words.proofs.KnownLists.{each-so}
use Rattle.std.specs.List.{AllByRecursion}
use Rattle.std.proofs.lemmas.Bool.{eqb-true}
use Rattle.std.specs.Prelude.{◌==◌, ⊤}
use Rattle.std.specs.Option.{option_and_then}
use Rattle.exec_rules.specs.declared.home.Home.{Home}
use Rattle.core_rules.specs.Numbered.{numbered, grown}
use Rattle.core_rules.specs.Parts.{sources_of}
use Rattle.core_rules.proofs.KnownNumbers.{numbered_more, numbered_newest, numbered_within}

-- all of these are at most n
abbrev pub AtMost : ℕ → List ℕ → Type 0
AtMost n xs = AllByRecursion (λ x. x ≤ n) xs

pub at_most_more : (m n : ℕ) (xs : List ℕ) → m ≤ n → AtMost m xs → AtMost n xs
at_most_more m n xs le all = each-so (λ x. x ≤ m) (λ x. x ≤ n) (λ x a. omega (arith, a, le)) xs all

-- executions take up older ones
abbrev pub AreOlder : List Home → Type 0
AreOlder [] = ⊤
AreOlder (h ∷ hs) = AtMost (length hs) (sources_of h.input) × AreOlder hs

-- homes that are made when there are n of them take up older ones
abbrev pub OlderFrom : ℕ → List Home → Type 0
OlderFrom n [] = ⊤
OlderFrom n (h ∷ hs) = AtMost n (sources_of h.input) × OlderFrom (suc n) hs

pub older_grown : (hs more : List Home) → AreOlder hs → OlderFrom (length hs) more → AreOlder (grown hs more)
older_grown hs [] older from = older
older_grown hs (h ∷ more) older from = older_grown (h ∷ hs) more (from.0, older) from.1

module _ {B : Type 0} where
  abbrev pub among : List (Option B) → ℕ → Option B
  among xs e = option_and_then (λ b. b) (numbered xs e)

  abbrev pub table : ((ℕ → Option B) → Home → Option B) → List Home → List (Option B)
  table step [] = []
  table step (h ∷ hs) = step (among (table step hs)) h ∷ table step hs

  pub length_table : (step : (ℕ → Option B) → Home → Option B) (hs : List Home) → length (table step hs) ≡ length hs
  length_table step [] = refl
  length_table step (h ∷ hs) = ap suc (length_table step hs)

  -- both give the same for these
  abbrev pub Same : (ℕ → Option B) → (ℕ → Option B) → List ℕ → Type 0
  Same f g [] = ⊤
  Same f g (x ∷ xs) = (f x ≡ g x) × Same f g xs

  module _ (step : (ℕ → Option B) → Home → Option B)
      (local : (f g : ℕ → Option B) (h : Home) → Same f g (sources_of h.input) → step f h ≡ step g h) where
    same_more : (hs : List Home) (h : Home) (xs : List ℕ) → AtMost (length hs) xs
        → Same (among (table step hs)) (among (table step (h ∷ hs))) xs
    same_more hs h [] all = tt
    same_more hs h (x ∷ xs) all = (
      ap (λ o. option_and_then (λ b. b) o)
          (sym (numbered_more (table step hs) (step (among (table step hs)) h) x (omega (arith, all.0, length_table step hs)))),
      same_more hs h xs all.1,
    )

    newest_at : (hs : List Home) (h : Home) → AtMost (length hs) (sources_of h.input)
        → among (table step (h ∷ hs)) (suc (length hs)) ≡ step (among (table step (h ∷ hs))) h
    newest_at hs h all =
        let long : suc (length hs) ≡ suc (length (table step hs)) = omega (arith, length_table step hs) in
        ap (λ n. among (table step (h ∷ hs)) n) long
        ∙ ap (λ o. option_and_then (λ b. b) o) (numbered_newest (table step hs) (step (among (table step hs)) h))
        ∙ local _ _ h (same_more hs h (sources_of h.input) all)

    older_at : (hs : List Home) (h : Home) (e : ℕ) (home : Home) → e ≤ length hs → AtMost (length hs) (sources_of home.input)
        → among (table step hs) e ≡ step (among (table step hs)) home
        → among (table step (h ∷ hs)) e ≡ step (among (table step (h ∷ hs))) home
    older_at hs h e home le all at =
        ap (λ o. option_and_then (λ b. b) o)
        (numbered_more (table step hs) (step (among (table step hs)) h) e (omega (arith, le, length_table step hs)))
        ∙ at ∙ local _ _ home (same_more hs h (sources_of home.input) all)

    -- an execution takes up older ones
    pub sources_within : (hs : List Home) (e : ℕ) (home : Home) → AreOlder hs → numbered hs e ≡ Some home
        → AtMost (length hs) (sources_of home.input)
    sources_within [] e home older at = absurd (cc)
    sources_within (h ∷ hs) e home older at = go (e == suc (length hs)) (sources_within hs e home older.1) at
      where
        go : (b : Bool) → (numbered hs e ≡ Some home → AtMost (length hs) (sources_of home.input))
            → cond b (Some h) (numbered hs e) ≡ Some home → AtMost (suc (length hs)) (sources_of home.input)
        go true rest at = let same : h ≡ home = cc in
            subst (λ (x : Home). AtMost (suc (length hs)) (sources_of x.input)) same
            (at_most_more (length hs) (suc (length hs)) (sources_of h.input) (omega arith) older.0)
        go false rest at =
            at_most_more (length hs) (suc (length hs)) (sources_of home.input) (omega arith) (rest at)

    -- what is computed of an execution, by its home and what is computed of all
    pub table_at : (hs : List Home) (e : ℕ) (home : Home) → AreOlder hs → numbered hs e ≡ Some home
        → among (table step hs) e ≡ step (among (table step hs)) home
    table_at [] e home older at = absurd (cc)
    table_at (h ∷ hs) e home older at = go (e == suc (length hs)) refl (table_at hs e home older.1) at
      where
        go : (b : Bool) → (e == suc (length hs)) ≡ b
            → (numbered hs e ≡ Some home → among (table step hs) e ≡ step (among (table step hs)) home)
            → cond b (Some h) (numbered hs e) ≡ Some home
            → among (table step (h ∷ hs)) e ≡ step (among (table step (h ∷ hs))) home
        go true eq rest at =
            let same : h ≡ home = cc in
            ap (λ n. among (table step (h ∷ hs)) n) (eqb-true e (suc (length hs)) eq)
            ∙ newest_at hs h older.0 ∙ ap (λ x. step (among (table step (h ∷ hs))) x) same
        go false eq rest at = older_at hs h e home (numbered_within hs e home at)
            (sources_within hs e home older.1 at) (rest at)
