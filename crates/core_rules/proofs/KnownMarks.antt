-- An evaluation is stuck where it is unfinished, and cancelled or what it takes up is stuck.
use Rattle.std.proofs.Common.{◌≡◌, ℕ, suc, ◌≤◌, Bool, true, false, not, cond, ◌&&◌, ◌||◌, List, [], ◌∷◌, length, Some, refl, ap, sym, subst, ◌∙◌, arith}
use Rattle.std.proofs.lemmas.Bool.{eqb-true}
use Rattle.std.specs.Prelude.{◌==◌}
use Rattle.std.specs.Option.{option_map_or}
use Rattle.std.specs.List.{list_any}
use Rattle.text_words.specs.Members.{has}
use Rattle.exec_rules.specs.declared.home.Home.{Home}
use Rattle.core_rules.specs.declared.event.Event.{Event}
use Rattle.core_rules.specs.Numbered.{numbered}
use Rattle.core_rules.specs.Parts.{sources_of, evaluation}
use Rattle.core_rules.specs.Standing.{is_finished}
use Rattle.core_rules.specs.Stuck.{is_marked, stuck_marks}
use Rattle.core_rules.proofs.KnownNumbers.{numbered_more, numbered_newest, numbered_within}
use Rattle.core_rules.proofs.Tables.{AtMost, AreOlder}

-- what an execution takes up is older than it
pub sources_below : (hs : List Home) (e : ℕ) (home : Home) → AreOlder hs → numbered hs e ≡ Some home
    → (m : ℕ) × (e ≡ suc m) × AtMost m (sources_of home.input)
sources_below [] e home older at = absurd (cc)
sources_below (h ∷ hs) e home older at = go (e == suc (length hs)) refl (sources_below hs e home older.1) at
  where
    go : (b : Bool) → (e == suc (length hs)) ≡ b
        → (numbered hs e ≡ Some home → (m : ℕ) × (e ≡ suc m) × AtMost m (sources_of home.input))
        → cond b (Some h) (numbered hs e) ≡ Some home → (m : ℕ) × (e ≡ suc m) × AtMost m (sources_of home.input)
    go true eq rest at = let same : h ≡ home = cc in (
      length hs,
      eqb-true e (suc (length hs)) eq,
      subst (λ (x : Home). AtMost (length hs) (sources_of x.input)) same older.0,
    )
    go false eq rest at = rest at

module _ (h : List Event) (cancelled : List ℕ) where
  abbrev pub marks : List Home → List Bool
  marks homes = stuck_marks h cancelled homes

  -- an execution is stuck, by what older ones are
  abbrev pub stuck_by : List Bool → ℕ → Home → Bool
  stuck_by ms e home = not (is_finished h (evaluation e))
      && (has cancelled e || list_any (is_marked ms) (sources_of home.input))

  pub length_marks : (homes : List Home) → length (marks homes) ≡ length homes
  length_marks [] = refl
  length_marks (home ∷ homes) = ap suc (length_marks homes)

  -- one mark more leaves the others as they are
  pub marked_more : (ms : List Bool) (b : Bool) (e : ℕ) → e ≤ length ms → is_marked (b ∷ ms) e ≡ is_marked ms e
  marked_more ms b e le = ap (λ o. option_map_or (λ x. x) o false) (numbered_more ms b e le)

  any_more : (ms : List Bool) (b : Bool) (n : ℕ) (xs : List ℕ) → n ≤ length ms → AtMost n xs
      → list_any (is_marked ms) xs ≡ list_any (is_marked (b ∷ ms)) xs
  any_more ms b n [] le all = refl
  any_more ms b n (x ∷ xs) le all =
      ap (λ c. c || list_any (is_marked ms) xs) (sym (marked_more ms b x (omega (arith, le, all.0))))
      ∙ ap (λ c. is_marked (b ∷ ms) x || c) (any_more ms b n xs le all.1)

  stuck_more : (ms : List Bool) (b : Bool) (e n : ℕ) (home : Home) → n ≤ length ms → AtMost n (sources_of home.input)
      → stuck_by ms e home ≡ stuck_by (b ∷ ms) e home
  stuck_more ms b e n home le all =
      ap (λ c. not (is_finished h (evaluation e)) && (has cancelled e || c)) (any_more ms b n (sources_of home.input) le all)

  newest_marked : (hs : List Home) (home : Home) → AtMost (length hs) (sources_of home.input)
      → is_marked (marks (home ∷ hs)) (suc (length hs)) ≡ stuck_by (marks (home ∷ hs)) (suc (length hs)) home
  newest_marked hs home all =
      let long : suc (length hs) ≡ suc (length (marks hs)) = ap suc (sym (length_marks hs)) in
      ap (is_marked (marks (home ∷ hs))) long
      ∙ ap (λ o. option_map_or (λ x. x) o false) (numbered_newest (marks hs) (stuck_by (marks hs) (suc (length (marks hs))) home))
      ∙ stuck_more (marks hs) (stuck_by (marks hs) (suc (length (marks hs))) home) (suc (length (marks hs))) (length hs) home
      (omega (arith, length_marks hs)) all
      ∙ ap (λ n. stuck_by (marks (home ∷ hs)) n home) (sym long)

  -- an execution is stuck, by what it takes up
  pub marked_at : (hs : List Home) (e : ℕ) (home : Home) → AreOlder hs → numbered hs e ≡ Some home
      → is_marked (marks hs) e ≡ stuck_by (marks hs) e home
  marked_at [] e home older at = absurd (cc)
  marked_at (x ∷ hs) e home older at = go (e == suc (length hs)) refl at (marked_at hs e home older.1)
    where
      go : (b : Bool) → (e == suc (length hs)) ≡ b → cond b (Some x) (numbered hs e) ≡ Some home
          → (numbered hs e ≡ Some home → is_marked (marks hs) e ≡ stuck_by (marks hs) e home)
          → is_marked (marks (x ∷ hs)) e ≡ stuck_by (marks (x ∷ hs)) e home
      go true eq at rest =
          let same : x ≡ home = cc in
          let number = eqb-true e (suc (length hs)) eq in
          ap (is_marked (marks (x ∷ hs))) number ∙ newest_marked hs x older.0
          ∙ ap (λ n. stuck_by (marks (x ∷ hs)) n x) (sym number)
          ∙ ap (stuck_by (marks (x ∷ hs)) e) same
      go false eq at rest =
          let within = numbered_within hs e home at in
          let below = sources_below hs e home older.1 at in
          marked_more (marks hs) _ e (omega (arith, within, length_marks hs)) ∙ rest at
          ∙ stuck_more (marks hs) _ e below.0 home (omega (arith, within, below.1, length_marks hs)) below.2
