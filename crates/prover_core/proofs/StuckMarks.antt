-- What is stuck, by what it takes up.
use Rattle.std.proofs.Common.{◌≡◌, ℕ, suc, ◌<◌, ◌≤◌, Bool, true, false, not, cond, ◌&&◌, ◌||◌, List, [], ◌∷◌, length, Some, refl, ap, sym, subst, ◌∙◌, arith}
use Rattle.std.proofs.lemmas.Bool.{eqb-true, and_parts, not-true}
use Rattle.std.specs.Prelude.{◌==◌}
use Rattle.std.specs.Option.{option_map_or}
use Rattle.std.specs.List.{list_any, list_all, AllByRecursion}
use Rattle.text_words.specs.Members.{has}
use Rattle.exec_rules.specs.declared.home.Home.{Home}
use Rattle.core_rules.specs.declared.event.Event.{Event}
use Rattle.core_rules.specs.Numbered.{numbered}
use Rattle.core_rules.specs.Parts.{sources_of, evaluation}
use Rattle.core_rules.specs.Standing.{is_finished}
use Rattle.core_rules.specs.Stuck.{is_marked}
use Rattle.core_rules.proofs.KnownNumbers.{numbered_newest, numbered_within}
use Rattle.core_rules.proofs.KnownMarks.{marks, stuck_by, length_marks, marked_more}

abbrev pub AllBelow : ℕ → List ℕ → Type 0
AllBelow e xs = AllByRecursion (λ s. s < e) xs

module _ (h : List Event) (cancelled : List ℕ) where
  any_more : (ms : List Bool) (b : Bool) (n : ℕ) (xs : List ℕ) → n ≤ suc (length ms) → AllBelow n xs
      → list_any (is_marked ms) xs ≡ list_any (is_marked (b ∷ ms)) xs
  any_more ms b n [] le all = refl
  any_more ms b n (x ∷ xs) le all =
      ap (λ c. c || list_any (is_marked ms) xs) (sym (marked_more h cancelled ms b x (omega (arith, le, all.0))))
      ∙ ap (λ c. is_marked (b ∷ ms) x || c) (any_more ms b n xs le all.1)

  stuck_more : (ms : List Bool) (b : Bool) (e : ℕ) (home : Home) → e ≤ suc (length ms) → AllBelow e (sources_of home.input)
      → stuck_by h cancelled ms e home ≡ stuck_by h cancelled (b ∷ ms) e home
  stuck_more ms b e home le all =
      ap (λ c. not (is_finished h (evaluation e)) && (has cancelled e || c)) (any_more ms b e (sources_of home.input) le all)

  newest_marked : (hs : List Home) (home : Home) (e : ℕ) → e ≡ suc (length hs) → AllBelow e (sources_of home.input)
      → is_marked (marks h cancelled (home ∷ hs)) e ≡ stuck_by h cancelled (marks h cancelled (home ∷ hs)) e home
  newest_marked hs home e is all =
      let long : e ≡ suc (length (marks h cancelled hs)) = is ∙ ap suc (sym (length_marks h cancelled hs)) in
      ap (is_marked (marks h cancelled (home ∷ hs))) long
      ∙ ap (λ o. option_map_or (λ x. x) o false) (numbered_newest (marks h cancelled hs) (stuck_by h cancelled (marks h cancelled hs) (suc (length (marks h cancelled hs))) home))
      ∙ ap (λ n. stuck_by h cancelled (marks h cancelled hs) n home) (sym long)
      ∙ stuck_more (marks h cancelled hs) (stuck_by h cancelled (marks h cancelled hs) (suc (length (marks h cancelled hs))) home) e home (omega (arith, long)) all

  -- an execution is stuck, by what it takes up
  pub marked_at : (hs : List Home) (e : ℕ) (home : Home) → numbered hs e ≡ Some home → AllBelow e (sources_of home.input)
      → is_marked (marks h cancelled hs) e ≡ stuck_by h cancelled (marks h cancelled hs) e home
  marked_at [] e home at all = absurd (cc)
  marked_at (x ∷ hs) e home at all = go (e == suc (length hs)) refl at (marked_at hs e home)
    where
      go : (b : Bool) → (e == suc (length hs)) ≡ b → cond b (Some x) (numbered hs e) ≡ Some home
          → (numbered hs e ≡ Some home → AllBelow e (sources_of home.input) → is_marked (marks h cancelled hs) e ≡ stuck_by h cancelled (marks h cancelled hs) e home)
          → is_marked (marks h cancelled (x ∷ hs)) e ≡ stuck_by h cancelled (marks h cancelled (x ∷ hs)) e home
      go true eq at rest =
          let same : home ≡ x = sym (cc) in
          newest_marked hs x e (eqb-true e (suc (length hs)) eq) (ap_below same)
          ∙ ap (stuck_by h cancelled (marks h cancelled (x ∷ hs)) e) (sym same)
        where
          ap_below : home ≡ x → AllBelow e (sources_of x.input)
          ap_below same = subst (λ (y : Home). AllBelow e (sources_of y.input)) same all
      go false eq at rest =
          let within = numbered_within hs e home at in
          marked_more h cancelled (marks h cancelled hs) _ e (omega (arith, within, length_marks h cancelled hs)) ∙ rest at all
          ∙ stuck_more (marks h cancelled hs) _ e home (omega (arith, within, length_marks h cancelled hs)) all

  -- what is stuck is unfinished
  pub marked_unfinished : (hs : List Home) (e : ℕ) → is_marked (marks h cancelled hs) e ≡ true → is_finished h (evaluation e) ≡ false
  marked_unfinished [] e is = absurd (cc)
  marked_unfinished (x ∷ hs) e is = go (e == suc (length (marks h cancelled hs))) refl is (marked_unfinished hs e)
    where
      go : (b : Bool) → (e == suc (length (marks h cancelled hs))) ≡ b
          → option_map_or (λ x. x) (cond b (Some (stuck_by h cancelled (marks h cancelled hs) (suc (length (marks h cancelled hs))) x)) (numbered (marks h cancelled hs) e)) false ≡ true
          → (is_marked (marks h cancelled hs) e ≡ true → is_finished h (evaluation e) ≡ false) → is_finished h (evaluation e) ≡ false
      go true same is rest =
          let number = eqb-true e (suc (length (marks h cancelled hs))) same in
          ap (λ n. is_finished h (evaluation n)) number
          ∙ not-true (is_finished h (evaluation (suc (length (marks h cancelled hs))))) (and_parts (not (is_finished h (evaluation (suc (length (marks h cancelled hs))))))
          (has cancelled (suc (length (marks h cancelled hs))) || list_any (is_marked (marks h cancelled hs)) (sources_of x.input)) is).0
      go false same is rest = rest is

  -- so nothing is stuck among what is finished
  pub none_marked : (hs : List Home) (es : List ℕ) → list_all (λ e. is_finished h (evaluation e)) es ≡ true
      → list_any (is_marked (marks h cancelled hs)) es ≡ false
  none_marked hs [] all = refl
  none_marked hs (e ∷ es) all = go (is_marked (marks h cancelled hs) e) refl (none_marked hs es parts.1)
    where
      parts : (is_finished h (evaluation e) ≡ true) × (list_all (λ x. is_finished h (evaluation x)) es ≡ true)
      parts = and_parts (is_finished h (evaluation e)) (list_all (λ x. is_finished h (evaluation x)) es) all

      go : (b : Bool) → is_marked (marks h cancelled hs) e ≡ b → list_any (is_marked (marks h cancelled hs)) es ≡ false
          → (b || list_any (is_marked (marks h cancelled hs)) es) ≡ false
      go false is rest = rest
      go true is rest = let no : true ≡ false = sym parts.0 ∙ marked_unfinished hs e is in absurd (cc)
