-- Which versions are live, and what they assign, after one event more.
use Rattle.std.proofs.Common.{◌≡◌, ◌⊎◌, inl, inr, ℕ, Bool, true, false, cond, ◌||◌, List, [], ◌∷◌, ◌++◌, filter, refl, ap, sym, ◌∙◌}
use Rattle.std.proofs.lemmas.Bool.{eqb-true, false≢true, or_right, or_cases}
use Rattle.std.specs.Prelude.{◌==◌}
use Rattle.text_words.specs.Members.{has}
use Rattle.core_tables.specs.declared.versions.Live.{Live}
use Rattle.exec_rules.specs.declared.version.Version.{Version}
use Rattle.core_rules.specs.Assigned.{assigns, is_assigned}

-- what the new list has was in the old one, or in what was added
pub pushed_assigns : (live : List (Live Version)) (one : Live Version) (e : ℕ) → is_assigned (live ++ one ∷ []) e ≡ true
    → (is_assigned live e ≡ true) ⊎ (assigns one.version e ≡ true)
pushed_assigns [] one e is = go (or_cases (assigns one.version e) false is)
  where
    go : (assigns one.version e ≡ true) ⊎ (false ≡ true) → (false ≡ true) ⊎ (assigns one.version e ≡ true)
    go (inl yes_) = inr yes_
    go (inr bad) = inl bad
pushed_assigns (x ∷ live) one e is =
    go (or_cases (assigns x.version e) (is_assigned (live ++ one ∷ []) e) is) (pushed_assigns live one e)
  where
    go : (assigns x.version e ≡ true) ⊎ (is_assigned (live ++ one ∷ []) e ≡ true)
        → (is_assigned (live ++ one ∷ []) e ≡ true → (is_assigned live e ≡ true) ⊎ (assigns one.version e ≡ true))
        → ((assigns x.version e || is_assigned live e) ≡ true) ⊎ (assigns one.version e ≡ true)
    go (inl here) rest = inl (ap (λ b. b || is_assigned live e) here)
    go (inr there) rest = by (rest there)
      where
        by : (is_assigned live e ≡ true) ⊎ (assigns one.version e ≡ true)
            → ((assigns x.version e || is_assigned live e) ≡ true) ⊎ (assigns one.version e ≡ true)
        by (inl is) = inl (or_right (assigns x.version e) (is_assigned live e) is)
        by (inr is) = inr is

pub filtered_assigns : (test : Live Version → Bool) (live : List (Live Version)) (e : ℕ) → is_assigned (filter test live) e ≡ true
    → is_assigned live e ≡ true
filtered_assigns test [] e is = is
filtered_assigns test (x ∷ live) e is = go (test x) is (filtered_assigns test live e)
  where
    go : (b : Bool) → is_assigned (cond b (x ∷ filter test live) (filter test live)) e ≡ true
        → (is_assigned (filter test live) e ≡ true → is_assigned live e ≡ true)
        → (assigns x.version e || is_assigned live e) ≡ true
    go false is rest = or_right (assigns x.version e) (is_assigned live e) (rest is)
    go true is rest = by (or_cases (assigns x.version e) (is_assigned (filter test live) e) is)
      where
        by : (assigns x.version e ≡ true) ⊎ (is_assigned (filter test live) e ≡ true) → (assigns x.version e || is_assigned live e) ≡ true
        by (inl here) = ap (λ b. b || is_assigned live e) here
        by (inr there) = or_right (assigns x.version e) (is_assigned live e) (rest there)

pub has_filter : (test : ℕ → Bool) (xs : List ℕ) (e : ℕ) → test e ≡ true → has xs e ≡ true → has (filter test xs) e ≡ true
has_filter test [] e passes is = is
has_filter test (x ∷ xs) e passes is = go (e == x) refl (test x) refl is (has_filter test xs e passes)
  where
    go : (a : Bool) → (e == x) ≡ a → (b : Bool) → test x ≡ b → (a || has xs e) ≡ true
        → (has xs e ≡ true → has (filter test xs) e ≡ true) → has (cond b (x ∷ filter test xs) (filter test xs)) e ≡ true
    go true f true g is rest = ap (λ c. c || has (filter test xs) e) f
    go true f false g is rest = absurd (false≢true (sym g ∙ ap test (sym (eqb-true e x f)) ∙ passes))
    go false f true g is rest = or_right (e == x) (has (filter test xs) e) (rest is)
    go false f false g is rest = rest is
