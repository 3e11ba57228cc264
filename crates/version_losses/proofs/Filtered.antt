-- Numbers of a list that pass a test, and versions that stay.
use Rattle.std.proofs.Common.{◌≡◌, ◌⊎◌, inl, inr, ℕ, ◌<◌, ◌≤◌, Bool, true, false, cond, not, ◌&&◌, List, [], ◌∷◌, ◌++◌, refl, ap, sym, ◌∙◌}
use Rattle.std.proofs.lemmas.Bool.{false≢true, or_left, or_right, lt-ltb, le-ltb, ltb-true, or_cases}
use Rattle.std.specs.Prelude.{nat_lt}
use Rattle.text_words.specs.Members.{has}
use Rattle.text_words.proofs.KnownMembers.{has_both, has_passing}
use Rattle.core_tables.specs.declared.versions.Live.{Live}
use Rattle.core_tables.specs.declared.versions.Removing.TheVariants as answer
use Rattle.core_tables.specs.Removal.{left}
use Rattle.exec_rules.specs.declared.version.Version.{Version}
use Rattle.core_rules.specs.Assigned.{assigns, is_assigned}
use Rattle.version_losses.specs.Leaving.{is_named, below, from}

module _ (n : ℕ) (es : List ℕ) (e : ℕ) where
  -- of what is below n those that are lost
  pub has_below : e < n → has (below n es) e ≡ has es e
  has_below lt = has_passing (λ x. nat_lt x n) es e ∙ ap (λ b. b && has es e) (lt-ltb e n lt)

  pub below_is : has (below n es) e ≡ true → (e < n) × (has es e ≡ true)
  below_is is = go (nat_lt e n) refl (sym (has_passing (λ x. nat_lt x n) es e) ∙ is)
    where
      go : (b : Bool) → nat_lt e n ≡ b → (b && has es e) ≡ true → (e < n) × (has es e ≡ true)
      go true lt there = (ltb-true e n lt, there)
      go false lt there = absurd (false≢true there)

  -- and from it on
  pub has_from : n ≤ e → has es e ≡ true → has (from n es) e ≡ true
  has_from le is = has_passing (λ x. not (nat_lt x n)) es e ∙ ap (λ b. not b && has es e) (le-ltb e n le) ∙ is

  pub none_from : e < n → has (from n es) e ≡ false
  none_from lt = has_passing (λ x. not (nat_lt x n)) es e ∙ ap (λ b. not b && has es e) (lt-ltb e n lt)

  pub from_is : has (from n es) e ≡ true → has es e ≡ true
  from_is is = go (not (nat_lt e n)) (sym (has_passing (λ x. not (nat_lt x n)) es e) ∙ is)
    where
      go : (b : Bool) → (b && has es e) ≡ true → has es e ≡ true
      go true there = there
      go false there = absurd (false≢true there)

  -- and with others before them
  pub also_from : (more : List ℕ) → n ≤ e → has es e ≡ true → has (from n es ++ more) e ≡ true
  also_from more le is = has_both (from n es) more e ∙ or_left _ _ (has_from le is)

-- the versions that stay
module _ (ids : List ℕ) where
  abbrev pub rest : List (Live Version) → List (Live Version)
  rest live = left answer.Removed ids live

  pub stays_assigned : (live : List (Live Version)) (e : ℕ) → is_assigned (rest live) e ≡ true → is_assigned live e ≡ true
  stays_assigned [] e is = is
  stays_assigned (one ∷ live) e is = go (is_named ids one.id) is (stays_assigned live e)
    where
      go : (b : Bool) → is_assigned (cond (not b) (one ∷ rest live) (rest live)) e ≡ true
          → (is_assigned (rest live) e ≡ true → is_assigned live e ≡ true) → is_assigned (one ∷ live) e ≡ true
      go true is more = or_right (assigns one.version e) (is_assigned live e) (more is)
      go false is more = by (or_cases (assigns one.version e) (is_assigned (rest live) e) is)
        where
          by : (assigns one.version e ≡ true) ⊎ (is_assigned (rest live) e ≡ true) → is_assigned (one ∷ live) e ≡ true
          by (inl here) = or_left (assigns one.version e) (is_assigned live e) here
          by (inr there) = or_right (assigns one.version e) (is_assigned live e) (more there)

  pub none_stays : (live : List (Live Version)) (e : ℕ) → is_assigned live e ≡ false → is_assigned (rest live) e ≡ false
  none_stays live e none = go (is_assigned (rest live) e) refl
    where
      go : (b : Bool) → is_assigned (rest live) e ≡ b → b ≡ false
      go false is = refl
      go true is = absurd (false≢true (sym none ∙ stays_assigned live e is))

  -- where one goes, and where it stays
  pub rest_gone : (one : Live Version) (live : List (Live Version)) → is_named ids one.id ≡ true → rest (one ∷ live) ≡ rest live
  rest_gone one live is = ap (λ b. cond (not b) (one ∷ rest live) (rest live)) is

  pub rest_kept : (one : Live Version) (live : List (Live Version)) → is_named ids one.id ≡ false → rest (one ∷ live) ≡ one ∷ rest live
  rest_kept one live is = ap (λ b. cond (not b) (one ∷ rest live) (rest live)) is

  -- the newest stays: the last of these, or the one before them
  abbrev pub Ends : Bool → List (Live Version) → Type 0
  Ends whole [] = whole ≡ true
  Ends whole (one ∷ live) = Ends (not (is_named ids one.id)) live
