-- What is carried to the next version that stays.
use Rattle.std.proofs.Common.{◌≡◌, ◌⊎◌, inl, inr, ℕ, ◌<◌, ◌≤◌, Bool, true, false, ◌||◌, List, [], ◌∷◌, ◌++◌, sym, ◌∙◌, arith}
use Rattle.std.proofs.lemmas.Bool.{false≢true, or_cases}
use Rattle.text_words.specs.Members.{has}
use Rattle.text_words.proofs.KnownMembers.{has_both}
use Rattle.core_tables.specs.declared.versions.Live.{Live}
use Rattle.exec_rules.specs.declared.version.Version.{Version}
use Rattle.core_rules.specs.Assigned.{assigns, is_assigned}
use Rattle.version_losses.specs.declared.losses.Loss.{Loss}
use Rattle.version_losses.specs.Losses.{IsLoss}
use Rattle.version_losses.specs.Leaving.{below}
use Rattle.version_losses.proofs.Filtered.{below_is}

module _ (tip : Version) where
  -- what is carried: the last one that stays has it, and none behind
  pub record IsCarried (n : ℕ) (live : List (Live Version)) (carried : List ℕ) : Type 0 where
    pub older : (e : ℕ) → has carried e ≡ true → e < n
    pub off : (e : ℕ) → has carried e ≡ true → is_assigned live e ≡ false
    pub tipless : (e : ℕ) → has carried e ≡ true → assigns tip e ≡ false

  pub bare_carried : (n : ℕ) (live : List (Live Version)) → IsCarried n live []
  bare_carried n live = record {
    older = λ e is. absurd (false≢true is);
    off = λ e is. absurd (false≢true is);
    tipless = λ e is. absurd (false≢true is);
  }

  off_here : (a b : Bool) → (a || b) ≡ false → b ≡ false
  off_here false b is = is
  off_here true b is = absurd (false≢true (sym is))

  module _ (m n : ℕ) (carried : List ℕ) (loss : Loss) (later : List Loss) (one : Live Version) (live : List (Live Version))
      (is : IsLoss tip m loss later one live) (was : IsCarried n (one ∷ live) carried) where
    -- with what was lost by a version
    pub more_carried : IsCarried n (one ∷ live) (carried ++ below n loss.lost)
    more_carried = record {
      older = λ e there. older e (parts e there);
      off = λ e there. off e (parts e there);
      tipless = λ e there. tipless e (parts e there);
    }
      where
        Parts : ℕ → Type 0
        Parts e = (has carried e ≡ true) ⊎ (has (below n loss.lost) e ≡ true)

        parts : (e : ℕ) → has (carried ++ below n loss.lost) e ≡ true → Parts e
        parts e there = or_cases (has carried e) (has (below n loss.lost) e) (sym (has_both carried (below n loss.lost) e) ∙ there)

        older : (e : ℕ) → Parts e → e < n
        older e (inl here) = was.older e here
        older e (inr here) = (below_is n loss.lost e here).0

        off : (e : ℕ) → Parts e → is_assigned (one ∷ live) e ≡ false
        off e (inl here) = was.off e here
        off e (inr here) = is.lost e (below_is n loss.lost e here).1

        tipless : (e : ℕ) → Parts e → assigns tip e ≡ false
        tipless e (inl here) = was.tipless e here
        tipless e (inr here) = is.not_tip e (below_is n loss.lost e here).1

  -- behind the version
  pub behind_it : (n k : ℕ) (carried : List ℕ) (one : Live Version) (live : List (Live Version)) → n ≤ k → IsCarried n (one ∷ live) carried → IsCarried k live carried
  behind_it n k carried one live le was = record {
    older = λ e there. omega (arith, le, was.older e there);
    off = λ e there. off_here (assigns one.version e) (is_assigned live e) (was.off e there);
    tipless = was.tipless;
  }
