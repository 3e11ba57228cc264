-- What a version has that newer ones lost.
use Rattle.std.proofs.Common.{◌≡◌, ℕ, Bool, true, false, cond, not, ◌&&◌, ◌||◌, List, [], ◌∷◌, length, Some, refl, ap, sym, ◌∙◌}
use Rattle.std.proofs.lemmas.Bool.{true≢false}
use Rattle.std.specs.Prelude.{◌==◌, nat_lt, find, flat_map, Result, Ok, Err, IfOk}
use Rattle.std.specs.Option.{option_map}
use Rattle.std.proofs.Math.Bool.{and-false}
use Rattle.text_words.specs.Members.{has}
use Rattle.text_words.proofs.KnownMembers.{has_both, has_passing}
use Rattle.core_tables.specs.declared.versions.Live.{Live}
use Rattle.core_tables.specs.Live.{version_of}
use Rattle.exec_rules.specs.declared.version.Version.{Version}
use Rattle.core_rules.specs.Assigned.{assigns}
use Rattle.version_losses.specs.declared.losses.Loss.{Loss}
use Rattle.version_losses.specs.Losses.{is_lost, AreLosses}
use Rattle.version_losses.specs.Leaving.{below}

-- what these versions lost of those below n
abbrev pub lost_of : ℕ → List Loss → List ℕ
lost_of n losses = flat_map (λ loss. below n loss.lost) losses

-- what the versions behind that of this id lost of it
abbrev pub lost_behind : List Loss → ℕ → List ℕ
lost_behind [] id = []
lost_behind (loss ∷ newer) id = cond (loss.id == id) (lost_of loss.next newer) (lost_behind newer id)

-- the versions behind the first one, where that has this id
pub behind_first : (loss : Loss) (newer : List Loss) (id : ℕ) → (loss.id == id) ≡ true
    → lost_behind (loss ∷ newer) id ≡ lost_of loss.next newer
behind_first loss newer id is = ap (λ b. cond b (lost_of loss.next newer) (lost_behind newer id)) is

pub behind_none : (losses : List Loss) (id : ℕ) → length losses ≡ 0 → lost_behind losses id ≡ []
behind_none [] id none = refl
behind_none (loss ∷ losses) id none = absurd (cc)

-- what is told of what is there may be told in other words
pub told_so : {A E : Type 0} {P Q : A → Type 0} (r : Result A E) → IfOk r P → ((a : A) → P a → Q a) → IfOk r Q
told_so (Ok a) is so = so a is
told_so (Err e) is so = tt

has_lost : (n e : ℕ) (losses : List Loss) → has (lost_of n losses) e ≡ (nat_lt e n && is_lost losses e)
has_lost n e [] = sym (and-false (nat_lt e n))
has_lost n e (loss ∷ losses) = has_both (below n loss.lost) (lost_of n losses) e
    ∙ ap (λ b. b || has (lost_of n losses) e) (has_passing (λ x. nat_lt x n) loss.lost e)
    ∙ ap (λ b. (nat_lt e n && has loss.lost e) || b) (has_lost n e losses)
    ∙ joined (nat_lt e n) (has loss.lost e) (is_lost losses e)
  where
    joined : (a b c : Bool) → ((a && b) || (a && c)) ≡ (a && (b || c))
    joined true b c = refl
    joined false b c = refl

module _ (tip : Version) (top : ℕ) where
  not_in_tip : (n : ℕ) (losses : List Loss) (live : List (Live Version)) → AreLosses tip top n losses live → (e : ℕ)
      → is_lost losses e ≡ true → assigns tip e ≡ false
  not_in_tip n [] live are e is = absurd (cc)
  not_in_tip n (loss ∷ later) [] are e is = absurd are
  not_in_tip n (loss ∷ later) (one ∷ live) are e is = go (has loss.lost e) refl is (not_in_tip loss.next later live are.1 e)
    where
      go : (b : Bool) → has loss.lost e ≡ b → (b || is_lost later e) ≡ true → (is_lost later e ≡ true → assigns tip e ≡ false)
          → assigns tip e ≡ false
      go true there is rest = are.0.not_tip e there
      go false there is rest = rest is

  -- it is what the version has and the tip has not
  pub behind_is : (n : ℕ) (losses : List Loss) (live : List (Live Version)) → AreLosses tip top n losses live
      → (id : ℕ) (v : Version) → version_of live id ≡ Some v
      → (e : ℕ) → has (lost_behind losses id) e ≡ (assigns v e && not (assigns tip e))
  behind_is n [] [] are id v at e = absurd (cc)
  behind_is n [] (one ∷ live) are id v at e = absurd are
  behind_is n (loss ∷ later) [] are id v at e = absurd are
  behind_is n (loss ∷ later) (one ∷ live) are id v at e =
      go (one.id == id) refl at (λ there. behind_is loss.next later live are.1 id v there e)
    where
      here : (b : Bool) → (one.id == id) ≡ b
          → has (lost_behind (loss ∷ later) id) e ≡ has (cond b (lost_of loss.next later) (lost_behind later id)) e
      here b is = ap (λ c. has (cond c (lost_of loss.next later) (lost_behind later id)) e) (ap (λ i. i == id) are.0.same ∙ is)

      by : (lt lost in_tip : Bool) → (lost ≡ true → in_tip ≡ false) → (lt && lost) ≡ ((lt && (lost || in_tip)) && not in_tip)
      by false lost in_tip never = refl
      by true true true never = absurd (true≢false (never refl))
      by true true false never = refl
      by true false true never = refl
      by true false false never = refl

      own : has (lost_of loss.next later) e ≡ (assigns one.version e && not (assigns tip e))
      own = has_lost loss.next e later
          ∙ by (nat_lt e loss.next) (is_lost later e) (assigns tip e) (not_in_tip loss.next later live are.1 e)
          ∙ ap (λ b. b && not (assigns tip e)) (sym (are.0.has_so e))

      go : (b : Bool) → (one.id == id) ≡ b → option_map (λ (x : Live Version). x.version) (cond b (Some one) (find (λ (x : Live Version). x.id == id) live)) ≡ Some v
          → (version_of live id ≡ Some v → has (lost_behind later id) e ≡ (assigns v e && not (assigns tip e)))
          → has (lost_behind (loss ∷ later) id) e ≡ (assigns v e && not (assigns tip e))
      go true is at rest = let same : one.version ≡ v = cc in here true is ∙ own ∙ ap (λ w. assigns w e && not (assigns tip e)) same
      go false is at rest = here false is ∙ rest at
