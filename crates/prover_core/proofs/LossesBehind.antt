-- What was lost behind a version, and the number that came next when it was made.
use Rattle.std.proofs.Common.{◌≡◌, ℕ, ◌≤◌, Bool, true, false, cond, ◌&&◌, ◌||◌, List, [], ◌∷◌, Option, Some, None, refl, ap, sym, subst, ◌∙◌, arith}
use Rattle.std.proofs.lemmas.Bool.{lt-ltb, ltb-true, true≢false}
use Rattle.std.specs.Prelude.{◌==◌, nat_lt, find, is_some}
use Rattle.std.specs.Option.{option_map}
use Rattle.std.specs.Cmp.{first_so}
use Rattle.std.proofs.Math.Bool.{or-true}
use Rattle.core_tables.specs.declared.versions.Live.{Live}
use Rattle.core_tables.specs.Live.{version_of}
use Rattle.exec_rules.specs.declared.version.Version.{Version}
use Rattle.core_rules.specs.Numbered.{next_number}
use Rattle.core_rules.specs.Assigned.{assigns}
use Rattle.core_rules.specs.Doc.{Doc}
use Rattle.version_losses.specs.declared.losses.Loss.{Loss}
use Rattle.version_losses.specs.Losses.{number_of, is_lost, IsLoss, AreLosses}
use Rattle.prover_core.specs.Kept.{IsBehind}

-- each number is at most the next one
pub bounded : (tip : Version) (top n : ℕ) (losses : List Loss) (live : List (Live Version)) → AreLosses tip top n losses live → n ≤ top
bounded tip top n [] [] are = are.within
bounded tip top n [] (one ∷ live) are = absurd are
bounded tip top n (loss ∷ later) [] are = absurd are
bounded tip top n (loss ∷ later) (one ∷ live) are = omega (arith, are.0.after, bounded tip top loss.next later live are.1)

module _ (d : Doc) where
  abbrev IsThere : List Loss → ℕ → Version → Type 0
  IsThere losses i v = (m : ℕ) × (number_of losses i ≡ Some m) × IsBehind d v m

  -- the number of a live version tells what of the tip it has
  own_behind : (n : ℕ) (loss : Loss) (later : List Loss) (one : Live Version) (live : List (Live Version))
      → IsLoss d.tip n loss later one live → loss.next ≤ next_number d.homes → IsBehind d one.version loss.next
  own_behind n loss later one live is le = record {
    within = le;
    above = λ e has_it. ltb-true e loss.next (first_so (nat_lt e loss.next) _ (sym (is.has_so e) ∙ has_it));
    still = λ e in_tip lt. is.has_so e ∙ ap (λ b. b && (is_lost later e || assigns d.tip e)) (lt-ltb e loss.next lt)
        ∙ ap (λ b. is_lost later e || b) in_tip ∙ or-true (is_lost later e);
  }

  pub behind_of : (n : ℕ) (losses : List Loss) (live : List (Live Version)) → AreLosses d.tip (next_number d.homes) n losses live
      → (i : ℕ) (v : Version) → version_of live i ≡ Some v → IsThere losses i v
  behind_of n [] [] are i v at = absurd (cc)
  behind_of n [] (one ∷ live) are i v at = absurd are
  behind_of n (loss ∷ later) [] are i v at = absurd are
  behind_of n (loss ∷ later) (one ∷ live) are i v at = go (one.id == i) refl at (behind_of loss.next later live are.1 i v)
    where
      here : (b : Bool) → (one.id == i) ≡ b → number_of (loss ∷ later) i ≡ option_map (λ (x : Loss). x.next) (cond b (Some loss) (find (λ (x : Loss). x.id == i) later))
      here b is = ap (λ b. option_map (λ (x : Loss). x.next) (cond b (Some loss) (find (λ (x : Loss). x.id == i) later)))
          (ap (λ id. id == i) are.0.same ∙ is)

      go : (b : Bool) → (one.id == i) ≡ b → option_map (λ (x : Live Version). x.version) (cond b (Some one) (find (λ (x : Live Version). x.id == i) live)) ≡ Some v
          → (version_of live i ≡ Some v → IsThere later i v) → IsThere (loss ∷ later) i v
      go true is at rest =
          let same : one.version ≡ v = cc in (
            loss.next,
            here true is,
            subst (λ w. IsBehind d w loss.next) same
                (own_behind n loss later one live are.0 (bounded d.tip (next_number d.homes) loss.next later live are.1)),
          )
      go false is at rest = let there = rest at in (there.0, here false is ∙ there.1, there.2)

  -- those that have a number are the live ones
  as_live : (n : ℕ) (losses : List Loss) (live : List (Live Version)) → AreLosses d.tip (next_number d.homes) n losses live
      → (i : ℕ) → is_some (number_of losses i) ≡ is_some (version_of live i)
  as_live n [] [] are i = refl
  as_live n [] (one ∷ live) are i = absurd are
  as_live n (loss ∷ later) [] are i = absurd are
  as_live n (loss ∷ later) (one ∷ live) are i =
      ap (λ id. is_some (option_map (λ (x : Loss). x.next) (cond (id == i) (Some loss) (find (λ (x : Loss). x.id == i) later)))) are.0.same
      ∙ go (one.id == i) (as_live loss.next later live are.1 i)
    where
      go : (b : Bool) → is_some (number_of later i) ≡ is_some (version_of live i)
          → is_some (option_map (λ (x : Loss). x.next) (cond b (Some loss) (find (λ (x : Loss). x.id == i) later)))
          ≡ is_some (option_map (λ (x : Live Version). x.version) (cond b (Some one) (find (λ (x : Live Version). x.id == i) live)))
      go true rest = refl
      go false rest = rest

  module _ (n : ℕ) (losses : List Loss) (live : List (Live Version)) (are : AreLosses d.tip (next_number d.homes) n losses live) (i : ℕ) where
    pub version_there : (m : ℕ) → number_of losses i ≡ Some m → (v : Version) × (version_of live i ≡ Some v)
    version_there m at = go (version_of live i) refl
      where
        go : (o : Option Version) → version_of live i ≡ o → (v : Version) × (version_of live i ≡ Some v)
        go (Some v) is = (v, is)
        go None is = absurd (true≢false (sym (ap is_some at) ∙ as_live n losses live are i ∙ ap is_some is))

    pub no_version : number_of losses i ≡ None → version_of live i ≡ None
    no_version at = go (version_of live i) refl
      where
        go : (o : Option Version) → version_of live i ≡ o → version_of live i ≡ None
        go None is = is
        go (Some v) is = absurd (true≢false (sym (ap is_some is) ∙ sym (as_live n losses live are i) ∙ ap is_some at))
