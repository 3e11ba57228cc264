-- What live versions had and later ones have not, and the numbers that came next when they were made.
use Rattle.std.proofs.Common.{◌≡◌, ℕ, ◌<◌, ◌≤◌, Bool, true, false, not, ◌&&◌, ◌||◌, List, [], ◌∷◌, ◌++◌, refl, ap, sym, ◌∙◌, arith}
use Rattle.std.proofs.lemmas.Bool.{false≢true, lt-ltb, ltb-true}
use Rattle.std.specs.Prelude.{nat_lt}
use Rattle.std.specs.Cmp.{first_so}
use Rattle.text_words.specs.Members.{has}
use Rattle.core_tables.specs.declared.versions.Live.{Live}
use Rattle.exec_rules.specs.declared.version.Version.{Version}
use Rattle.core_rules.specs.Assigned.{assigns, is_assigned}
use Rattle.version_losses.specs.declared.losses.Loss.{Loss}
use Rattle.version_losses.specs.Losses.{is_lost, AreLosses}
use Rattle.prover_core.proofs.UpdatedDoc.{pushed}
use Rattle.prover_core.proofs.LossesBehind.{bounded}

-- one version more, which drops what the tip had and it has not
module _ (old new : Version) (top now : ℕ) (dropped : List ℕ) (id : ℕ) (le : top ≤ now)
    (kept : (e : ℕ) → assigns new e ≡ true → e < top → assigns old e ≡ true)
    (within : (e : ℕ) → assigns new e ≡ true → e < now)
    (drops : (e : ℕ) → has dropped e ≡ (assigns old e && not (assigns new e))) where
  abbrev loss : Loss
  loss = record { id = id; next = now; lost = dropped }

  abbrev one : Live Version
  one = record { id = id; version = new }

  -- what was lost before, the new one has not
  off_new : (e : ℕ) → e < top → assigns old e ≡ false → assigns new e ≡ false
  off_new e lt off = go (assigns new e) refl
    where
      go : (b : Bool) → assigns new e ≡ b → b ≡ false
      go false is = refl
      go true is = absurd (false≢true (sym off ∙ kept e is lt))

  dropped_old : (e : ℕ) → has dropped e ≡ true → assigns old e ≡ true
  dropped_old e is = first_so (assigns old e) _ (sym (drops e) ∙ is)

  dropped_off : (e : ℕ) → has dropped e ≡ true → assigns new e ≡ false
  dropped_off e is = go (assigns old e) (assigns new e) (sym (drops e) ∙ is)
    where
      go : (a b : Bool) → (a && not b) ≡ true → b ≡ false
      go true false is = refl
      go true true is = absurd (false≢true is)
      go false b is = absurd (false≢true is)

  more_lost : (later : List Loss) (e : ℕ) → is_lost (later ++ loss ∷ []) e ≡ (is_lost later e || (has dropped e || false))
  more_lost [] e = refl
  more_lost (x ∷ later) e = ap (λ b. has x.lost e || b) (more_lost later e) ∙ grouped (has x.lost e)
    where
      grouped : (a : Bool) → (a || (is_lost later e || (has dropped e || false))) ≡ ((a || is_lost later e) || (has dropped e || false))
      grouped true = refl
      grouped false = refl

  -- it is lost or the tip has it, as before
  same_had : (a o w x : Bool) → x ≡ (o && not w) → (w ≡ true → o ≡ true) → (a || o) ≡ ((a || (x || false)) || w)
  same_had true o w x is so = refl
  same_had false true true true is so = refl
  same_had false true true false is so = refl
  same_had false true false true is so = refl
  same_had false true false false is so = absurd (false≢true is)
  same_had false false true x is so = absurd (false≢true (so refl))
  same_had false false false true is so = absurd (false≢true (sym is))
  same_had false false false false is so = refl

  new_is : (e : ℕ) → assigns new e ≡ (nat_lt e now && (false || assigns new e))
  new_is e = go (assigns new e) refl
    where
      none : (b : Bool) → false ≡ (b && false)
      none true = refl
      none false = refl

      go : (b : Bool) → assigns new e ≡ b → b ≡ (nat_lt e now && b)
      go true is = sym (ap (λ b. b && true) (lt-ltb e now (within e is)))
      go false is = none (nat_lt e now)

  pub pushed_losses : (n : ℕ) (losses : List Loss) (live : List (Live Version)) → AreLosses old top n losses live
      → AreLosses new now n (losses ++ loss ∷ []) (live ++ one ∷ [])
  pushed_losses n [] [] are = (
    record {
      same = refl;
      after = omega (arith, are.within, le);
      has_so = new_is;
      before = λ e is. are.below e (dropped_old e is);
      lost = λ e is. ap (λ b. b || false) (dropped_off e is);
      not_tip = dropped_off;
    },
    record { within = omega arith; below = within },
  )
  pushed_losses n [] (x ∷ live) are = absurd are
  pushed_losses n (x ∷ later) [] are = absurd are
  pushed_losses n (x ∷ later) (y ∷ live) are = (
    record {
      same = are.0.same;
      after = are.0.after;
      has_so = still;
      before = are.0.before;
      lost = λ e is. ap (λ b. assigns y.version e || b) (pushed live one e) ∙ off (assigns y.version e) (is_assigned live e) (assigns new e)
          (are.0.lost e is) (gone e is);
      not_tip = gone;
    },
    pushed_losses x.next later live are.1,
  )
    where
      next_le : x.next ≤ top
      next_le = bounded old top x.next later live are.1

      gone : (e : ℕ) → has x.lost e ≡ true → assigns new e ≡ false
      gone e is = off_new e (omega (arith, are.0.before e is, are.0.after, next_le)) (are.0.not_tip e is)

      off : (a b c : Bool) → (a || b) ≡ false → c ≡ false → (a || (b || c)) ≡ false
      off true b c is none = is
      off false true c is none = is
      off false false c is none = none

      still : (e : ℕ) → assigns y.version e ≡ (nat_lt e x.next && (is_lost (later ++ loss ∷ []) e || assigns new e))
      still e = are.0.has_so e ∙ go (nat_lt e x.next) refl
        where
          go : (b : Bool) → nat_lt e x.next ≡ b → (b && (is_lost later e || assigns old e)) ≡ (b && (is_lost (later ++ loss ∷ []) e || assigns new e))
          go false lt = refl
          go true lt = same_had (is_lost later e) (assigns old e) (assigns new e) (has dropped e) (drops e)
              (λ is. kept e is (omega (arith, ltb-true e x.next lt, next_le)))
              ∙ ap (λ b. b || assigns new e) (sym (more_lost later e))
