-- The losses by the versions that stay.
use Rattle.std.proofs.Common.{◌≡◌, ℕ, ◌<◌, ◌≤◌, Bool, true, false, cond, not, ◌&&◌, ◌||◌, List, [], ◌∷◌, ◌++◌, refl, ap, sym, subst, ◌∙◌, arith}
use Rattle.std.proofs.lemmas.Bool.{false≢true, ltb-true}
use Rattle.std.specs.Prelude.{nat_lt}
use Rattle.text_words.specs.Members.{has}
use Rattle.core_tables.specs.declared.versions.Live.{Live}
use Rattle.exec_rules.specs.declared.version.Version.{Version}
use Rattle.core_rules.specs.Assigned.{assigns, is_assigned}
use Rattle.version_losses.specs.declared.losses.Loss.{Loss}
use Rattle.version_losses.specs.Losses.{is_lost, IsLoss, IsNewest, AreLosses}
use Rattle.version_losses.specs.Leaving.{is_named, below, left_from}
use Rattle.version_losses.proofs.Filtered.{rest, none_stays, rest_gone, rest_kept, Ends}
use Rattle.version_losses.proofs.StillLost.{still_lost}
use Rattle.version_losses.proofs.Carried.{IsCarried, bare_carried, more_carried, behind_it}

module _ (tip : Version) (top : ℕ) (ids : List ℕ) where
  -- a version that stays, with others behind it that stay
  module _ (m n : ℕ) (loss : Loss) (later now : List Loss) (one : Live Version) (live : List (Live Version))
      (is : IsLoss tip m loss later one live) (le : n ≤ m)
      (same : (e : ℕ) → e < loss.next → is_lost now e ≡ is_lost later e) where
    has_still : (e : ℕ) → assigns one.version e ≡ (nat_lt e loss.next && (is_lost now e || assigns tip e))
    has_still e = is.has_so e ∙ go (nat_lt e loss.next) refl
      where
        go : (b : Bool) → nat_lt e loss.next ≡ b → (b && (is_lost later e || assigns tip e)) ≡ (b && (is_lost now e || assigns tip e))
        go false lt = refl
        go true lt = ap (λ x. x || assigns tip e) (sym (same e (ltb-true e loss.next lt)))

    pub stays_so : (lost : List ℕ) → IsCarried tip n (one ∷ live) lost → IsLoss tip n (record loss { lost = lost }) now one (rest ids live)
    stays_so lost was = record {
      same = is.same;
      after = omega (arith, le, is.after);
      has_so = has_still;
      before = was.older;
      lost = λ e there. off_rest e (was.off e there);
      not_tip = was.tipless;
    }
      where
        off_rest : (e : ℕ) → is_assigned (one ∷ live) e ≡ false → is_assigned (one ∷ rest ids live) e ≡ false
        off_rest e none = go (assigns one.version e) none
          where
            go : (b : Bool) → (b || is_assigned live e) ≡ false → (b || is_assigned (rest ids live) e) ≡ false
            go false none = none_stays ids live e none
            go true none = none

  -- all of them
  pub left_losses : (m n : ℕ) (whole : Bool) (carried : List ℕ) (losses : List Loss) (live : List (Live Version))
      → AreLosses tip top m losses live → n ≤ m → (whole ≡ true → n ≡ m) → (whole ≡ true → carried ≡ []) → IsCarried tip n live carried
      → Ends ids whole live → AreLosses tip top n (left_from ids whole n carried losses) (rest ids live)
  left_losses m n whole carried [] [] are le same bare was ends = subst (IsNewest tip top) (sym (same ends)) are
  left_losses m n whole carried [] (one ∷ live) are le same bare was ends = absurd are
  left_losses m n whole carried (loss ∷ later) [] are le same bare was ends = absurd are
  left_losses m n whole carried (loss ∷ later) (one ∷ live) are le same bare was ends =
      go (is_named ids loss.id) refl whole refl
      (left_losses loss.next n false (carried ++ below n loss.lost) later live are.1 (omega (arith, le, are.0.after))
      (λ x. absurd (false≢true x)) (λ x. absurd (false≢true x)))
      (λ kept none. left_losses loss.next loss.next true kept later live are.1 (omega arith) (λ x. refl) (λ x. none))
    where
      named : (b : Bool) → is_named ids loss.id ≡ b → is_named ids one.id ≡ b
      named b so = ap (is_named ids) (sym are.0.same) ∙ so

      ended : (b : Bool) → is_named ids loss.id ≡ b → Ends ids (not b) live
      ended b so = subst (λ x. Ends ids (not x) live) (named b so) ends

      le_next : n ≤ loss.next
      le_next = omega (arith, le, are.0.after)

      more : IsCarried tip n (one ∷ live) (carried ++ below n loss.lost)
      more = more_carried tip m n carried loss later one live are.0 was

      all_of_it : n ≡ m → IsCarried tip n (one ∷ live) loss.lost
      all_of_it so = record {
        older = λ e there. omega (arith, so, are.0.before e there);
        off = are.0.lost;
        tipless = are.0.not_tip;
      }

      lost_so : (kept : List ℕ) → kept ≡ [] → Ends ids true live → (e : ℕ) → e < loss.next
          → is_lost (left_from ids true loss.next kept later) e ≡ is_lost later e
      lost_so kept none ends e lt = still_lost tip top ids e loss.next loss.next true kept later live are.1 (omega arith) (λ x. none) ends lt
          ∙ ap (λ xs. has xs e || is_lost later e) none

      go : (b : Bool) → is_named ids loss.id ≡ b → (w : Bool) → whole ≡ w
          → (IsCarried tip n live (carried ++ below n loss.lost) → Ends ids false live
          → AreLosses tip top n (left_from ids false n (carried ++ below n loss.lost) later) (rest ids live))
          → ((kept : List ℕ) → kept ≡ [] → IsCarried tip loss.next live kept → Ends ids true live
          → AreLosses tip top loss.next (left_from ids true loss.next kept later) (rest ids live))
          → AreLosses tip top n (cond b (left_from ids false n (carried ++ below n loss.lost) later)
          (cond w (loss ∷ left_from ids true loss.next carried later)
          (record loss { lost = carried ++ below n loss.lost } ∷ left_from ids true loss.next [] later))) (rest ids (one ∷ live))
      go true so w is gone stays = subst (AreLosses tip top n (left_from ids false n (carried ++ below n loss.lost) later))
          (sym (rest_gone ids one live (named true so)))
          (gone (behind_it tip n n (carried ++ below n loss.lost) one live (omega arith) more) (ended true so))
      go false so true is gone stays = subst (AreLosses tip top n (loss ∷ left_from ids true loss.next carried later))
          (sym (rest_kept ids one live (named false so))) (
            stays_so m n loss later (left_from ids true loss.next carried later) one live are.0 le
                (lost_so carried (bare is) (ended false so)) loss.lost (all_of_it (same is)),
            stays carried (bare is) (behind_it tip n loss.next carried one live le_next was) (ended false so),
          )
      go false so false is gone stays = subst (AreLosses tip top n (record loss { lost = carried ++ below n loss.lost } ∷ left_from ids true loss.next [] later))
          (sym (rest_kept ids one live (named false so))) (
            stays_so m n loss later (left_from ids true loss.next [] later) one live are.0 le
                (lost_so [] refl (ended false so)) (carried ++ below n loss.lost) more,
            stays [] refl (bare_carried tip loss.next live) (ended false so),
          )
