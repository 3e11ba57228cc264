-- What is older than the last version that stays is lost as before.
use Rattle.std.proofs.Common.{◌≡◌, ℕ, ◌<◌, ◌≤◌, Bool, true, false, cond, not, ◌||◌, List, [], ◌∷◌, ◌++◌, refl, ap, sym, subst, ◌∙◌, arith}
use Rattle.std.proofs.lemmas.Bool.{false≢true}
use Rattle.std.proofs.Math.Bool.{or_assoc}
use Rattle.text_words.specs.Members.{has}
use Rattle.text_words.proofs.KnownMembers.{has_both}
use Rattle.core_tables.specs.declared.versions.Live.{Live}
use Rattle.exec_rules.specs.declared.version.Version.{Version}
use Rattle.version_losses.specs.declared.losses.Loss.{Loss}
use Rattle.version_losses.specs.Losses.{is_lost, AreLosses}
use Rattle.version_losses.specs.Leaving.{is_named, below, left_from}
use Rattle.version_losses.proofs.Filtered.{has_below, Ends}

swapped : (c x l : Bool) → (x || (c || l)) ≡ (c || (x || l))
swapped true true l = refl
swapped true false l = refl
swapped false x l = refl

module _ (tip : Version) (top : ℕ) (ids : List ℕ) where
  -- below the last number all stays lost
  pub still_lost : (e m n : ℕ) (whole : Bool) (carried : List ℕ) (losses : List Loss) (live : List (Live Version))
      → AreLosses tip top m losses live → n ≤ m → (whole ≡ true → carried ≡ []) → Ends ids whole live → e < n
      → is_lost (left_from ids whole n carried losses) e ≡ (has carried e || is_lost losses e)
  still_lost e m n whole carried [] [] are le bare ends lt = sym (ap (λ xs. has xs e || false) (bare ends))
  still_lost e m n whole carried [] (one ∷ live) are le bare ends lt = absurd are
  still_lost e m n whole carried (loss ∷ later) [] are le bare ends lt = absurd are
  still_lost e m n whole carried (loss ∷ later) (one ∷ live) are le bare ends lt =
      go (is_named ids loss.id) refl whole refl
      (λ last. still_lost e loss.next n false (carried ++ below n loss.lost) later live are.1 (omega (arith, le, are.0.after))
      (λ x. absurd (false≢true x)) last lt)
      (λ kept none last. still_lost e loss.next loss.next true kept later live are.1 (omega arith) (λ x. none) last
      (omega (arith, lt, le, are.0.after)))
    where
      ended : (b : Bool) → is_named ids loss.id ≡ b → Ends ids (not b) live
      ended b so = subst (λ x. Ends ids (not x) live) (ap (is_named ids) (sym are.0.same) ∙ so) ends

      taken : has (carried ++ below n loss.lost) e ≡ (has carried e || has loss.lost e)
      taken = has_both carried (below n loss.lost) e ∙ ap (λ b. has carried e || b) (has_below n loss.lost e lt)

      go : (b : Bool) → is_named ids loss.id ≡ b → (w : Bool) → whole ≡ w
          → (Ends ids false live → is_lost (left_from ids false n (carried ++ below n loss.lost) later) e
          ≡ (has (carried ++ below n loss.lost) e || is_lost later e))
          → ((kept : List ℕ) → kept ≡ [] → Ends ids true live → is_lost (left_from ids true loss.next kept later) e
          ≡ (has kept e || is_lost later e))
          → is_lost (cond b (left_from ids false n (carried ++ below n loss.lost) later)
          (cond w (loss ∷ left_from ids true loss.next carried later)
          (record loss { lost = carried ++ below n loss.lost } ∷ left_from ids true loss.next [] later))) e
          ≡ (has carried e || (has loss.lost e || is_lost later e))
      go true so w is gone stays =
          gone (ended true so)
          ∙ ap (λ b. b || is_lost later e) taken ∙ or_assoc (has carried e) (has loss.lost e) (is_lost later e)
      go false so true is gone stays =
          ap (λ b. has loss.lost e || b) (stays carried (bare is) (ended false so))
          ∙ swapped (has carried e) (has loss.lost e) (is_lost later e)
      go false so false is gone stays =
          ap (λ b. has (carried ++ below n loss.lost) e || b) (stays [] refl (ended false so))
          ∙ ap (λ b. b || is_lost later e) taken ∙ or_assoc (has carried e) (has loss.lost e) (is_lost later e)
