-- What live versions had stays or goes.
use Rattle.std.proofs.Common.{◌≡◌, ◌⊎◌, inl, inr, ℕ, ◌<◌, ◌≤◌, Bool, true, false, cond, not, ◌&&◌, ◌||◌, List, [], ◌∷◌, ◌++◌, refl, ap, sym, subst, ◌∙◌, arith}
use Rattle.std.proofs.lemmas.Bool.{false≢true, or_left, or_right, lt-ltb, cases_lt, or_cases}
use Rattle.std.specs.Prelude.{nat_lt}
use Rattle.std.specs.Cmp.{second_so}
use Rattle.text_words.specs.Members.{has}
use Rattle.text_words.proofs.KnownMembers.{has_both}
use Rattle.core_tables.specs.declared.versions.Live.{Live}
use Rattle.exec_rules.specs.declared.version.Version.{Version}
use Rattle.core_rules.specs.Assigned.{assigns, is_assigned}
use Rattle.version_losses.specs.declared.losses.Loss.{Loss}
use Rattle.version_losses.specs.Losses.{is_lost, AreLosses}
use Rattle.version_losses.specs.Leaving.{is_named, from, gone_from}
use Rattle.version_losses.proofs.Filtered.{also_from, rest, rest_gone, rest_kept, Ends}

module _ (tip : Version) (top : ℕ) (e : ℕ) where
  -- what one of them has, is lost later or the tip has
  pub had : (m : ℕ) (losses : List Loss) (live : List (Live Version)) → AreLosses tip top m losses live
      → is_assigned live e ≡ true → (is_lost losses e || assigns tip e) ≡ true
  had m [] [] are is = absurd (false≢true is)
  had m [] (one ∷ live) are is = absurd are
  had m (loss ∷ later) [] are is = absurd are
  had m (loss ∷ later) (one ∷ live) are is = go (or_cases (assigns one.version e) (is_assigned live e) is) (had loss.next later live are.1)
    where
      more : (a b t : Bool) → (b || t) ≡ true → ((a || b) || t) ≡ true
      more true b t is = refl
      more false b t is = is

      go : (assigns one.version e ≡ true) ⊎ (is_assigned live e ≡ true)
          → (is_assigned live e ≡ true → (is_lost later e || assigns tip e) ≡ true) → (is_lost (loss ∷ later) e || assigns tip e) ≡ true
      go (inl here) rest = more (has loss.lost e) (is_lost later e) (assigns tip e) (second_so (nat_lt e loss.next) _ (sym (are.0.has_so e) ∙ here))
      go (inr there) rest = more (has loss.lost e) (is_lost later e) (assigns tip e) (rest there)

  module _ (ids : List ℕ) where
    -- what is lost stays or goes
    abbrev After : List Loss → List (Live Version) → ℕ → Bool → Type 0
    After later live k w = (is_lost later e || assigns tip e) ≡ true → (is_assigned (rest ids live) e || has (gone_from ids w k later) e) ≡ true

    abbrev All : ℕ → Loss → List Loss → List (Live Version) → Bool → Bool → Type 0
    All n loss later live b w = (is_assigned (rest ids live) e || has (cond b (from n loss.lost ++ gone_from ids false n later)
        (cond w (gone_from ids true loss.next later) (from n loss.lost ++ gone_from ids true loss.next later))) e) ≡ true

    -- what is lost, or the tip has, stays or goes
    pub stays_or_goes : (m n : ℕ) (whole : Bool) (losses : List Loss) (live : List (Live Version)) → AreLosses tip top m losses live
        → n ≤ m → (whole ≡ true → n ≡ m) → Ends ids whole live → n ≤ e → (is_lost losses e || assigns tip e) ≡ true
        → (is_assigned (rest ids live) e || has (gone_from ids whole n losses) e) ≡ true
    stays_or_goes m n whole [] [] are le same ends old is =
        absurd (omega (arith, are.below e is, same ends, old))
    stays_or_goes m n whole [] (one ∷ live) are le same ends old is = absurd are
    stays_or_goes m n whole (loss ∷ later) [] are le same ends old is = absurd are
    stays_or_goes m n whole (loss ∷ later) (one ∷ live) are le same ends old is =
        go (is_named ids loss.id) refl whole refl (has loss.lost e) refl is
        (λ last. stays_or_goes loss.next n false later live are.1 (omega (arith, le, are.0.after)) (λ x. absurd (false≢true x)) last old)
        (λ last. stays_or_goes loss.next loss.next true later live are.1 (omega arith) (λ x. refl) last)
      where
        named : (b : Bool) → is_named ids loss.id ≡ b → is_named ids one.id ≡ b
        named b so = ap (is_named ids) (sym are.0.same) ∙ so

        ended : (b : Bool) → is_named ids loss.id ≡ b → Ends ids (not b) live
        ended b so = subst (λ x. Ends ids (not x) live) (named b so) ends

        some : (more : List ℕ) → (is_assigned (rest ids live) e || has more e) ≡ true → (is_assigned (rest ids live) e || has (from n loss.lost ++ more) e) ≡ true
        some more there = by (or_cases (is_assigned (rest ids live) e) (has more e) there)
          where
            by : (is_assigned (rest ids live) e ≡ true) ⊎ (has more e ≡ true) → (is_assigned (rest ids live) e || has (from n loss.lost ++ more) e) ≡ true
            by (inl here) = or_left _ _ here
            by (inr there) = or_right _ _ (has_both (from n loss.lost) more e ∙ or_right _ _ there)

        -- where this one stays, and has it or not
        kept : is_named ids loss.id ≡ false → (more : List ℕ) → (has (gone_from ids true loss.next later) e ≡ true → has more e ≡ true)
            → (loss.next ≤ e → After later live loss.next true)
            → (is_lost later e || assigns tip e) ≡ true → (is_assigned (rest ids (one ∷ live)) e || has more e) ≡ true
        kept so more grown then there = ap (λ xs. is_assigned xs e || has more e) (rest_kept ids one live (named false so)) ∙ by (cases_lt e loss.next)
          where
            later_one : (is_assigned (rest ids live) e ≡ true) ⊎ (has (gone_from ids true loss.next later) e ≡ true)
                → (is_assigned (one ∷ rest ids live) e || has more e) ≡ true
            later_one (inl here) = or_left _ _ (or_right (assigns one.version e) _ here)
            later_one (inr here) = or_right _ _ (grown here)

            by : (e < loss.next) ⊎ (loss.next ≤ e) → (is_assigned (one ∷ rest ids live) e || has more e) ≡ true
            by (inl lt) = or_left _ _ (or_left _ _ (are.0.has_so e ∙ ap (λ b. b && (is_lost later e || assigns tip e)) (lt-ltb e loss.next lt) ∙ there))
            by (inr ge) = later_one (or_cases _ _ (then ge there))

        go : (b : Bool) → is_named ids loss.id ≡ b → (w : Bool) → whole ≡ w → (x : Bool) → has loss.lost e ≡ x
            → ((x || is_lost later e) || assigns tip e) ≡ true → (Ends ids false live → After later live n false)
            → (Ends ids true live → loss.next ≤ e → After later live loss.next true) → All n loss later (one ∷ live) b w
        go true so w whole_is true here is gone stays = or_right _ _ (also_from n loss.lost e _ old here)
        go false so true whole_is true here is gone stays = absurd (omega (arith, are.0.before e here, same whole_is, old))
        go false so false whole_is true here is gone stays = or_right _ _ (also_from n loss.lost e _ old here)
        go true so w whole_is false here is gone stays =
            ap (λ xs. is_assigned xs e || has (from n loss.lost ++ gone_from ids false n later) e) (rest_gone ids one live (named true so))
            ∙ some _ (gone (ended true so) is)
        go false so true whole_is false here is gone stays = kept so _ (λ x. x) (stays (ended false so)) is
        go false so false whole_is false here is gone stays =
            kept so _ (λ x. has_both (from n loss.lost) _ e ∙ or_right _ _ x) (stays (ended false so)) is
