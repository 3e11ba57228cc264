-- None that stays has what goes with versions.
use Rattle.std.proofs.Common.{◌≡◌, ◌⊎◌, inl, inr, ℕ, ◌<◌, ◌≤◌, Bool, true, false, cond, ◌&&◌, ◌||◌, List, [], ◌∷◌, ◌++◌, refl, ap, sym, ◌∙◌, arith}
use Rattle.std.proofs.lemmas.Bool.{false≢true, le-ltb, cases_lt, or_cases}
use Rattle.text_words.specs.Members.{has}
use Rattle.text_words.proofs.KnownMembers.{has_both}
use Rattle.core_tables.specs.declared.versions.Live.{Live}
use Rattle.exec_rules.specs.declared.version.Version.{Version}
use Rattle.core_rules.specs.Assigned.{assigns, is_assigned}
use Rattle.version_losses.specs.declared.losses.Loss.{Loss}
use Rattle.version_losses.specs.Losses.{is_lost, AreLosses}
use Rattle.version_losses.specs.Leaving.{is_named, from, gone_from}
use Rattle.version_losses.proofs.Filtered.{none_from, from_is, rest, none_stays, rest_gone, rest_kept}

module _ (tip : Version) (top : ℕ) (e : ℕ) (ids : List ℕ) where
  -- what stays does not have it
  abbrev Off : List (Live Version) → Type 0
  Off live = is_assigned (rest ids live) e ≡ false

  -- what goes behind a number, none has that stays
  abbrev Goes : List Loss → List (Live Version) → ℕ → Bool → Type 0
  Goes later live k w = k ≤ e → has (gone_from ids w k later) e ≡ true → Off live

  -- what is older than the last one that stays does not go
  pub none_below : (m n : ℕ) (whole : Bool) (losses : List Loss) (live : List (Live Version)) → AreLosses tip top m losses live
      → n ≤ m → e < n → has (gone_from ids whole n losses) e ≡ false
  none_below m n whole [] [] are le lt = refl
  none_below m n whole [] (one ∷ live) are le lt = absurd are
  none_below m n whole (loss ∷ later) [] are le lt = absurd are
  none_below m n whole (loss ∷ later) (one ∷ live) are le lt =
      go (is_named ids loss.id) whole
      (none_below loss.next n false later live are.1 (omega (arith, le, are.0.after)) lt)
      (none_below loss.next loss.next true later live are.1 (omega arith) (omega (arith, lt, le, are.0.after)))
    where
      both : (more : List ℕ) → has more e ≡ false → has (from n loss.lost ++ more) e ≡ false
      both more none = has_both (from n loss.lost) more e
          ∙ ap (λ b. b || has more e) (none_from n loss.lost e lt) ∙ none

      go : (b w : Bool) → has (gone_from ids false n later) e ≡ false → has (gone_from ids true loss.next later) e ≡ false
          → has (cond b (from n loss.lost ++ gone_from ids false n later)
          (cond w (gone_from ids true loss.next later) (from n loss.lost ++ gone_from ids true loss.next later))) e ≡ false
      go true w gone kept = both _ gone
      go false true gone kept = kept
      go false false gone kept = both _ kept

  -- none that stays has what goes
  pub gone_stays_not : (m n : ℕ) (whole : Bool) (losses : List Loss) (live : List (Live Version)) → AreLosses tip top m losses live
      → n ≤ m → n ≤ e → has (gone_from ids whole n losses) e ≡ true → is_assigned (rest ids live) e ≡ false
  gone_stays_not m n whole [] [] are le lt is = refl
  gone_stays_not m n whole [] (one ∷ live) are le lt is = absurd are
  gone_stays_not m n whole (loss ∷ later) [] are le lt is = absurd are
  gone_stays_not m n whole (loss ∷ later) (one ∷ live) are le old is =
      go (is_named ids loss.id) refl whole
      (gone_stays_not loss.next n false later live are.1 (omega (arith, le, are.0.after)) old)
      (gone_stays_not loss.next loss.next true later live are.1 (omega arith)) is
    where
      named : (b : Bool) → is_named ids loss.id ≡ b → is_named ids one.id ≡ b
      named b so = ap (is_named ids) (sym are.0.same) ∙ so

      lost : has (from n loss.lost) e ≡ true → Off (one ∷ live)
      lost there = none_stays ids (one ∷ live) e (are.0.lost e (from_is n loss.lost e there))

      gone : is_named ids loss.id ≡ true → (has (gone_from ids false n later) e ≡ true → is_assigned (rest ids live) e ≡ false)
          → has (gone_from ids false n later) e ≡ true → Off (one ∷ live)
      gone so more there = ap (λ xs. is_assigned xs e) (rest_gone ids one live (named true so)) ∙ more there

      kept : is_named ids loss.id ≡ false → Goes later live loss.next true → has (gone_from ids true loss.next later) e ≡ true → Off (one ∷ live)
      kept so more there = by (cases_lt e loss.next)
        where
          by : (e < loss.next) ⊎ (loss.next ≤ e) → Off (one ∷ live)
          by (inl lt) = absurd (false≢true (sym (none_below loss.next loss.next true later live are.1 (omega arith) lt) ∙ there))
          by (inr ge) = ap (λ xs. is_assigned xs e) (rest_kept ids one live (named false so))
              ∙ ap (λ b. b || is_assigned (rest ids live) e)
              (are.0.has_so e ∙ ap (λ b. b && (is_lost later e || assigns tip e)) (le-ltb e loss.next ge))
              ∙ more ge there

      parts : (more : List ℕ) → (has more e ≡ true → Off (one ∷ live)) → has (from n loss.lost ++ more) e ≡ true → Off (one ∷ live)
      parts more then there = by (or_cases (has (from n loss.lost) e) (has more e) (sym (has_both (from n loss.lost) more e) ∙ there))
        where
          by : (has (from n loss.lost) e ≡ true) ⊎ (has more e ≡ true) → Off (one ∷ live)
          by (inl here) = lost here
          by (inr there) = then there

      go : (b : Bool) → is_named ids loss.id ≡ b → (w : Bool) → (has (gone_from ids false n later) e ≡ true → is_assigned (rest ids live) e ≡ false)
          → Goes later live loss.next true → has (cond b (from n loss.lost ++ gone_from ids false n later)
          (cond w (gone_from ids true loss.next later) (from n loss.lost ++ gone_from ids true loss.next later))) e ≡ true → Off (one ∷ live)
      go true so w one more there = parts _ (gone so one) there
      go false so true one more there = kept so more there
      go false so false one more there = parts _ (kept so more) there
