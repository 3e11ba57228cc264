-- What is cancelled was made, and stays cancelled.
use Rattle.std.proofs.Common.{◌≡◌, ℕ, ◌≤◌, Bool, true, false, not, cond, ◌&&◌, List, [], ◌∷◌, length, map, filter, Option, Some, None, refl, ◌∙◌, arith}
use Rattle.text_words.proofs.KnownLists.{each-both}
use Rattle.std.proofs.lemmas.Bool.{or_right, and_parts}
use Rattle.std.specs.Prelude.{◌==◌}
use Rattle.std.specs.Option.{option_map_or}
use Rattle.std.specs.List.{list_any}
use Rattle.text_words.specs.Members.{has}
use Rattle.exec_rules.specs.declared.home.Home.{Home}
use Rattle.language.specs.Lang.{Lang}
use Rattle.core_rules.specs.declared.event.Event.{Event}
use Rattle.core_rules.specs.declared.event.Event.TheVariants as event
use Rattle.core_rules.specs.Numbered.{numbered, grown}
use Rattle.core_rules.specs.Assigned.{assigns}
use Rattle.core_rules.specs.Parts.{forks, kinds_by}
use Rattle.core_rules.specs.Standing.{is_finished, is_open}
use Rattle.core_rules.specs.Doc.{Doc, dropped, assignment_of, assigned_version, doc}
use Rattle.core_rules.proofs.KnownNumbers.{numbered_within, length_grown}
use Rattle.core_rules.proofs.Tables.{AtMost, at_most_more}
use Rattle.text_words.proofs.KnownMembers.{has_both}

-- what has an unfinished part was made
pub opened_within : {S : Type 0} (l : Lang S) (h : List Event) (homes : List Home) (e : ℕ) → is_open l h homes e ≡ true → e ≤ length homes
opened_within l h homes e is = go (numbered homes e) refl is
  where
    go : (o : Option Home) → numbered homes e ≡ o
        → list_any (λ p. not (is_finished h p)) (option_map_or
        (λ (x : Home). map (λ k. record { exec = e; kind = k }) (kinds_by x.input (forks l homes e))) o []) ≡ true
        → e ≤ length homes
    go None at is = absurd (cc)
    go (Some x) at is = numbered_within homes e x at

filter_within : (m : ℕ) (test : ℕ → Bool) (xs : List ℕ) → ((e : ℕ) → test e ≡ true → e ≤ m) → AtMost m (filter test xs)
filter_within m test [] all = tt
filter_within m test (x ∷ xs) all = go (test x) refl (filter_within m test xs all)
  where
    go : (b : Bool) → test x ≡ b → AtMost m (filter test xs) → AtMost m (cond b (x ∷ filter test xs) (filter test xs))
    go true e rest = (all x e, rest)
    go false e rest = rest

module _ {S : Type 0} (l : Lang S) where
  -- all that is cancelled was made
  pub cancelled_within : (h : List Event) → AtMost (length (doc l h).homes) (doc l h).cancelled
  cancelled_within [] = tt
  cancelled_within (event.Update id nodes blobs ∷ h) =
      let d : Doc = doc l h in
      let new = assignment_of d nodes blobs in
      each-both (λ x. x ≤ length (grown d.homes new.homes))
      (dropped (is_open l h d.homes) d.tip (assigned_version nodes blobs new)) d.cancelled
      (filter_within (length (grown d.homes new.homes)) (λ e. is_open l h d.homes e && not (assigns (assigned_version nodes blobs new) e)) _
      (λ e is. let le = opened_within l h d.homes e (and_parts (is_open l h d.homes e) (not (assigns (assigned_version nodes blobs new) e)) is).0 in
      omega (arith, le, length_grown d.homes new.homes)))
      (at_most_more (length d.homes) (length (grown d.homes new.homes)) d.cancelled
      (omega (arith, length_grown d.homes new.homes)) (cancelled_within h))
  cancelled_within (event.Cancel e ∷ h) = go (is_open l h (doc l h).homes e) refl (cancelled_within h)
    where
      go : (b : Bool) → is_open l h (doc l h).homes e ≡ b → AtMost (length (doc l h).homes) (doc l h).cancelled
          → AtMost (length (doc l h).homes) (cond b (e ∷ (doc l h).cancelled) (doc l h).cancelled)
      go true is rest = (opened_within l h (doc l h).homes e is, rest)
      go false is rest = rest
  cancelled_within (event.Remove ids ∷ h) = cancelled_within h
  cancelled_within (event.Claimed who p ∷ h) = cancelled_within h
  cancelled_within (event.Finished who p ∷ h) = cancelled_within h
  cancelled_within (event.Dropped who p ∷ h) = cancelled_within h
  cancelled_within (event.Ended ∷ h) = cancelled_within h

  -- what is cancelled stays cancelled
  pub stays_cancelled : (x : Event) (h : List Event) (e : ℕ) → has (doc l h).cancelled e ≡ true
      → has (doc l (x ∷ h)).cancelled e ≡ true
  stays_cancelled (event.Update id nodes blobs) h e is =
      has_both (dropped (is_open l h (doc l h).homes) (doc l h).tip
      (assigned_version nodes blobs (assignment_of (doc l h) nodes blobs))) (doc l h).cancelled e
      ∙ or_right _ _ is
  stays_cancelled (event.Cancel x) h e is = go (is_open l h (doc l h).homes x)
    where
      go : (b : Bool) → has (cond b (x ∷ (doc l h).cancelled) (doc l h).cancelled) e ≡ true
      go true = or_right (e == x) _ is
      go false = is
  stays_cancelled (event.Remove ids) h e is = is
  stays_cancelled (event.Claimed who p) h e is = is
  stays_cancelled (event.Finished who p) h e is = is
  stays_cancelled (event.Dropped who p) h e is = is
  stays_cancelled event.Ended h e is = is
