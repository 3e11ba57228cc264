-- What a removal leaves is told by what stays and what goes.
use Rattle.std.proofs.Common.{◌≡◌, ℕ, Bool, true, false, not, ◌&&◌, ◌||◌, List, [], ◌∷◌, length, Option, Some, None, refl, ap, sym, subst, ◌∙◌, arith}
use Rattle.std.proofs.lemmas.Bool.{false≢true}
use Rattle.std.specs.Prelude.{◌==◌, slice_get, find}
use Rattle.std.specs.Option.{option_map, option_map_or}
use Rattle.std.specs.List.{list_any}
use Rattle.text_words.specs.Members.{has}
use Rattle.core_tables.specs.declared.versions.Live.{Live}
use Rattle.core_tables.specs.declared.versions.Removing.TheVariants as answer
use Rattle.core_tables.specs.Live.{newest, is_live, is_tip}
use Rattle.core_tables.specs.Removal.{removing, answer_by}
use Rattle.exec_rules.specs.declared.version.Version.{Version}
use Rattle.core_rules.specs.Assigned.{is_assigned}
use Rattle.version_losses.specs.declared.losses.Loss.{Loss}
use Rattle.version_losses.specs.declared.leaving.Leaving.{Leaving}
use Rattle.version_losses.specs.Losses.{AreLosses}
use Rattle.version_losses.specs.Leaving.{Leaves, is_named, left_from, gone_from}
use Rattle.version_losses.proofs.Filtered.{rest, stays_assigned, Ends}
use Rattle.version_losses.proofs.Going.{gone_stays_not}
use Rattle.version_losses.proofs.StaysOrGoes.{had, stays_or_goes}
use Rattle.version_losses.proofs.Carried.{bare_carried}
use Rattle.version_losses.proofs.Staying.{left_losses}

abbrev last_of : Live Version → List (Live Version) → Live Version
last_of one [] = one
last_of one (next ∷ live) = last_of next live

last_at : (one : Live Version) (live : List (Live Version)) → slice_get (one ∷ live) (length live) ≡ Some (last_of one live)
last_at one [] = refl
last_at one (next ∷ live) = last_at next live

newest_is : (one : Live Version) (live : List (Live Version)) → newest (one ∷ live) ≡ Some (last_of one live)
newest_is one live = ap (slice_get (one ∷ live)) (omega arith) ∙ last_at one live

module _ (ids : List ℕ) where
  ends_so : (whole : Bool) (one : Live Version) (live : List (Live Version)) → is_named ids (last_of one live).id ≡ false → Ends ids whole (one ∷ live)
  ends_so whole one [] is = ap not is
  ends_so whole one (next ∷ live) is = ends_so (not (is_named ids one.id)) next live is

  none_named : (o : Option ℕ) (b : Bool) → answer_by o b ≡ answer.Removed → b ≡ false
  none_named (Some id) b is = absurd (cc)
  none_named None true is = absurd (cc)
  none_named None false is = refl

  -- the tip stays
  tip_ends : (live : List (Live Version)) → removing live ids ≡ answer.Removed → Ends ids true live
  tip_ends [] is = refl
  tip_ends (one ∷ live) is = ends_so true one live
      (sym (ap (λ o. list_any (λ id. option_map_or (λ tip. id == tip) (option_map (λ (x : Live Version). x.id) o) false) ids) (newest_is one live))
      ∙ none_named (find (λ id. not (is_live (one ∷ live) id)) ids) (list_any (λ id. is_tip (one ∷ live) id) ids) is)

told : (stays was goes : Bool) → (stays ≡ true → was ≡ true) → (goes ≡ true → stays ≡ false) → (was ≡ true → (stays || goes) ≡ true)
    → stays ≡ (was && not goes)
told true true true sub off or = absurd (false≢true (sym (off refl)))
told true true false sub off or = refl
told true false goes sub off or = absurd (false≢true (sub refl))
told false true true sub off or = refl
told false true false sub off or = or refl
told false false goes sub off or = refl

pub leaves : (tip : Version) (top : ℕ) (ids : List ℕ) (losses : List Loss) (live : List (Live Version)) (leaving : Leaving)
    → leaving.losses.losses ≡ left_from ids true 0 [] losses → leaving.gone.items ≡ gone_from ids true 0 losses
    → AreLosses tip top 0 losses live → removing live ids ≡ answer.Removed → Leaves tip top ids live leaving
leaves tip top ids losses live leaving left_is gone_is are is = record {
  losses = subst (λ xs. AreLosses tip top 0 xs (rest ids live)) (sym left_is)
      (left_losses tip top ids 0 0 true [] losses live are (omega arith) (λ x. refl) (λ x. refl) (bare_carried tip 0 live) (tip_ends ids live is));
  gone = λ e. told (is_assigned (rest ids live) e) (is_assigned live e) (has leaving.gone.items e)
      (stays_assigned ids live e)
      (λ goes. gone_stays_not tip top e ids 0 0 true losses live are (omega arith) (omega arith) (sym (ap (λ xs. has xs e) gone_is) ∙ goes))
      (λ was. ap (λ xs. is_assigned (rest ids live) e || has xs e) gone_is
      ∙ stays_or_goes tip top e ids 0 0 true losses live are (omega arith) (λ x. refl) (tip_ends ids live is) (omega arith)
      (had tip top e 0 losses live are was));
}
