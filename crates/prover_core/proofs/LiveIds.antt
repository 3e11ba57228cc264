-- The ids of live versions are at most the last one.
use Rattle.std.proofs.Common.{◌≡◌, ℕ, zero, suc, ◌<◌, ◌≤◌, Bool, true, false, cond, List, [], ◌∷◌, ◌++◌, filter, Some, None, refl, ap, ◌∙◌, arith}
use Rattle.std.proofs.lemmas.Bool.{ne_eqb}
use Rattle.text_words.proofs.KnownLists.{each-so}
use Rattle.std.specs.Prelude.{◌==◌, find, slice_get}
use Rattle.std.specs.List.{AllByRecursion}
use Rattle.std.specs.Option.{option_map}
use Rattle.core_tables.specs.declared.versions.Live.{Live}
use Rattle.core_tables.specs.Live.{version_of}
use Rattle.exec_rules.specs.declared.version.Version.{Version}
use Rattle.language.specs.Lang.{Lang}
use Rattle.core_rules.specs.declared.event.Event.{Event}
use Rattle.core_rules.specs.declared.event.Event.TheVariants as event
use Rattle.core_rules.specs.Doc.{doc}
use Rattle.core_rules.specs.Legal.{IsLegal}

abbrev pub AtMost : ℕ → List (Live Version) → Type 0
AtMost n live = AllByRecursion (λ one. one.id ≤ n) live

most_pushed : (n : ℕ) (live : List (Live Version)) (x : Live Version) → AtMost n live → x.id ≤ n → AtMost n (live ++ x ∷ [])
most_pushed n [] x all le = (le, tt)
most_pushed n (y ∷ live) x all le = (all.0, most_pushed n live x all.1 le)

most_filtered : (n : ℕ) (test : Live Version → Bool) (live : List (Live Version)) → AtMost n live → AtMost n (filter test live)
most_filtered n test [] all = tt
most_filtered n test (x ∷ live) all = go (test x) (most_filtered n test live all.1)
  where
    go : (b : Bool) → AtMost n (filter test live) → AtMost n (cond b (x ∷ filter test live) (filter test live))
    go true rest = (all.0, rest)
    go false rest = rest

module _ {S : Type 0} (l : Lang S) where
  pub live_ids : (h : List Event) → IsLegal l h → AtMost (doc l h).last (doc l h).live
  live_ids [] legal = tt
  live_ids (event.Update id nodes blobs ∷ h) legal =
      most_pushed id (doc l h).live _
      (each-so (λ (one : Live Version). one.id ≤ (doc l h).last) (λ (one : Live Version). one.id ≤ id)
      (λ one le. omega (arith, le, legal.1.1.newer)) (doc l h).live (live_ids h legal.0)) (omega arith)
  live_ids (event.Cancel e ∷ h) legal = live_ids h legal.0
  live_ids (event.Remove ids ∷ h) legal = most_filtered (doc l h).last _ (doc l h).live (live_ids h legal.0)
  live_ids (event.Claimed who p ∷ h) legal = live_ids h legal.0
  live_ids (event.Finished who p ∷ h) legal = live_ids h legal.0
  live_ids (event.Dropped who p ∷ h) legal = live_ids h legal.0
  live_ids (event.Ended ∷ h) legal = live_ids h legal.0

-- so none has an id behind it
none_found : (n id : ℕ) (live : List (Live Version)) → AtMost n live → n < id → find (λ (one : Live Version). one.id == id) live ≡ None
none_found n id [] all lt = refl
none_found n id (x ∷ live) all lt =
    ap (λ b. cond b (Some x) (find (λ (one : Live Version). one.id == id) live)) (ne_eqb x.id id (λ same. absurd (omega (arith, same, lt, all.0))))
    ∙ none_found n id live all.1 lt

pub fresh_id : (n id : ℕ) (live : List (Live Version)) → AtMost n live → n < id → version_of live id ≡ None
fresh_id n id live all lt = ap (option_map (λ (one : Live Version). one.version)) (none_found n id live all lt)

-- a live version that is found by its id has a place
pub live_place : (live : List (Live Version)) (id : ℕ) (v : Version) → version_of live id ≡ Some v
    → (i : ℕ) × (one : Live Version) × (slice_get live i ≡ Some one) × (one.version ≡ v)
live_place [] id v at = absurd (cc)
live_place (x ∷ live) id v at = go (x.id == id) at (live_place live id v)
  where
    go : (b : Bool) → option_map (λ (one : Live Version). one.version) (cond b (Some x) (find (λ (one : Live Version). one.id == id) live)) ≡ Some v
        → (version_of live id ≡ Some v → (i : ℕ) × (one : Live Version) × (slice_get live i ≡ Some one) × (one.version ≡ v))
        → (i : ℕ) × (one : Live Version) × (slice_get (x ∷ live) i ≡ Some one) × (one.version ≡ v)
    go true at rest = let same : x.version ≡ v = cc in (zero, x, refl, same)
    go false at rest = let there = rest at in (suc there.0, there.1, there.2, there.3)
