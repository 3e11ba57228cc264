-- What holds of each version when it is made holds of each live version.
use Rattle.std.proofs.Common.{◌≡◌, ℕ, Bool, true, false, cond, List, [], ◌∷◌, ◌++◌, filter, Some}
use Rattle.std.specs.Prelude.{slice_get}
use Rattle.std.specs.List.{AllByRecursion}
use Rattle.doc_nodes.specs.Imports.{NodeList}
use Rattle.core_tables.specs.declared.versions.Live.{Live}
use Rattle.exec_rules.specs.declared.version.Version.{Version}
use Rattle.exec_rules.specs.Kept.{BlobList}
use Rattle.exec_rules.proofs.KnownThere.{all_at}
use Rattle.language.specs.Lang.{Lang}
use Rattle.core_rules.specs.declared.event.Event.{Event}
use Rattle.core_rules.specs.declared.event.Event.TheVariants as event
use Rattle.core_rules.specs.Doc.{doc}
use Rattle.core_rules.specs.Legal.{IsLegal}

module _ {A : Type 0} (P : A → Type 0) where
  pushed : (xs : List A) (y : A) → AllByRecursion P xs → P y → AllByRecursion P (xs ++ y ∷ [])
  pushed [] y all this = (this, tt)
  pushed (x ∷ xs) y all this = (all.0, pushed xs y all.1 this)

  filtered : (test : A → Bool) (xs : List A) → AllByRecursion P xs → AllByRecursion P (filter test xs)
  filtered test [] all = tt
  filtered test (x ∷ xs) all = go (test x) (filtered test xs all.1)
    where
      go : (b : Bool) → AllByRecursion P (filter test xs) → AllByRecursion P (cond b (x ∷ filter test xs) (filter test xs))
      go true rest = (all.0, rest)
      go false rest = rest

module _ {S : Type 0} (l : Lang S) (P : Version → Type 0)
    (made : (h : List Event) (id : ℕ) (nodes : NodeList) (blobs : BlobList) → IsLegal l (event.Update id nodes blobs ∷ h)
    → P (doc l (event.Update id nodes blobs ∷ h)).tip) where
  abbrev OfLive : Live Version → Type 0
  OfLive one = P one.version

  all_live : (h : List Event) → IsLegal l h → AllByRecursion OfLive (doc l h).live
  all_live [] legal = tt
  all_live (event.Update id nodes blobs ∷ h) legal =
      pushed OfLive (doc l h).live (record { id = id; version = (doc l (event.Update id nodes blobs ∷ h)).tip })
      (all_live h legal.0) (made h id nodes blobs legal)
  all_live (event.Cancel e ∷ h) legal = all_live h legal.0
  all_live (event.Remove ids ∷ h) legal = filtered OfLive _ (doc l h).live (all_live h legal.0)
  all_live (event.Claimed who p ∷ h) legal = all_live h legal.0
  all_live (event.Finished who p ∷ h) legal = all_live h legal.0
  all_live (event.Dropped who p ∷ h) legal = all_live h legal.0
  all_live (event.Ended ∷ h) legal = all_live h legal.0

  pub each_live : (h : List Event) → IsLegal l h → (k : ℕ) (one : Live Version) → slice_get (doc l h).live k ≡ Some one → P one.version
  each_live h legal k one at = all_at OfLive (doc l h).live k one (all_live h legal) at
