-- The ids of live versions rise with their age.
use Rattle.std.proofs.Common.{ℕ, ◌+◌, ◌<◌, ◌≤◌, Bool, true, false, cond, List, [], ◌∷◌, ◌++◌, map, filter, arith}
use Rattle.core_tables.specs.declared.versions.Live.{Live}
use Rattle.exec_rules.specs.declared.version.Version.{Version}
use Rattle.language.specs.Lang.{Lang}
use Rattle.core_rules.specs.declared.event.Event.{Event}
use Rattle.core_rules.specs.declared.event.Event.TheVariants as event
use Rattle.core_rules.specs.Doc.{doc}
use Rattle.core_rules.specs.Legal.{IsLegal}
use Rattle.doc_nodes.proofs.KnownRising.{RisesFrom}

-- each id is at least a, at most b, and above the one before it
abbrev AreAged : ℕ → ℕ → List (Live Version) → Type 0
AreAged a b [] = Unit {0}
AreAged a b (one ∷ more) = (a ≤ one.id) × (one.id ≤ b) × AreAged (one.id + 1) b more

wider : (a c b : ℕ) (live : List (Live Version)) → c ≤ a → AreAged a b live → AreAged c b live
wider a c b [] le aged = tt
wider a c b (one ∷ more) le aged = (omega (arith, le, aged.0), aged.1, aged.2)

pushed : (a b : ℕ) (live : List (Live Version)) (id : ℕ) (version : Version) → AreAged a b live → a ≤ id → b < id
    → AreAged a id (live ++ record { id = id; version = version } ∷ [])
pushed a b [] id version aged le lt = (le, omega arith, tt)
pushed a b (one ∷ more) id version aged le lt =
    (aged.0, omega (arith, aged.1, lt), pushed (one.id + 1) b more id version aged.2 (omega (arith, aged.1, lt)) lt)

kept : (p : Live Version → Bool) (a b : ℕ) (live : List (Live Version)) → AreAged a b live → AreAged a b (filter p live)
kept p a b [] aged = tt
kept p a b (one ∷ more) aged = go (p one) (kept p (one.id + 1) b more aged.2)
  where
    go : (t : Bool) → AreAged (one.id + 1) b (filter p more) → AreAged a b (cond t (one ∷ filter p more) (filter p more))
    go true rest = (aged.0, aged.1, rest)
    go false rest = wider (one.id + 1) a b (filter p more) (omega (arith, aged.0)) rest

ids_rise : (a b : ℕ) (live : List (Live Version)) → AreAged a b live → RisesFrom a (map (λ live. live.id) live)
ids_rise a b [] aged = tt
ids_rise a b (one ∷ more) aged = (aged.0, ids_rise (one.id + 1) b more aged.2)

module _ {S : Type 0} (l : Lang S) where
  all_aged : (h : List Event) → IsLegal l h → AreAged 0 (doc l h).last (doc l h).live
  all_aged [] legal = tt
  all_aged (event.Update id nodes blobs ∷ h) legal =
      pushed 0 (doc l h).last (doc l h).live id _ (all_aged h legal.0) (omega arith) legal.1.1.newer
  all_aged (event.Cancel e ∷ h) legal = all_aged h legal.0
  all_aged (event.Remove ids ∷ h) legal = kept _ 0 (doc l h).last (doc l h).live (all_aged h legal.0)
  all_aged (event.Claimed who p ∷ h) legal = all_aged h legal.0
  all_aged (event.Finished who p ∷ h) legal = all_aged h legal.0
  all_aged (event.Dropped who p ∷ h) legal = all_aged h legal.0
  all_aged (event.Ended ∷ h) legal = all_aged h legal.0

  pub live_rise : (h : List Event) → IsLegal l h → RisesFrom 0 (map (λ live. live.id) (doc l h).live)
  live_rise h legal = ids_rise 0 (doc l h).last (doc l h).live (all_aged h legal)
