-- What live versions assign was made; and what one more event leaves unfinished.
use Rattle.std.proofs.Common.{◌≡◌, inl, inr, ℕ, zero, suc, ◌≤◌, Bool, true, false, not, cond, ◌||◌, List, [], ◌∷◌, length, Some, refl, sym, subst, ◌∙◌, arith}
use Rattle.std.proofs.lemmas.Bool.{false≢true}
use Rattle.std.specs.Prelude.{slice_get}
use Rattle.std.specs.List.{list_any}
use Rattle.pide_base.specs.declared.part.Part.{Part}
use Rattle.core_tables.specs.declared.versions.Live.{Live}
use Rattle.exec_rules.specs.declared.version.Version.{Version}
use Rattle.exec_rules.specs.Homes.{home}
use Rattle.language.specs.Lang.{Lang}
use Rattle.core_rules.specs.Assigned.{assigns, is_assigned}
use Rattle.core_rules.specs.Parts.{same_part}
use Rattle.core_rules.specs.Standing.{Standing, is_done}
use Rattle.core_rules.specs.Doc.{Doc}
use Rattle.core_rules.specs.FromScratch.{PrintIs, IsFromScratch}
use Rattle.core_rules.proofs.KnownNumbers.{numbered_within}
use Rattle.core_rules.proofs.Facts.{Facts}
use Rattle.core_rules.proofs.Sound.{IsSound}
use Rattle.core_rules.proofs.SoundDoc.{IsSoundDoc}
use Rattle.core_rules.proofs.FromScratchLaw.{from_scratch}
use Rattle.core_rules.proofs.AssignedRows.{IsIn, RowAt, assigned_at_row}

-- what one more event leaves unfinished was unfinished before it
pub any_open : (f g : Part → Bool) (ps : List Part) → ((p : Part) → f p ≡ true → g p ≡ true)
    → list_any (λ p. not (g p)) ps ≡ true → list_any (λ p. not (f p)) ps ≡ true
any_open f g [] more is = is
any_open f g (p ∷ ps) more is = go (f p) refl (g p) refl is (any_open f g ps more)
  where
    go : (a : Bool) → f p ≡ a → (b : Bool) → g p ≡ b → (not b || list_any (λ q. not (g q)) ps) ≡ true
        → (list_any (λ q. not (g q)) ps ≡ true → list_any (λ q. not (f q)) ps ≡ true)
        → (not a || list_any (λ q. not (f q)) ps) ≡ true
    go false e b d is rest = refl
    go true e true d is rest = rest is
    go true e false d is rest = absurd (false≢true (sym d ∙ more p e))

-- a part that changes its standing was not finished, or is
pub still_done : (q p : Part) (old new : Standing) → is_done old ≡ true → (same_part q p ≡ true → is_done old ≡ true → is_done new ≡ true)
    → is_done (cond (same_part q p) new old) ≡ true
still_done q p old new is change = go (same_part q p) refl
  where
    go : (b : Bool) → same_part q p ≡ b → is_done (cond b new old) ≡ true
    go true e = change e is
    go false e = is

module _ {S : Type 0} (facts : Facts) (l : Lang S) where
  -- what a sound version assigns was made
  assigned_within : (d : Doc) (so : IsSoundDoc d) (v : Version) → IsSound d.homes v → (e : ℕ) → assigns v e ≡ true
      → e ≤ length d.homes
  assigned_within d so v sound e is = go r.is
    where
      r : RowAt v (λ row. IsIn row e)
      r = assigned_at_row v e sound.long is

      here : IsFromScratch l d v r.place r.pair r.index r.row
      here = from_scratch l d so.base.older v (facts.nodes v.nodes) sound r.place r.index r.pair r.row r.node r.at

      go : IsIn r.row e → e ≤ length d.homes
      go (inl same) = let le = numbered_within d.homes r.row.evaluation _ here.homed in omega (arith, same, le)
      go (inr printed) =
          let print : PrintIs l d (Some e) (home r.pair.1 v.blobs here.command) r.row.evaluation here.works_on =
          subst (λ o. PrintIs l d o (home r.pair.1 v.blobs here.command) r.row.evaluation here.works_on) printed here.prints in
          numbered_within d.homes e _ print.0

  pub live_within : (d : Doc) (so : IsSoundDoc d) (e : ℕ) → is_assigned d.live e ≡ true → e ≤ length d.homes
  live_within d so e is = go d.live (λ k one at. so.live k one at) is
    where
      go : (live : List (Live Version)) → ((k : ℕ) (one : Live Version) → slice_get live k ≡ Some one → IsSound d.homes one.version)
          → is_assigned live e ≡ true → e ≤ length d.homes
      go [] each is = absurd (cc)
      go (x ∷ live) each is = by (assigns x.version e) refl is (go live (λ k one at. each (suc k) one at))
        where
          by : (b : Bool) → assigns x.version e ≡ b → (b || is_assigned live e) ≡ true
              → (is_assigned live e ≡ true → e ≤ length d.homes) → e ≤ length d.homes
          by true f is rest = assigned_within d so x.version (each zero x refl) e f
          by false f is rest = rest is
