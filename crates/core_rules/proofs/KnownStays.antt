-- What an execution goes by and works on never changes.
use Rattle.std.proofs.Common.{◌≡◌, ℕ, suc, ◌≤◌, false, List, [], ◌∷◌, length, map, Option, Some, None, refl, ap, ◌∙◌, arith}
use Rattle.std.specs.Option.{option_map_or, option_and_then}
use Rattle.exec_rules.specs.declared.home.Home.{Home}
use Rattle.language.specs.Lang.{Lang}
use Rattle.core_rules.specs.declared.event.Event.{Event}
use Rattle.core_rules.specs.declared.event.Event.TheVariants as event
use Rattle.core_rules.specs.Numbered.{numbered, grown}
use Rattle.core_rules.specs.Settings.{Setting, made_of, setting_by, settings, setting}
use Rattle.core_rules.specs.Parts.{forks, kinds_by, parts_of}
use Rattle.core_rules.specs.Doc.{assignment_of, doc}
use Rattle.core_rules.proofs.KnownNumbers.{numbered_more, numbered_within}

module _ {S : Type 0} (l : Lang S) where
  pub length_settings : (homes : List Home) → length (settings l homes) ≡ length homes
  length_settings [] = refl
  length_settings (h ∷ hs) = ap suc (length_settings hs)

  pub setting_more : (hs : List Home) (h : Home) (e : ℕ) → e ≤ length hs → setting l (h ∷ hs) e ≡ setting l hs e
  setting_more hs h e le = ap (λ o. option_and_then (λ s. s) o)
      (numbered_more (settings l hs) (setting_by l (settings l hs) h) e (omega (arith, le, length_settings hs)))

  pub setting_grown : (hs more : List Home) (e : ℕ) → e ≤ length hs → setting l (grown hs more) e ≡ setting l hs e
  setting_grown hs [] e le = refl
  setting_grown hs (h ∷ more) e le = setting_grown (h ∷ hs) more e (omega (arith, le)) ∙ setting_more hs h e le

  pub number_grown : (hs more : List Home) (e : ℕ) → e ≤ length hs → numbered (grown hs more) e ≡ numbered hs e
  number_grown hs [] e le = refl
  number_grown hs (h ∷ more) e le = number_grown (h ∷ hs) more e (omega (arith, le)) ∙ numbered_more hs h e le

  -- nor do its parts
  pub parts_grown : (hs more : List Home) (e : ℕ) → e ≤ length hs → parts_of l (grown hs more) e ≡ parts_of l hs e
  parts_grown hs more e le =
      ap (λ o. option_map_or
      (λ (x : Home). map (λ k. record { exec = e; kind = k }) (kinds_by x.input (forks l (grown hs more) e))) o [])
      (number_grown hs more e le)
      ∙ ap (λ s. option_map_or
      (λ (x : Home). map (λ k. record { exec = e; kind = k }) (kinds_by x.input (option_map_or (λ s. (made_of l s).forks) s false)))
      (numbered hs e) []) (setting_grown hs more e le)

  some_within : (homes : List Home) (e : ℕ) (s : Setting S) → setting l homes e ≡ Some s → e ≤ length homes
  some_within homes e s at = omega (arith, go (settings l homes) at, length_settings homes)
    where
      go : (xs : List (Option (Setting S))) → option_and_then (λ s. s) (numbered xs e) ≡ Some s → e ≤ length xs
      go xs at = by (numbered xs e) refl at
        where
          by : (o : Option (Option (Setting S))) → numbered xs e ≡ o → option_and_then (λ s. s) o ≡ Some s → e ≤ length xs
          by None f at = absurd (cc)
          by (Some o) f at = numbered_within xs e o f

  -- so for each event
  pub setting_stays : (x : Event) (h : List Event) (e : ℕ) (s : Setting S) → setting l (doc l h).homes e ≡ Some s
      → setting l (doc l (x ∷ h)).homes e ≡ Some s
  setting_stays (event.Update id nodes blobs) h e s at =
      setting_grown (doc l h).homes (assignment_of (doc l h) nodes blobs).homes e (some_within (doc l h).homes e s at) ∙ at
  setting_stays (event.Cancel x) h e s at = at
  setting_stays (event.Remove ids) h e s at = at
  setting_stays (event.Claimed who p) h e s at = at
  setting_stays (event.Finished who p) h e s at = at
  setting_stays (event.Dropped who p) h e s at = at
  setting_stays event.Ended h e s at = at
