-- The source that an execution goes by is the one that it works on.
use Rattle.std.proofs.Common.{◌≡◌, ℕ, suc, Bool, true, false, List, [], ◌∷◌, length, Option, Some, None, sym, ap, ◌∙◌}
use Rattle.std.specs.Prelude.{◌==◌, if◌then◌else◌}
use Rattle.std.specs.Option.{option_map, option_map_or, option_and_then}
use Rattle.exec_rules.specs.declared.home.Home.{Home}
use Rattle.language.specs.Lang.{Lang}
use Rattle.core_rules.specs.Numbered.{numbered}
use Rattle.core_rules.specs.Settings.{Setting, behind_among, setting, setting_by, settings, taken_up_state}
use Rattle.core_rules.proofs.KnownStays.{length_settings}
use Rattle.session_replies.specs.Reported.{source_of}

module _ {S : Type 0} (l : Lang S) where
  same_source : (h : Home) (o : Option S) (s : Setting S)
      → option_map (λ state. record { source = h.source; blob = h.blob; state = state }) o ≡ Some s → h.source ≡ s.source
  same_source h None s at = absurd (cc)
  same_source h (Some state) s at =
      let same : record { source = h.source; blob = h.blob; state = state } ≡ s = cc in ap (λ (x : Setting S). x.source) same

  pub source_is : (homes : List Home) (e : ℕ) (s : Setting S) → setting l homes e ≡ Some s → source_of homes e ≡ s.source
  source_is [] e s at = absurd (cc)
  source_is (h ∷ hs) e s at =
      go (e == suc (length (settings l hs))) (ap (λ n. e == suc n) (sym (length_settings l hs))) at (source_is hs e s)
    where
      go : (b : Bool) → (e == suc (length hs)) ≡ b
          → option_and_then (λ x. x) (if b then Some (setting_by l (settings l hs) h) else numbered (settings l hs) e) ≡ Some s
          → (setting l hs e ≡ Some s → source_of hs e ≡ s.source)
          → option_map_or (λ (x : Home). x.source) (if e == suc (length hs) then Some h else numbered hs e) [] ≡ s.source
      go true is at rest = ap (λ b. option_map_or (λ (x : Home). x.source) (if b then Some h else numbered hs e) []) is
          ∙ same_source h (taken_up_state l (behind_among l (settings l hs)) h.input) s at
      go false is at rest = ap (λ b. option_map_or (λ (x : Home). x.source) (if b then Some h else numbered hs e) []) is ∙ rest at
