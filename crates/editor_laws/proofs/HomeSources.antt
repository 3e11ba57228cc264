-- The source of an execution, and what evaluations take up.
use Rattle.std.proofs.Common.{◌≡◌, ℕ, zero, suc, Bool, true, false, cond, List, [], ◌∷◌, length, Option, Some, None, ap, sym, ◌∙◌}
use Rattle.std.specs.Prelude.{slice_get, ◌==◌, if◌then◌else◌, ⊤}
use Rattle.std.specs.Option.{option_map, option_map_or, option_and_then}
use Rattle.exec_rules.specs.declared.home.Head.{Head}
use Rattle.exec_rules.specs.declared.home.Home.{Home}
use Rattle.exec_rules.specs.declared.home.Input.{Input}
use Rattle.exec_rules.specs.declared.home.Input.TheVariants as input
use Rattle.exec_rules.specs.declared.row.Row.{Row}
use Rattle.language.specs.Lang.{Lang}
use Rattle.core_rules.specs.Numbered.{numbered}
use Rattle.core_rules.specs.Settings.{Setting, setting, setting_by, settings, taken_up_state, behind_among}
use Rattle.core_rules.specs.FromScratch.{input_at}
use Rattle.core_rules.proofs.KnownStays.{length_settings}

source_by : {S : Type 0} (l : Lang S) (h : Home) (s : Setting S) (o : Option S)
    → option_map (λ state. record { source = h.source; blob = h.blob; state = state }) o ≡ Some s → s.source ≡ h.source
source_by {S} l h s None e = absurd (cc)
source_by {S} l h s (Some state) e =
    let same : ◌≡◌ {A = Setting S} (record { source = h.source; blob = h.blob; state = state }) s = cc in ap (λ (x : Setting S). x.source) (sym same)

-- what an execution works on has the source of its home
pub setting_source : {S : Type 0} (l : Lang S) (hs : List Home) (e : ℕ) (h : Home) (s : Setting S) → numbered hs e ≡ Some h
    → setting l hs e ≡ Some s → s.source ≡ h.source
setting_source l [] e h s at works = absurd (cc)
setting_source {S} l (x ∷ hs) e h s at works =
    go (e == suc (length hs)) at
    (ap (λ n. option_and_then (λ (s : Option (Setting S)). s) (cond (e == suc n) (Some (setting_by l (settings l hs) x)) (numbered (settings l hs) e)))
    (sym (length_settings l hs)) ∙ works) (setting_source l hs e h s)
  where
    go : (b : Bool) → (if b then Some x else numbered hs e) ≡ Some h
        → option_and_then (λ (s : Option (Setting S)). s) (cond b (Some (setting_by l (settings l hs) x)) (numbered (settings l hs) e)) ≡ Some s
        → (numbered hs e ≡ Some h → setting l hs e ≡ Some s → s.source ≡ h.source) → s.source ≡ h.source
    go true at works rest =
        let same : x ≡ h = cc in
        source_by l x s (taken_up_state l (behind_among l (settings l hs)) x.input) works ∙ ap
        (λ (y : Home). y.source) same
    go false at works rest = rest at works

-- an evaluation takes up no evaluation as a print does
abbrev pub is_eval : Input → Type 0
is_eval (input.Print e) = ⊥
is_eval i = ⊤

pub eval_input : (head : Head) (rows : List Row) (i : ℕ) → is_eval (input_at head rows i)
eval_input head rows zero = tt
eval_input head rows (suc i) = go (slice_get rows i)
  where
    go : (o : Option Row) → is_eval (option_map_or (λ (row : Row). input.Next row.evaluation) o (input.First head))
    go None = tt
    go (Some row) = tt
