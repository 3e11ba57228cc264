-- What an execution works on, by what it goes by.
use Rattle.std.proofs.Common.{◌≡◌, ℕ, List, [], ◌∷◌, Option, Some, refl, ap, sym, ◌∙◌}
use Rattle.std.specs.Prelude.{zip, filter_map}
use Rattle.std.specs.Option.{option_map}
use Rattle.std.specs.List.{cons_option}
use Rattle.exec_rules.specs.declared.key.Last.{Last}
use Rattle.exec_rules.specs.declared.key.Last.TheVariants.{Empty, Open, Made}
use Rattle.exec_rules.specs.declared.key.Key.{Key}
use Rattle.exec_rules.specs.declared.key.Key.TheVariants.{Lasts, BadImport}
use Rattle.exec_rules.specs.declared.home.Input.{Input}
use Rattle.exec_rules.specs.declared.home.Input.TheVariants as input
use Rattle.exec_rules.specs.declared.home.Home.{Home}
use Rattle.language.specs.declared.made.Imports.TheVariants.{Ordered}
use Rattle.language.specs.Lang.{Lang}
use Rattle.core_rules.specs.Numbered.{numbered}
use Rattle.core_rules.specs.Parts.{last_evaluation, lasts_of, sources_of}
use Rattle.core_rules.specs.Settings.{Setting, state_behind, imported_state, imports_by, taken_up_state, setting_by, settings, setting}
use Rattle.core_rules.proofs.Tables.{AreOlder, Same, among, table, table_at}

module _ {S : Type 0} (l : Lang S) where
  -- an execution by its home, given what others work on
  abbrev set_by : (ℕ → Option (Setting S)) → Home → Option (Setting S)
  set_by f h = option_map (λ state. record { source = h.source; blob = h.blob; state = state })
      (taken_up_state l (λ e. option_map (state_behind l) (f e)) h.input)

  settings_are : (hs : List Home) → settings l hs ≡ table set_by hs
  settings_are [] = refl
  settings_are (h ∷ hs) = ap (λ xs. setting_by l xs h ∷ xs) (settings_are hs)

  module _ (f g : ℕ → Option (Setting S)) where
    abbrev before : ℕ → Option S
    before e = option_map (state_behind l) (f e)

    abbrev after : ℕ → Option S
    after e = option_map (state_behind l) (g e)

    one_same : (name : List ℕ) (last : Last) (rest : List ℕ)
        → Same f g (cons_option (last_evaluation last) rest)
        → imported_state l before (name, last) ≡ imported_state l after (name, last)
    one_same name Empty rest same = refl
    one_same name Open rest same = refl
    one_same name (Made e) rest same =
        ap (λ o. option_map (λ state. record { name = name; state = state }) (option_map (state_behind l) o)) same.0

    rest_same : (last : Last) (rest : List ℕ) → Same f g (cons_option (last_evaluation last) rest)
        → Same f g rest
    rest_same Empty rest same = same
    rest_same Open rest same = same
    rest_same (Made e) rest same = same.1

    all_same : (names : List (List ℕ)) (lasts : List Last)
        → Same f g (filter_map last_evaluation lasts)
        → filter_map (imported_state l before) (zip names lasts) ≡ filter_map
        (imported_state l after) (zip names lasts)
    all_same [] lasts same = refl
    all_same (name ∷ names) [] same = refl
    all_same (name ∷ names) (last ∷ lasts) same =
        ap (λ o. cons_option o (filter_map (imported_state l before) (zip names lasts)))
        (one_same name last (filter_map last_evaluation lasts) same)
        ∙ ap (cons_option (imported_state l after (name, last)))
        (all_same names lasts (rest_same last (filter_map last_evaluation lasts) same))

    imports_same : (names : List (List ℕ)) (key : Key) → Same f g (lasts_of key)
        → imports_by l before names key ≡ imports_by l after names key
    imports_same names (Lasts lasts) same = ap Ordered (all_same names lasts same)
    imports_same names (BadImport name) same = refl

    taken_same : (i : Input) → Same f g (sources_of i)
        → taken_up_state l before i ≡ taken_up_state l after i
    taken_same (input.First head) same =
        ap (λ imports. Some (l.start head.node imports head.aliases)) (imports_same head.imports head.key same)
    taken_same (input.Next e) same = ap (option_map (state_behind l)) same.0
    taken_same (input.Print e) same = ap (option_map (state_behind l)) same.0

  set_local : (f g : ℕ → Option (Setting S)) (h : Home) → Same f g (sources_of h.input) → set_by f h ≡ set_by g h
  set_local f g h same =
      ap (option_map (λ state. record { source = h.source; blob = h.blob; state = state })) (taken_same f g h.input same)

  -- the state behind an execution
  abbrev pub behind : List Home → ℕ → Option S
  behind homes e = option_map (state_behind l) (setting l homes e)

  -- what an execution works on
  pub setting_at : (homes : List Home) (e : ℕ) (h : Home) → AreOlder homes → numbered homes e ≡ Some h
      → setting l homes e
      ≡ option_map (λ state. record { source = h.source; blob = h.blob; state = state })
      (taken_up_state l (behind homes) h.input)
  setting_at homes e h older at =
      ap (λ xs. among xs e) (settings_are homes) ∙ table_at set_by set_local homes e h older at
      ∙ ap (λ xs. set_by (among xs) h) (sym (settings_are homes))
