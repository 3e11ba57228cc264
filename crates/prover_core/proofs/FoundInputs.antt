-- What is found for a job is what its execution works on.
use Rattle.std.proofs.Common.{◌≡◌, ℕ, List, [], ◌∷◌, Option, Some, refl, ap, ◌∙◌}
use Rattle.std.specs.Prelude.{zip}
use Rattle.std.specs.List.{filter_map, cons_option, AllByRecursion}
use Rattle.std.specs.Option.{option_map}
use Rattle.doc_nodes.specs.Imports.{NodeList}
use Rattle.exec_rules.specs.declared.key.Last.{Last}
use Rattle.exec_rules.specs.declared.key.Last.TheVariants as last
use Rattle.exec_rules.specs.declared.key.Key.{Key}
use Rattle.exec_rules.specs.declared.key.Key.TheVariants.{Lasts, BadImport}
use Rattle.exec_rules.specs.declared.home.Input.{Input}
use Rattle.exec_rules.specs.declared.home.Input.TheVariants as input
use Rattle.language.specs.declared.made.Imported.{Imported}
use Rattle.language.specs.declared.made.Imports.{Imports}
use Rattle.language.specs.declared.made.Imports.TheVariants.{Ordered}
use Rattle.language.specs.Lang.{Lang}
use Rattle.core_rules.specs.Settings.{bare_start, handed_on, imported_state, imports_by, taken_up_state}
use Rattle.core_rules.specs.Parts.{last_evaluation, lasts_of, sources_of}
use Rattle.core_rules.specs.Sources.{HandsOn, AllHandOn, HandOnBy, BeginsFrom}
use Rattle.core_jobs.specs.declared.input.Input.{Input as Taken}
use Rattle.core_jobs.specs.declared.input.Input.TheVariants.{State, Start}
use Rattle.core_jobs.specs.Jobs.{taken_from}
use Rattle.core_jobs.specs.Inputs.{found_state, both_there, all_imported, found_imports, found_input}

-- something is there, and it is this
abbrev pub Has : {A : Type 0} → Option A → Type 0
Has {A} o = (x : A) × (o ≡ Some x)

module _ {S : Type 0} (l : Lang S) (nodes : NodeList) (known behind : ℕ → Option S) where
  -- the state behind this evaluation is there, and it is the right one
  pub record IsFound (e : ℕ) : Type 0 where
    pub state : S
    pub found : known e ≡ Some state
    pub right : behind e ≡ Some state

  -- what is found, which is what an import hands on
  handed : (name : List ℕ) (x : Last) → HandsOn nodes name x
      → AllByRecursion IsFound (cons_option (last_evaluation x) [])
      → (s : S) × (found_state l nodes known name x ≡ Some s) × (handed_on l behind name x ≡ Some s)
  handed name last.Empty hands all = (bare_start l name, ap (option_map (λ q. bare_start l name)) hands.1, refl)
  handed name last.Open hands all = absurd hands
  handed name (last.Made e) hands all = (all.0.state, all.0.found, all.0.right)

  first_of : (x : Last) (rest : List ℕ)
      → AllByRecursion IsFound (cons_option (last_evaluation x) rest)
      → AllByRecursion IsFound (cons_option (last_evaluation x) []) × AllByRecursion IsFound rest
  first_of last.Empty rest all = (tt, all)
  first_of last.Open rest all = (tt, all)
  first_of (last.Made e) rest all = ((all.0, tt), all.1)

  all_imports : (names : List (List ℕ)) (lasts : List Last) → AllHandOn nodes names lasts
      → AllByRecursion IsFound (filter_map last_evaluation lasts)
      → (xs : List (Imported S)) × (all_imported l nodes known (zip names lasts) ≡ Some xs)
      × (filter_map (imported_state l behind) (zip names lasts) ≡ xs)
  all_imports [] lasts hands all = ([], refl, refl)
  all_imports (name ∷ names) [] hands all = ([], refl, refl)
  all_imports (name ∷ names) (x ∷ lasts) hands all =
      let parts = first_of x (filter_map last_evaluation lasts) all in
      let one = handed name x hands.0 parts.0 in
      let rest = all_imports names lasts hands.1 parts.1 in
      let this : S → Imported S = λ state. record { name = name; state = state } in (
        this one.0 ∷ rest.0,
        ap (λ o. both_there (option_map this o) (all_imported l nodes known (zip names lasts))) one.1
            ∙ ap (both_there (Some (this one.0))) rest.1,
        ap (λ o. cons_option (option_map this o)
            (filter_map (imported_state l behind) (zip names lasts))) one.2
            ∙ ap (λ xs. this one.0 ∷ xs) rest.2,
      )

  key_imports : (names : List (List ℕ)) (key : Key) → HandOnBy nodes names key → AllByRecursion IsFound (lasts_of key)
      → (x : Imports S) × (found_imports l nodes known names key ≡ Some x) × (imports_by l behind names key ≡ x)
  key_imports names (BadImport name) hands all = (_, refl, refl)
  key_imports names (Lasts lasts) hands all =
      let found = all_imports names lasts hands all in
      (Ordered found.0, ap (option_map Ordered) found.1, ap Ordered found.2)

  -- what is found is what is taken up
  pub found_taken : (taken : Input) → BeginsFrom nodes taken → AllByRecursion IsFound (sources_of taken)
      → (x : Taken S) × (found_input l nodes known taken ≡ Some x) ×
      (taken_up_state l behind taken ≡ Some (taken_from l x))
  found_taken (input.Next e) begins all = (
    State all.0.state,
    ap (option_map State) all.0.found,
    all.0.right,
  )
  found_taken (input.Print e) begins all = (
    State all.0.state,
    ap (option_map State) all.0.found,
    all.0.right,
  )
  found_taken (input.First head) begins all =
      let found = key_imports head.imports head.key begins all in (
        Start head found.0,
        ap (option_map (Start head)) found.1,
        ap (λ x. Some (l.start head.node x head.aliases)) found.2,
      )
