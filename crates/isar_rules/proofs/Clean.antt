-- The reports of an accepted command stand on its tokens, and none of them is an error.
use Rattle.std.proofs.Common.{ℕ, Bool, true, false, if◌then◌else◌, List, [], ◌∷◌, map, Option, Some, None, Ok, Err, refl}
use Rattle.std.specs.Bool.{⊤}
use Rattle.std.specs.List.{AllByRecursion}
use Rattle.pide_base.specs.declared.range.Range.{Range}
use Rattle.outer_syntax.specs.declared.token.Token.{Token}
use Rattle.nj_formula.specs.declared.formula.Formula.{Formula}
use Rattle.theory_ctx.specs.Facts.{Fact}
use Rattle.doc_nodes.specs.Names.{equal}
use Rattle.proof_state.specs.declared.levels.Levels.{Levels}
use Rattle.proof_state.specs.declared.levels.Levels.TheVariants.{Prove, State}
use Rattle.proof_state.specs.Steps.{Command, step, show, by}
use Rattle.report_markup.specs.declared.report.Report.{Report}
use Rattle.isar_rules.specs.declared.shape.Shape.{Shape}
use Rattle.isar_rules.specs.declared.shape.Shape.TheVariants as shape
use Rattle.isar_rules.specs.declared.shape.Spot.{Spot}
use Rattle.isar_rules.specs.declared.state.Given.{Given}
use Rattle.isar_rules.specs.declared.state.Theory.{Theory}
use Rattle.isar_rules.specs.declared.state.Place.{Place}
use Rattle.isar_rules.specs.declared.state.Place.TheVariants as place
use Rattle.isar_rules.specs.Errors.{and_then, formula_in, name_differs, name_taken}
use Rattle.isar_rules.specs.BlobLines.{listed_facts}
use Rattle.isar_rules.specs.Reports.{def_report, formula_report, local_report, import_report}
use Rattle.isar_rules.specs.Effects.{Effect, makes}
use Rattle.isar_rules.specs.Theories.{facts_or_bad_import, begins, beginning_effect, has_fact, stated_effect}
use Rattle.isar_rules.specs.Loads.{load_made, blob_or, with_all, facts_or_bad_line as listed_or}
use Rattle.isar_rules.specs.Proofs.{Ordered, with_formula, ordered_command, levels_or, effect_of, stands, proof_made}
use Rattle.isar_rules.specs.Steps.{acted}
use Rattle.proof_terms.specs.Cited.{IsPlaceOf}
use Rattle.isar_rules.proofs.Good.{IsGood, good_token}
use Rattle.isar_rules.proofs.Spots.{IfSpot, SpotsAre}
use Rattle.isar_rules.proofs.KnownTried.{IfTried, chained, always}

module _ (source : List ℕ) (tokens : List Token) where
  abbrev Good : Report → Type 0
  Good = IsGood source tokens

  abbrev pub AreGood : List Report → Type 0
  AreGood = AllByRecursion Good

  abbrev pub IsClean : Effect → Type 0
  IsClean e = AreGood e.reports

  abbrev pub InSource : Range → Type 0
  InSource = IsPlaceOf tokens

  imports-good : (imports : List Spot) → AllByRecursion (λ s. InSource s.range) imports → AreGood (map import_report imports)
  imports-good [] all = tt
  imports-good (s ∷ more) all = (good_token source tokens _ all.0 refl, imports-good more all.1)

  local-good : (name : Option Spot) → IfSpot InSource name → AreGood (local_report name)
  local-good None here = tt
  local-good (Some s) here = (good_token source tokens _ here refl, tt)

  begins-clean : (name : Spot) (imports : List Spot) (keyword : Option (List ℕ)) (facts : List Fact)
      → InSource name.range → AllByRecursion (λ s. InSource s.range) imports → IfTried IsClean (begins name imports keyword facts)
  begins-clean name imports (Some k) facts here all = tt
  begins-clean name imports None facts here all = (good_token source tokens _ here refl, imports-good imports all)

  begun-clean : (node : List ℕ) (given : Given) (keyword : Option (List ℕ)) (name : Spot) (imports : List Spot)
      → InSource name.range → AllByRecursion (λ s. InSource s.range) imports → IfTried IsClean (beginning_effect node given keyword name imports)
  begun-clean node given keyword name imports here all = go (equal name.text node)
    where
      go : (b : Bool) → IfTried IsClean (if b then and_then (facts_or_bad_import given) (begins name imports keyword) else Err name_differs)
      go true =
          chained (λ _. ⊤) IsClean (facts_or_bad_import given) (begins name imports keyword)
          (always (facts_or_bad_import given))
          (λ facts _. begins-clean name imports keyword facts here all)
      go false = tt

  stated-clean : (next : Formula → Place) (theory : Theory) (name quoted : Spot) → InSource name.range → InSource quoted.range → IfTried IsClean (stated_effect next theory name quoted)
  stated-clean next theory name quoted here there =
      chained (λ _. ⊤) IsClean (formula_in quoted.text) _ (always (formula_in quoted.text)) (λ f _. go f (has_fact name.text theory))
    where
      go : (f : Formula) (b : Bool) → IfTried IsClean (if b then Err (name_taken name.text)
          else Ok (makes (next f) (def_report theory.name name ∷ formula_report quoted f ∷ [])))
      go f true = tt
      go f false = (good_token source tokens _ here refl, (good_token source tokens _ there refl, tt))

  load-clean : (blob : Option (List ℕ)) (theory : Theory) (name : Spot) → InSource name.range → IfTried IsClean (load_made blob theory name)
  load-clean blob theory name here =
      chained (λ _. ⊤) IsClean (blob_or name.text blob) _ (always _)
      (λ text _. chained (λ _. ⊤) IsClean (listed_or (listed_facts text)) _ (always _)
      (λ facts _. chained (λ _. ⊤) IsClean (with_all theory facts) _ (always _) (λ more _. (good_token source tokens _ here refl, tt))))

  abbrev OrderGood : Ordered → Type 0
  OrderGood o = AreGood o.1

  formula-clean : (command : Formula → Command) (name : Option Spot) (quoted : Spot) → IfSpot InSource name → InSource quoted.range → IfTried OrderGood (with_formula command name quoted)
  formula-clean command name quoted here there =
      chained (λ _. ⊤) OrderGood (formula_in quoted.text) _ (always (formula_in quoted.text)) (λ f _. (good_token source tokens _ there refl, local-good name here))

  ordered-clean : (facts : List Fact) (s : Shape) (levels : Levels) → SpotsAre InSource s → IfTried OrderGood (ordered_command facts s levels)
  ordered-clean facts (shape.Proof dash) (Prove goal around) spots = tt
  ordered-clean facts shape.By (Prove goal around) spots = tt
  ordered-clean facts (shape.Fix x) (State block around) spots = (good_token source tokens _ spots refl, tt)
  ordered-clean facts (shape.Assume name quoted) (State block around) spots = formula-clean _ name quoted spots.0 spots.1
  ordered-clean facts (shape.Have name quoted) (State block around) spots = formula-clean _ name quoted spots.0 spots.1
  ordered-clean facts (shape.Show quoted) (State block around) spots = formula-clean show None quoted tt spots
  ordered-clean facts shape.Next (State block around) spots = tt
  ordered-clean facts shape.Qed (State block around) spots = tt
  ordered-clean facts _ _ spots = tt

  effect-clean : (c : Command) (after : Place) (reports : List Report) → AreGood reports → IsClean (effect_of c after reports)
  effect-clean by after reports good = tt
  effect-clean _ after reports good = good

  proof-clean : (theory : Theory) (name : List ℕ) (goal : Formula) (levels : Levels) (s : Shape) → SpotsAre InSource s → IfTried IsClean (proof_made theory name goal levels s)
  proof-clean theory name goal levels s spots =
      chained OrderGood IsClean (ordered_command theory.facts s levels) _
      (ordered-clean theory.facts s levels spots)
      (λ o good. chained (λ _. ⊤) IsClean (levels_or (step o.0 levels)) _ (always (levels_or (step o.0 levels)))
      (λ after _. effect-clean o.0 (stands theory name goal after) o.1 good))

  pub acted-clean : (blob : Option (List ℕ)) (p : Place) (s : Shape) → SpotsAre InSource s → IfTried IsClean (acted blob p s)
  acted-clean blob (place.Start node given keyword) (shape.Theory name imports) spots = begun-clean node given keyword name imports spots.0 spots.1
  acted-clean blob (place.Theory theory) shape.End spots = tt
  acted-clean blob (place.Theory theory) (shape.Axiom name quoted) spots = stated-clean _ theory name quoted spots.0 spots.1
  acted-clean blob (place.Theory theory) (shape.Lemma name quoted) spots = stated-clean _ theory name quoted spots.0 spots.1
  acted-clean blob (place.Theory theory) (shape.Load name) spots = load-clean blob theory name spots
  acted-clean blob (place.Proof theory name goal levels) s spots = proof-clean theory name goal levels s spots
  acted-clean blob _ _ spots = tt
