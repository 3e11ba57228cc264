-- What a node has from plain imports is plain.
use Rattle.std.proofs.Common.{ℕ, ◌==◌, Bool, true, false, cond, List, [], ◌∷◌, Option, Some, None}
use Rattle.std.proofs.Common.{IfSome}
use Rattle.std.specs.Prelude.{find, filter_map, is_none}
use Rattle.std.specs.Option.{option_map, option_and_then}
use Rattle.std.specs.List.{AllByRecursion, cons_option}
use Rattle.text_words.specs.Identifier.{IsIdentifier}
use Rattle.theory_ctx.specs.Facts.{Fact}
use Rattle.doc_nodes.specs.declared.node.Node.{Node}
use Rattle.doc_nodes.specs.Imports.{NodeList, place_of}
use Rattle.language.specs.declared.made.Imported.{Imported}
use Rattle.core_rules.specs.Settings.{Setting}
use Rattle.core_rules.specs.Scratch.{Run, Runs, final, final_at, import_run, imports_run}
use Rattle.isar_rules.specs.declared.state.Place.{Place}
use Rattle.isar_rules.specs.declared.state.Place.TheVariants as place
use Rattle.isar_rules.specs.declared.state.State.{State}
use Rattle.isar_rules.specs.Isar.{isar}
use Rattle.isar_rules.specs.Starts.{facts_at, imported_facts, imports_given, given_from}
use Rattle.editor_laws.specs.Headed.{AreNamed}
use Rattle.editor_laws.proofs.EachPart.{each_found}
use Rattle.editor_laws.proofs.PlainTexts.{Plain, identifier_plain}
use Rattle.editor_laws.proofs.PlainStates.{GivenPlain, PlacePlain}
use Rattle.editor_laws.proofs.PlainFacts.{FactsPlain, merged_plain}

abbrev pub SettingPlain : Setting State → Type 0
SettingPlain s = PlacePlain s.state.place

-- an import of a plain name, with a plain place behind it
abbrev ImportPlain : Imported State → Type 0
ImportPlain i = Plain i.name × PlacePlain i.state.place

facts_plain : (p : Place) → PlacePlain p → IfSome (facts_at p) FactsPlain
facts_plain (place.Start node given keyword) plain = tt
facts_plain place.Outside plain = tt
facts_plain (place.Theory theory) plain = plain.1
facts_plain (place.Proof theory name goal levels) plain = plain.0.1
facts_plain (place.End theory) plain = plain.1

parts_plain : (all : List (Imported State)) → AllByRecursion ImportPlain all
    → AllByRecursion FactsPlain (filter_map imported_facts all)
parts_plain [] plain = tt
parts_plain (i ∷ all) plain =
    go (parts_plain all plain.1) (facts_at i.state.place) (facts_plain i.state.place plain.0.1)
  where
    go : AllByRecursion FactsPlain (filter_map imported_facts all) → (o : Option (List Fact))
        → IfSome o FactsPlain
        → AllByRecursion FactsPlain (cons_option o (filter_map imported_facts all))
    go rest None here = rest
    go rest (Some facts) here = (here, rest)

given_plain : (all : List (Imported State)) → AllByRecursion ImportPlain all
    → GivenPlain (imports_given all (find (λ i. is_none (imported_facts i)) all))
given_plain all plain =
    go (find (λ i. is_none (imported_facts i)) all) (each_found ImportPlain _ all plain)
  where
    go : (o : Option (Imported State)) → IfSome o ImportPlain → GivenPlain (imports_given all o)
    go None here = merged_plain _ (parts_plain all plain)
    go (Some bad) here = here.0

-- a node whose commands all stand at plain places, and what comes of it
pub record IsPlainRun (run : Run State) : Type 0 where
  pub commands : AllByRecursion SettingPlain run.commands
  pub behind : PlacePlain (final isar run).place

abbrev pub RunPlain : ℕ × Run State → Type 0
RunPlain one = IsPlainRun one.1

final_plain : (runs : Runs State) (q : ℕ) → AllByRecursion RunPlain runs
    → IfSome (final_at isar runs q) (λ s. PlacePlain s.place)
final_plain [] q all = tt
final_plain (one ∷ runs) q all = go (one.0 == q) (final_plain runs q all.1)
  where
    go : (b : Bool) → IfSome (final_at isar runs q) (λ s. PlacePlain s.place)
        → IfSome (option_map (λ (o : ℕ × Run State). final isar o.1)
        (cond b (Some one) (find (λ o. o.0 == q) runs))) (λ s. PlacePlain s.place)
    go true more = all.0.behind
    go false more = more

import_plain : (nodes : NodeList) (runs : Runs State) (name : List ℕ) → IsIdentifier name
    → AllByRecursion RunPlain runs → IfSome (import_run isar nodes runs name) ImportPlain
import_plain nodes runs name is all = placed (place_of nodes name)
  where
    behind : (o : Option State) → IfSome o (λ s. PlacePlain s.place)
        → IfSome (option_map (λ state. record { name = name; state = state }) o) ImportPlain
    behind None plain = tt
    behind (Some state) plain = (identifier_plain name is, plain)

    placed : (o : Option ℕ)
        → IfSome (option_map (λ state. record { name = name; state = state })
        (option_and_then (final_at isar runs) o)) ImportPlain
    placed None = tt
    placed (Some q) = behind (final_at isar runs q) (final_plain runs q all)

imports_plain : (nodes : NodeList) (runs : Runs State) (names : List (List ℕ))
    → AllByRecursion IsIdentifier names → AllByRecursion RunPlain runs
    → AllByRecursion ImportPlain (filter_map (import_run isar nodes runs) names)
imports_plain nodes runs [] are all = tt
imports_plain nodes runs (name ∷ names) are all =
    go (imports_plain nodes runs names are.1 all) (import_run isar nodes runs name)
    (import_plain nodes runs name are.0 all)
  where
    go : AllByRecursion ImportPlain (filter_map (import_run isar nodes runs) names)
        → (o : Option (Imported State)) → IfSome o ImportPlain
        → AllByRecursion ImportPlain (cons_option o (filter_map (import_run isar nodes runs) names))
    go rest None here = rest
    go rest (Some i) here = (here, rest)

pub bad_import : (test : List ℕ → Bool) (names : List (List ℕ)) → AllByRecursion IsIdentifier names
    → IfSome (find test names) Plain
bad_import test [] are = tt
bad_import test (name ∷ names) are = go (test name) (bad_import test names are.1)
  where
    go : (b : Bool) → IfSome (find test names) Plain
        → IfSome (cond b (Some name) (find test names)) Plain
    go true more = identifier_plain name are.0
    go false more = more

pub from_plain : (nodes : NodeList) (runs : Runs State) (node : Node)
    → AreNamed node.imports node.keywords → AllByRecursion RunPlain runs → (o : Option (List ℕ))
    → IfSome o Plain
    → GivenPlain (given_from (imports_run isar nodes runs node.imports o))
from_plain nodes runs node headed all None bad =
    given_plain _ (imports_plain nodes runs node.imports headed.imports_are all)
from_plain nodes runs node headed all (Some name) bad = bad
