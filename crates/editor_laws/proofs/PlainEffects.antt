-- What a command of plain names makes of a plain place is plain, and so is its error.
use Rattle.std.proofs.Common.{ℕ, Bool, true, false, cond, List, [], ◌∷◌, codes, length, map, Option}
use Rattle.std.proofs.Common.{Some, None, IfSome, Result, Ok, Err, refl}
use Rattle.std.specs.List.{AllByRecursion}
use Rattle.nj_formula.specs.declared.formula.Formula.{Formula}
use Rattle.nj_syntax.specs.Readable.{IsReadable}
use Rattle.theory_ctx.specs.Facts.{Fact}
use Rattle.proof_state.specs.declared.levels.Levels.TheVariants.{Prove}
use Rattle.doc_nodes.specs.Names.{equal}
use Rattle.isar_rules.specs.declared.shape.Shape.{Shape}
use Rattle.isar_rules.specs.declared.shape.Shape.TheVariants as shape
use Rattle.isar_rules.specs.declared.shape.Spot.{Spot}
use Rattle.isar_rules.specs.declared.state.Given.{Given}
use Rattle.isar_rules.specs.declared.state.Given.TheVariants.{Facts, Bad}
use Rattle.isar_rules.specs.declared.state.Theory.{Theory}
use Rattle.isar_rules.specs.declared.state.Place.{Place}
use Rattle.isar_rules.specs.declared.state.Place.TheVariants as place
use Rattle.isar_rules.specs.BlobLines.{Listed, listed_facts}
use Rattle.isar_rules.specs.Effects.{makes}
use Rattle.isar_rules.specs.Errors.{and_then, formula_in, name_differs, name_taken}
use Rattle.isar_rules.specs.Loads.{load_made, with_all, facts_or_bad_line as listed_or, loaded}
use Rattle.isar_rules.specs.Reports.{import_report, def_report, formula_report}
use Rattle.isar_rules.specs.Steps.{acted, tried}
use Rattle.isar_rules.specs.Theories.{facts_or_bad_import, begins, beginning_effect, has_fact, stated_effect, with_fact}
use Rattle.editor_laws.proofs.PlainTexts.{Plain, spelled, after, decimal_plain}
use Rattle.editor_laws.proofs.FormulaTexts.{formula_plain}
use Rattle.editor_laws.proofs.PlainShapes.{SpotPlain, NamesPlain, AnyNames, ShapePlain}
use Rattle.editor_laws.proofs.PlainStates.{ReportPlain, TheoryPlain, GivenPlain, PlacePlain}
use Rattle.editor_laws.proofs.PlainFacts.{FactsPlain, added_plain}
use Rattle.editor_laws.proofs.ToldTries.{IfTold, then_told, formula_told}
use Rattle.editor_laws.proofs.PlainOrders.{EffectPlain, proof_plain}
use Rattle.editor_laws.proofs.PlainBlobs.{ListedPlain, AllListed, facts_plain}

imports_plain : (imports : List Spot) → AllByRecursion SpotPlain imports
    → AllByRecursion ReportPlain (map import_report imports)
imports_plain [] all = tt
imports_plain (s ∷ more) all = (((all.0, tt), spelled refl), imports_plain more all.1)

given_told : (given : Given) → GivenPlain given → IfTold FactsPlain (facts_or_bad_import given)
given_told (Facts facts) plain = plain
given_told (Bad name) plain = after (codes "bad import ") refl plain

begun_plain : (node : List ℕ) (given : Given) (keyword : Option (List ℕ)) (name : Spot)
    (imports : List Spot) → GivenPlain given → IfSome keyword Plain → NamesPlain name imports
    → IfTold EffectPlain (beginning_effect node given keyword name imports)
begun_plain node given keyword name imports plain bad names = go (equal name.text node)
  where
    began : (k : Option (List ℕ)) → IfSome k Plain → (facts : List Fact) → FactsPlain facts
        → IfTold EffectPlain (begins name imports k facts)
    began (Some k) bad facts all = after (codes "bad keyword ") refl bad
    began None bad facts all =
        ((names.0, all), (((names.0, tt), spelled refl), imports_plain imports names.1))

    go : (b : Bool)
        → IfTold EffectPlain
        (cond b (and_then (facts_or_bad_import given) (begins name imports keyword))
        (Err name_differs))
    go true =
        then_told FactsPlain EffectPlain (facts_or_bad_import given) (begins name imports keyword)
        (given_told given plain) (began keyword bad)
    go false = spelled refl

taken_plain : (name : List ℕ) → Plain name → Plain (name_taken name)
taken_plain name plain = after (codes "name taken ") refl plain

stated_plain : (next : Formula → Place) (theory : Theory) (name quoted : Spot) → Plain theory.name
    → SpotPlain name → ((f : Formula) → IsReadable f → PlacePlain (next f))
    → IfTold EffectPlain (stated_effect next theory name quoted)
stated_plain next theory name quoted own plain each =
    then_told IsReadable EffectPlain (formula_in quoted.text) _ (formula_told quoted.text)
    (λ f readable. go f readable (has_fact name.text theory))
  where
    go : (f : Formula) → IsReadable f → (b : Bool)
        → IfTold EffectPlain
        (cond b (Err (name_taken name.text))
        (Ok (makes (next f) (def_report theory.name name ∷ formula_report quoted f ∷ []))))
    go f readable true = taken_plain name.text plain
    go f readable false = (
      each f readable,
      (((own, (plain, tt)), spelled refl), ((tt, formula_plain f readable), tt)),
    )

all_plain : (theory : Theory) (facts : List Listed) → TheoryPlain theory
    → AllByRecursion ListedPlain facts → IfTold TheoryPlain (with_all theory facts)
all_plain theory [] seen all = seen
all_plain theory (fact ∷ facts) seen all =
    go (has_fact fact.0 theory)
    (all_plain (with_fact fact.0 fact.1 theory) facts
    (seen.0, added_plain _ theory.facts (seen.0, all.0) seen.1) all.1)
  where
    go : (b : Bool) → IfTold TheoryPlain (with_all (with_fact fact.0 fact.1 theory) facts)
        → IfTold TheoryPlain
        (cond b (Err (name_taken fact.0)) (with_all (with_fact fact.0 fact.1 theory) facts))
    go true more = taken_plain fact.0 all.0
    go false more = more

load_plain : (blob : Option (List ℕ)) (theory : Theory) (name : Spot) → TheoryPlain theory
    → SpotPlain name → IfTold EffectPlain (load_made blob theory name)
load_plain None theory name seen plain = after (codes "unknown blob ") refl plain
load_plain (Some text) theory name seen plain = go (listed_facts text) (facts_plain text)
  where
    go : (r : Result (List Listed) ℕ) → AllListed r
        → IfTold EffectPlain
        (and_then (listed_or r)
        (λ facts. and_then (with_all theory facts) (λ more. Ok (loaded name facts more))))
    go (Ok facts) all =
        then_told TheoryPlain EffectPlain (with_all theory facts) _
        (all_plain theory facts seen all)
        (λ more after. (after, ((tt, decimal_plain (length facts)), tt)))
    go (Err line) all = after (codes "bad blob line ") refl (decimal_plain line)

-- the names in a shape: those of a header count at the beginning alone
abbrev pub PlainAt : Place → Shape → Type 0
PlainAt (place.Start node given keyword) s = ShapePlain NamesPlain s
PlainAt _ s = ShapePlain AnyNames s

acted_plain : (blob : Option (List ℕ)) (p : Place) (s : Shape) → PlacePlain p → PlainAt p s
    → IfTold EffectPlain (acted blob p s)
acted_plain blob (place.Start node given keyword) (shape.Theory name imports) plain names =
    begun_plain node given keyword name imports plain.0 plain.1 names
acted_plain blob (place.Theory theory) shape.End plain names = (plain, tt)
acted_plain blob (place.Theory theory) (shape.Axiom name quoted) plain names =
    stated_plain (λ f. place.Theory (with_fact name.text f theory)) theory name quoted plain.0 names
    (λ f readable. (plain.0, added_plain _ theory.facts (plain.0, names) plain.1))
acted_plain blob (place.Theory theory) (shape.Lemma name quoted) plain names =
    stated_plain (λ f. place.Proof theory name.text f (Prove f [])) theory name quoted plain.0 names
    (λ f readable. (plain, names, (readable, tt)))
acted_plain blob (place.Theory theory) (shape.Load name) plain names =
    load_plain blob theory name plain names
acted_plain blob (place.Proof theory name goal levels) s plain names =
    proof_plain theory name goal levels s plain.0 plain.1 plain.2 names
acted_plain blob _ _ plain names = spelled refl

pub tried_plain : (blob : Option (List ℕ)) (p : Place) (s : Option Shape) → PlacePlain p
    → IfSome s (PlainAt p) → IfTold EffectPlain (tried blob p s)
tried_plain blob p None plain names = spelled refl
tried_plain blob p (Some s) plain names = acted_plain blob p s plain names
