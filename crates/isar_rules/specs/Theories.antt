-- What the commands of theories make, and their errors, the first that holds (after Isabelle's
-- Isar, Wenzel 1999; this project's own choice).
use Rattle.std.specs.Prelude.{ℕ, Bool, ◌∷◌, if◌then◌else◌, List, [], map, is_some, Option, Some, None, Ok, Err}
use Rattle.nj_formula.specs.declared.formula.Formula.{Formula}
use Rattle.theory_ctx.specs.Facts.{Fact, fact_of}
use Rattle.theory_ctx.specs.Merged.{extended_facts}
use Rattle.doc_nodes.specs.Names.{equal}
use Rattle.proof_state.specs.declared.levels.Levels.TheVariants.{Prove}
use Rattle.isar_rules.specs.declared.shape.Spot.{Spot}
use Rattle.isar_rules.specs.declared.state.Given.{Given}
use Rattle.isar_rules.specs.declared.state.Given.TheVariants.{Facts, Bad}
use Rattle.isar_rules.specs.declared.state.Theory.{Theory}
use Rattle.isar_rules.specs.declared.state.Place.{Place}
use Rattle.isar_rules.specs.declared.state.Place.TheVariants as place
use Rattle.isar_rules.specs.Errors.{Tried, and_then, formula_in, name_differs, bad_import, bad_keyword, name_taken}
use Rattle.isar_rules.specs.Reports.{theory_report, import_report, def_report, formula_report}
use Rattle.isar_rules.specs.Effects.{Effect, makes}

-- the facts to begin with, unless an import is bad
abbrev pub facts_or_bad_import : Given → Tried (List Fact)
facts_or_bad_import (Facts facts) = Ok facts
facts_or_bad_import (Bad name) = Err (bad_import name)

-- the theory of these facts, unless a keyword is bad
abbrev pub begins : Spot → List Spot → Option (List ℕ) → List Fact → Tried Effect
begins name imports (Some keyword) facts = Err (bad_keyword keyword)
begins name imports None facts =
    Ok (makes (place.Theory (record { name = name.text; facts = facts }))
    (theory_report name ∷ map import_report imports))

-- `theory`, in a node of this name
abbrev pub beginning_effect : List ℕ → Given → Option (List ℕ) → Spot → List Spot → Tried Effect
beginning_effect node given keyword name imports = if equal name.text node
    then and_then (facts_or_bad_import given) (begins name imports keyword) else Err name_differs

-- the theory with one fact more
abbrev pub with_fact : List ℕ → Formula → Theory → Theory
with_fact name f theory = record theory {
  facts = extended_facts (record { name = name; theory = theory.name }, f) theory.facts;
}

-- the theory has a fact of this name
abbrev pub has_fact : List ℕ → Theory → Bool
has_fact name theory = is_some (fact_of theory.name name theory.facts)

-- the place for a new fact, unless its formula is bad or its name taken
abbrev pub stated_effect : (Formula → Place) → Theory → Spot → Spot → Tried Effect
stated_effect next theory name quoted = and_then (formula_in quoted.text)
    (λ f. if has_fact name.text theory then Err (name_taken name.text)
    else Ok (makes (next f) (def_report theory.name name ∷ formula_report quoted f ∷ [])))

-- `axiom`
abbrev pub axiom_made : Theory → Spot → Spot → Tried Effect
axiom_made theory name quoted =
    stated_effect (λ f. place.Theory (with_fact name.text f theory)) theory name quoted

-- `lemma`
abbrev pub lemma_made : Theory → Spot → Spot → Tried Effect
lemma_made theory name quoted =
    stated_effect (λ f. place.Proof theory name.text f (Prove f [])) theory name quoted
