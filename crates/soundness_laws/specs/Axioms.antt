-- The axioms of a theory: what its commands state without a proof (this project's own).
use Rattle.std.specs.Prelude.{ℕ, List, [], ◌∷◌, map, flat_map, Option, Result, Ok, Err}
use Rattle.std.specs.Option.{option_map_or}
use Rattle.nj_formula.specs.declared.formula.Formula.{Formula}
use Rattle.nj_formula.specs.Meaning.{meaning}
use Rattle.nj_formula.specs.Statement.{Statement}
use Rattle.nj_kernel.specs.Sets.{members}
use Rattle.doc_nodes.specs.Needs.{source_tokens}
use Rattle.core_rules.specs.Settings.{Setting}
use Rattle.isar_rules.specs.declared.shape.Shape.{Shape}
use Rattle.isar_rules.specs.declared.shape.Shape.TheVariants as shape
use Rattle.isar_rules.specs.declared.state.State.{State}
use Rattle.isar_rules.specs.BlobLines.{Listed, listed_facts}
use Rattle.isar_rules.specs.Errors.{Tried, formula_in}
use Rattle.isar_rules.specs.Shapes.{shape_of}
use Rattle.isar_rules.specs.Steps.{aliases_at}

-- the formula that a quoted text is, if it is one
abbrev pub if_formula : Tried Formula → List Formula
if_formula (Ok f) = f ∷ []
if_formula (Err text) = []

-- the formulas of a blob's facts, if all of its lines are good
abbrev pub if_listed : Result (List Listed) ℕ → List Formula
if_listed (Ok facts) = map (λ fact. fact.1) facts
if_listed (Err line) = []

-- what a command of this shape states without a proof: the formula of an `axiom`, and those of the
-- blob that `load` loads
abbrev pub stated_by : Option (List ℕ) → Shape → List Formula
stated_by blob (shape.Axiom name quoted) = if_formula (formula_in quoted.text)
stated_by blob (shape.Load name) = option_map_or (λ text. if_listed (listed_facts text)) blob []
stated_by blob _ = []

-- the shape of a command, which is read under the aliases in force
abbrev pub shape_in : Setting State → Option Shape
shape_in s = let aliases = aliases_at s.state.place s.state.aliases in
    shape_of aliases s.source (source_tokens aliases s.source)

-- the axioms of a command
abbrev pub axioms_of : Setting State → List Formula
axioms_of s = option_map_or (stated_by s.blob) (shape_in s) []

-- an axiom of these commands says the statement
abbrev pub IsAxiomOf : List (Setting State) → Statement → Type 0
IsAxiomOf commands = members (map meaning (flat_map axioms_of commands))
