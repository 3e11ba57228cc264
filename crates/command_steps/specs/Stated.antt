-- What a new fact says (this project's own).
use Rattle.std.specs.Prelude.{ℕ, if◌then◌else◌, List, Ok, Err}
use Rattle.nj_formula.specs.declared.formula.Formula.{Formula}
use Rattle.isar_rules.specs.declared.shape.Spot.{Spot}
use Rattle.isar_rules.specs.declared.state.Theory.{Theory}
use Rattle.isar_rules.specs.Errors.{Tried, and_then, formula_in, name_taken}
use Rattle.isar_rules.specs.Theories.{has_fact}

-- a new fact's name and its formula, unless the formula is bad or the name taken
abbrev pub stated_formula : Theory → Spot → Spot → Tried (List ℕ × Formula)
stated_formula theory name quoted = and_then (formula_in quoted.text)
    (λ f. if has_fact name.text theory then Err (name_taken name.text) else Ok (name.text, f))
