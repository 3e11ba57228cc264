-- What a lookup answers.
use Rattle.std.specs.Prelude.{ℕ, List, Option}
use Rattle.std.specs.Option.{option_copied}
use Rattle.nj_formula.specs.declared.formula.Formula.{Formula}
use Rattle.theory_ctx.specs.Spelled.{long_name}
use Rattle.theory_ctx.specs.declared.lookup.Lookup.{Lookup}
use Rattle.theory_ctx.specs.declared.lookup.Lookup.TheVariants.{Found, Unknown, Ambiguous}

-- what a name is found to mean
pub data Answer : Type 0 where
  -- a fact: its theory (a local fact has none), its name, and what it says
  found : Option (List ℕ) → List ℕ → Formula → Answer
  unknown : Answer
  -- the long names of two facts
  ambiguous : List ℕ → List ℕ → Answer

-- the answer that lent facts are
abbrev pub told_answer : Lookup → Answer
told_answer (Found theory name formula) = found (option_copied theory) name.now formula.now
told_answer Unknown = unknown
told_answer (Ambiguous first second) =
    ambiguous (long_name first.theory.now first.name.now)
    (long_name second.theory.now second.name.now)
