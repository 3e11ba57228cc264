-- Names that facts may have, computed (this project's own).
use Rattle.std.specs.Prelude.{◌≡◌, [], ◌∷◌, codes}
use Rattle.isar_rules.specs.Small.{errors, behind}
use Rattle.isar_rules.specs.WorkedTheories.{with_a, seen_in_b}

-- errors of facts in order: a formula is judged before the name
pub record TakenNames : Type 0 where
  pub formula_first : errors (codes "axiom a: \"P &\"") with_a ≡ codes "bad formula at 3" ∷ []
  pub name_next : errors (codes "axiom a: \"Q\"") with_a ≡ codes "name taken a" ∷ []
  pub lemma_too : errors (codes "lemma a: \"Q\"") with_a ≡ codes "name taken a" ∷ []
  pub kept : behind (codes "lemma a: \"Q\"") with_a ≡ with_a.place
  pub imported_free : errors (codes "axiom a: \"Q\"")
      seen_in_b ≡ []
