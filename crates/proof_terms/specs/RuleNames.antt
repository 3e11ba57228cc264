-- The rules by their names.
use Rattle.std.specs.Prelude.{ℕ, List, [], ◌∷◌, Option, find}
use Rattle.std.specs.Str.{bytes_eq}
use Rattle.nj_kernel.specs.RuleNames.{rule_name}
use Rattle.nj_kernel.specs.declared.rule.Rule.{Rule}
use Rattle.nj_kernel.specs.declared.rule.Rule.TheVariants.{ConjI, ConjE1, ConjE2, DisjI1, DisjI2, DisjE}
use Rattle.nj_kernel.specs.declared.rule.Rule.TheVariants.{ImpI, ImpE, NotI, NotE, FalseE}
use Rattle.nj_kernel.specs.declared.rule.Rule.TheVariants.{AllI, AllE, ExI, ExE}

-- all rules of natural deduction
abbrev pub all_rules : List Rule
all_rules = ConjI ∷ ConjE1 ∷ ConjE2 ∷ DisjI1 ∷ DisjI2 ∷ DisjE ∷ ImpI ∷ ImpE ∷ NotI ∷ NotE ∷ FalseE
    ∷ AllI ∷ AllE ∷ ExI ∷ ExE ∷ []

-- the rule of this name
abbrev pub rule_of : List ℕ → Option Rule
rule_of x = find (λ r. bytes_eq (rule_name r) x) all_rules
