-- The printed names of the rules (Gentzen 1935, in ASCII letters).
use Rattle.std.specs.Prelude.{ℕ, List, codes}
use Rattle.nj_kernel.specs.declared.rule.Rule.{Rule}
use Rattle.nj_kernel.specs.declared.rule.Rule.TheVariants.{ConjI, ConjE1, ConjE2, DisjI1, DisjI2, DisjE}
use Rattle.nj_kernel.specs.declared.rule.Rule.TheVariants.{ImpI, ImpE, NotI, NotE, FalseE}
use Rattle.nj_kernel.specs.declared.rule.Rule.TheVariants.{AllI, AllE, ExI, ExE}

-- the name as it is printed, I for those that introduce and E for those that eliminate
abbrev pub rule_name : Rule → List ℕ
rule_name ConjI = codes "conjI"
rule_name ConjE1 = codes "conjE1"
rule_name ConjE2 = codes "conjE2"
rule_name DisjI1 = codes "disjI1"
rule_name DisjI2 = codes "disjI2"
rule_name DisjE = codes "disjE"
rule_name ImpI = codes "impI"
rule_name ImpE = codes "impE"
rule_name NotI = codes "notI"
rule_name NotE = codes "notE"
rule_name FalseE = codes "falseE"
rule_name AllI = codes "allI"
rule_name AllE = codes "allE"
rule_name ExI = codes "exI"
rule_name ExE = codes "exE"
