-- Names of rules that are no aliases are free, and parts of readable formulas are readable.
use Rattle.std.proofs.Common.{◌≡◌, ℕ, ◌||◌, Bool, true, false, not, List, refl, ap, ◌∙◌, subst}
use Rattle.text_words.specs.Identifier.{IsIdentifier}
use Rattle.text_words.proofs.KnownIdentifiers.{identifier-tested}
use Rattle.outer_syntax.specs.Words.{is_base_command, is_minor_keyword}
use Rattle.nj_kernel.specs.declared.rule.Rule.{Rule}
use Rattle.nj_kernel.specs.declared.rule.Rule.TheVariants.{ConjI, ConjE1, ConjE2, DisjI1, DisjI2, DisjE, ImpI, ImpE, NotI, NotE, FalseE, AllI, AllE, ExI, ExE}
use Rattle.nj_kernel.specs.RuleNames.{rule_name}
use Rattle.suggest_rules.specs.Names.{is_alias}
use Rattle.soundness_laws.specs.Citable.{IsFree}

-- an identifier, no command of the language's own and no minor keyword
abbrev IsBare : List ℕ → Type 0
IsBare x = IsIdentifier x × (is_base_command x ≡ false) × (is_minor_keyword x ≡ false)

rule_bare : (r : Rule) → IsBare (rule_name r)
rule_bare ConjI = (identifier-tested (rule_name ConjI) refl, refl, refl)
rule_bare ConjE1 = (identifier-tested (rule_name ConjE1) refl, refl, refl)
rule_bare ConjE2 = (identifier-tested (rule_name ConjE2) refl, refl, refl)
rule_bare DisjI1 = (identifier-tested (rule_name DisjI1) refl, refl, refl)
rule_bare DisjI2 = (identifier-tested (rule_name DisjI2) refl, refl, refl)
rule_bare DisjE = (identifier-tested (rule_name DisjE) refl, refl, refl)
rule_bare ImpI = (identifier-tested (rule_name ImpI) refl, refl, refl)
rule_bare ImpE = (identifier-tested (rule_name ImpE) refl, refl, refl)
rule_bare NotI = (identifier-tested (rule_name NotI) refl, refl, refl)
rule_bare NotE = (identifier-tested (rule_name NotE) refl, refl, refl)
rule_bare FalseE = (identifier-tested (rule_name FalseE) refl, refl, refl)
rule_bare AllI = (identifier-tested (rule_name AllI) refl, refl, refl)
rule_bare AllE = (identifier-tested (rule_name AllE) refl, refl, refl)
rule_bare ExI = (identifier-tested (rule_name ExI) refl, refl, refl)
rule_bare ExE = (identifier-tested (rule_name ExE) refl, refl, refl)

denied : (b : Bool) → not b ≡ true → b ≡ false
denied true e = cc
denied false e = refl

pub rule_free : (aliases : List (List ℕ)) (r : Rule) → not (is_alias aliases (rule_name r)) ≡ true → IsFree aliases (rule_name r)
rule_free aliases r usable =
    let bare = rule_bare r in
    let unaliased = denied (is_alias aliases (rule_name r)) usable in
    (bare.0, (λ i. bare.1 i || unaliased i), bare.2)
