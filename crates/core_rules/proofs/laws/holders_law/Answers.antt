use Rattle.std.proofs.Common.{sym, ◌∙◌}
use Rattle.core_rules.proofs.Holders.{held_is, tells_all}
use Rattle.core_rules.proofs.laws.holders_law.Goals as goal

pub returns-clause-told : goal.returns-clause-told
returns-clause-told g c = λ h who p legal. tells_all g.L.Language.lang h legal who p

pub returns-clause-one : goal.returns-clause-one
returns-clause-one g c = λ h v w p legal first second.
    held_is v w (sym ((tells_all g.L.Language.lang h legal v p).0 first)
    ∙ (tells_all g.L.Language.lang h legal w p).0 second)
