-- Facts that are chosen one after the other, from the innermost on (this project's own).
use Rattle.std.specs.Prelude.{if◌then◌else◌, List, [], ◌∷◌, ◌++◌}
use Rattle.theory_ctx.specs.declared.local.Local.{Local}
use Rattle.suggest_rules.specs.Names.{is_name_of}

-- the chosen facts with the next one, unless one of them hides it
abbrev pub with_next : List Local → Local → List Local
with_next chosen local =
    if is_name_of chosen local.name then chosen else chosen ++ local ∷ []
