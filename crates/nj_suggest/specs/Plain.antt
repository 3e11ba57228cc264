-- Names that a proof can cite as they are (this project's own).
use Rattle.std.specs.Prelude.{◌≡◌, [], ◌∷◌}
use Rattle.theory_ctx.specs.declared.local.Local.{Local}
use Rattle.theory_ctx.specs.Looked.{name_parts}

-- the fact's name has no dot, so it names no theory
abbrev pub IsPlain : Local → Type 0
IsPlain local = name_parts local.name ≡ local.name ∷ []
