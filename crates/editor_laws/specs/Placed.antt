-- Where reports of a command stand (this project's own).
use Rattle.std.specs.Prelude.{◌≡◌, ◌⊎◌, ℕ, List}
use Rattle.pide_base.specs.declared.range.Range.{Range}
use Rattle.outer_syntax.specs.declared.token.Token.{Token}
use Rattle.proof_terms.specs.Cited.{IsPlaceOf}
use Rattle.isar_rules.specs.Reports.{whole}

-- on the whole source, or on one of its tokens
abbrev pub IsPlaced : List ℕ → List Token → Range → Type 0
IsPlaced source tokens range = (range ≡ whole source) ⊎ IsPlaceOf tokens range
