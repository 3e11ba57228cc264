-- What comes of a reply (this project's own).
use Rattle.std.specs.Prelude.{◌≡◌, Bool, true, false, Option, Some, None}
use Rattle.mirror_rules.specs.Images.{Mirror}
use Rattle.pide_mirror.specs.Knowing.{IsGoing}
use Rattle.pide_mirror.specs.declared.going.Going.{Going}

-- the reply is unexpected, or it is taken
abbrev pub TakenSo : Option Mirror → Going → Bool → Type 0
TakenSo None going expected = expected ≡ false
TakenSo (Some m) going expected = (expected ≡ true) × IsGoing going m
