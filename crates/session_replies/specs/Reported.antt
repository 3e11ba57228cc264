-- What is told of a part that is finished.
use Rattle.std.specs.Prelude.{ℕ, List, []}
use Rattle.std.specs.Option.{option_map_or}
use Rattle.exec_rules.specs.declared.home.Home.{Home}
use Rattle.core_rules.specs.Numbered.{numbered}

-- the source of the command of an execution
abbrev pub source_of : List Home → ℕ → List ℕ
source_of homes exec = option_map_or (λ home. home.source) (numbered homes exec) []
