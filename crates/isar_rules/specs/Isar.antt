-- The command language, as functions of sources and states (the Isar language, Wenzel 1999).
use Rattle.language.specs.Lang.{Lang}
use Rattle.isar_rules.specs.declared.state.State.{State}
use Rattle.isar_rules.specs.Starts.{start_state}
use Rattle.isar_rules.specs.Steps.{step}
use Rattle.isar_rules.specs.Forks.{fork}
use Rattle.isar_rules.specs.Shown.{print}

-- the command language
abbrev pub isar : Lang State
isar = record { start = start_state; step = step; fork = fork; print = print }
