-- How sessions are served (this project's own).
use Rattle.std.specs.Prelude.{ℕ, Bool, false, is_some, List}
use Rattle.std.specs.List.{list_any, range_with_len}
use Rattle.message_values.specs.declared.mode.Mode.{Mode}
use Rattle.message_values.specs.declared.mode.Mode.TheVariants as mode
use Rattle.message_values.specs.Workers.{most_workers}
use Rattle.core_rules.specs.declared.event.Event.{Event}
use Rattle.core_rules.specs.Standing.{held}
use Rattle.session_rules.specs.declared.service.Service.{Service}
use Rattle.session_rules.specs.declared.service.Service.TheVariants.{Workers, Script}

-- the editor's functions
abbrev pub mode_of : Service → Mode
mode_of (Workers count) = mode.Serve
mode_of Script = mode.Replay

-- the greatest number of a worker that works as it finds parts ready
abbrev pub free_workers : Service → ℕ
free_workers (Workers count) = count
free_workers Script = 0

-- a worker whom messages name holds a part
abbrev pub is_held_by_script : Service → List Event → Bool
is_held_by_script (Workers count) events = false
is_held_by_script Script events =
    list_any (λ w. is_some (held events w)) (range_with_len 1 most_workers)
