-- A state of the language may go to other threads.
use denote.Param.Send.{sendable}
use Rattle.toplevel.proofs.Crossing.{crosses}
use Rattle.pide_program.proofs.running.build.Goals as goal

pub build_theories-status-requires-send-L-State : goal.build_theories-status-requires-send-L-State
build_theories-status-requires-send-L-State g c κs within = search (crosses, sendable)

pub build_theories-status-requires-sync-L-State : goal.build_theories-status-requires-sync-L-State
build_theories-status-requires-sync-L-State g c κs within = search (crosses, sendable)
