-- What a worker brings back.
use Rattle.std.specs.Prelude.{Option, None, Some}
use Rattle.pide_base.specs.declared.part.Part.{Part}
use Rattle.hist_lock.specs.declared.view.View.{View}
use Rattle.worker_loop.specs.declared.said.Said.{Said}
use Rattle.worker_loop.specs.declared.said.Said.TheVariants as said
use Rattle.worker_loop.specs.declared.worker.Worked.{Worked}
use Rattle.worker_loop.specs.declared.worker.Worked.TheVariants as worked
use Rattle.worker_loop.specs.Rounds.{GoesOn, HasSeen}

module _ {E : Type 0} (says : E → Said) where
  -- a worker that held this has stopped: it holds nothing, except for want of memory
  abbrev pub StoppedSo : Option Part → View E → Worked → View E → Type 0
  StoppedSo held v worked.Ended w = GoesOn says v held w None × HasSeen says w said.Ended
  StoppedSo held v worked.WriteFault w = GoesOn says v held w None × HasSeen says w said.Lost
  StoppedSo held v worked.NoMemory w =
      ((after : Option Part) × GoesOn says v held w after) × HasSeen says w said.Ended

  -- a worker that held nothing worked by rounds, until all had ended or the sink had failed
  abbrev pub WorkedSo : View E → Worked → View E → Type 0
  WorkedSo v why w = StoppedSo None v why w

  -- a worker that held this has stopped, or it goes on and holds nothing
  abbrev pub RoundSo : Option Part → View E → Option Worked → View E → Type 0
  RoundSo held v (Some why) w = StoppedSo held v why w
  RoundSo held v None w = GoesOn says v held w None
