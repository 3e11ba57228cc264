use Rattle.std.proofs.Common.{◌≡◌, drop}
use Rattle.std.specs.List.{position_from}
use Rattle.proof_state.specs.Fits.{fits}
use Rattle.proof_state.proofs.fits.fitting.Given as goal

abbrev pub invariant-loop-place : goal.invariant-loop-place
invariant-loop-place l =
    position_from (fits l.block l.shown) l.place (drop l.place l.block.pending) ≡ position_from (fits l.block l.shown) 0 l.block.pending
