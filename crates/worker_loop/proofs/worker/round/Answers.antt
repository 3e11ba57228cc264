-- The part of the claim is held.
use Rattle.worker_loop.proofs.KnownHeld.{held_made}
use Rattle.worker_loop.proofs.worker.round.Goals as goal

pub carry_out-requires-clause-holds : goal.carry_out-requires-clause-holds
carry_out-requires-clause-holds g c = let made = c.in-Job.ensures.claimed.0 in held_made g.W.Work.says _ _ made.0 _ made.1 made.2
