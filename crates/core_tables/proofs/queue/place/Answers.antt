use Rattle.std.proofs.Common.{arith, rules}
use Rattle.core_tables.specs.Kept.{looked}
use Rattle.core_tables.proofs.Searched.{still_later, still_sooner}
use Rattle.core_tables.proofs.queue.place.Goals as goal

pub loop-low-preserved-then-goes_before : goal.loop-low-preserved-then-goes_before
loop-low-preserved-then-goes_before c = (
  omega (arith, c.loop-low-test.true),
  c.loop-low.invariant.1,
  (λ j d low. still_later (looked c.args.tasks.now) c.args.priority c.args.exec c.args.parts.now
      c.requires _ j c.index-parts-middle.result d (search rules) low (search rules)),
  c.loop-low.invariant.3,
)

pub loop-low-preserved : goal.loop-low-preserved
loop-low-preserved c = (
  omega arith,
  omega (arith, c.loop-low-test.true, c.loop-low.invariant.0, c.loop-low.invariant.1),
  c.loop-low.invariant.2,
  (λ j d high within. still_sooner (looked c.args.tasks.now) c.args.priority c.args.exec c.args.parts.now
      c.requires _ j c.index-parts-middle.result d high within (search rules)),
)
