use Rattle.std.proofs.Common.{◌≡◌, ◌≤◌, None, length, take}
use Rattle.std.specs.Prelude.{◌-◌}
use Rattle.pide_mirror.specs.Feeding.{Hears}
use Rattle.pide_mirror.proofs.mirror.Mirror.feed.Given as goal

abbrev pub invariant-messages : goal.invariant-messages
invariant-messages l = (l.used ≤ length l.piece) × (l.count ≤ l.used)
    × Hears l.fn.self (take l.used l.piece) l.count l.self × (l.self.ended ≡ None)

abbrev pub decreases-messages : goal.decreases-messages
decreases-messages l = length l.piece - l.used
