use Rattle.std.proofs.Common.{rules, ◌≡◌}
use Rattle.std.specs.Option.{option_or}
use Rattle.shared_map.specs.Pairs.{found}
use Rattle.theory_ctx.specs.Order.{by_bytes}
use Rattle.theory_ctx.proofs.KnownNames.{has_either}
use Rattle.theory_ctx.proofs.name_set.NameSet.union.Goals as goal

pub returns : goal.returns
returns c x =
    let is : found by_bytes x c.in_ok-names.names ≡ option_or (found by_bytes x c.args.self.now) (found by_bytes x c.args.other.now) = search rules in
    has_either x c.args.self.now c.args.other.now c.in_ok-names.names is
