use Rattle.std.proofs.Common.{◌≡◌, length}
use Rattle.std.specs.List.{list_all}
use Rattle.message_values.specs.declared.protocol.Protocol.TheVariants as counting
use Rattle.mirror_rules.specs.Reports.{lies_in}
use Rattle.pide_mirror.proofs.told_part.lie_on_symbols.Given as goal

abbrev pub invariant-reports : goal.invariant-reports
invariant-reports l = list_all (λ r. lies_in counting.Symbols l.text r.range) l.rest
    ≡ list_all (λ r. lies_in counting.Symbols l.text r.range) l.reports

abbrev pub decreases-reports : goal.decreases-reports
decreases-reports l = length l.rest
