-- The order of reports.
use Rattle.std.specs.declared.cmp.Ordering.{Ordering}
use Rattle.std.specs.Ordering.{nat_cmp, on, flip_args, then_cmp}
use Rattle.std.specs.Cmp.Lexicographic.{slice_cmp}
use Rattle.report_markup.specs.declared.report.Report.{Report}
use Rattle.report_markup.specs.Words.{kind_word}
use Rattle.report_markup.specs.PropertyOrder.{property_cmp}

-- what is said of a range: the kind's word, then the properties as a list, and the text, by bytes
-- (this project's own)
abbrev pub said_cmp : Report → Report → Ordering
said_cmp = then_cmp (on (λ r. kind_word r.kind) (slice_cmp nat_cmp))
    (then_cmp (on (λ r. r.properties) (slice_cmp property_cmp))
    (on (λ r. r.text) (slice_cmp nat_cmp)))

-- report order: start rising, stop falling, then what is said (this project's own)
abbrev pub report_cmp : Report → Report → Ordering
report_cmp = then_cmp (on (λ r. r.range.start) nat_cmp)
    (then_cmp (flip_args (on (λ r. r.range.stop) nat_cmp)) said_cmp)
