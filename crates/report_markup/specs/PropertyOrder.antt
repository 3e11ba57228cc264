-- The order of properties.
use Rattle.std.specs.declared.cmp.Ordering.{Ordering}
use Rattle.std.specs.Ordering.{nat_cmp, on, then_cmp}
use Rattle.std.specs.Cmp.Lexicographic.{slice_cmp}
use Rattle.report_markup.specs.declared.property.Property.{Property}
use Rattle.report_markup.specs.Words.{key_word}

-- properties by key, then by value, both by bytes (this project's own)
abbrev pub property_cmp : Property → Property → Ordering
property_cmp = then_cmp (on (λ p. key_word p.key) (slice_cmp nat_cmp))
    (on (λ p. p.value) (slice_cmp nat_cmp))
