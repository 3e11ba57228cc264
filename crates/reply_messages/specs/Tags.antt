-- Tags of reports, in bytes.
use Rattle.std.specs.Prelude.{ℕ, bytes_eq, List, [], ◌∷◌, ◌++◌, Option, find, codes, decimal}
use Rattle.std.specs.List.{AllByRecursion, flat_map}
use Rattle.report_markup.specs.declared.kind.ReportKind.{ReportKind}
use Rattle.report_markup.specs.declared.kind.ReportKind.TheVariants.{Command, Theory, Import, Def, Formula, Error, Proved, Ref, State, Loaded, Suggest}
use Rattle.report_markup.specs.declared.property.Property.{Property}
use Rattle.report_markup.specs.Words.{kind_word, key_word}
use Rattle.reply_messages.specs.declared.tag.Tag.{Tag}
use Rattle.reply_messages.specs.Fits.{FitsRange, FitsProperty}

-- all kinds of reports
abbrev pub report_kinds : List ReportKind
report_kinds = Command ∷ Theory ∷ Import ∷ Def ∷ Formula ∷ Error ∷ Proved ∷ Ref ∷ State ∷ Loaded
    ∷ Suggest ∷ []

-- the kind of a word
abbrev pub report_kind_named : List ℕ → Option ReportKind
report_kind_named name = find (λ kind. bytes_eq (kind_word kind) name) report_kinds

-- key=value
abbrev pub property_bytes : Property → List ℕ
property_bytes p = key_word p.key ++ 61 ∷ p.value

-- Y key=value for each
abbrev pub properties_bytes : List Property → List ℕ
properties_bytes properties = flat_map (λ p. 6 ∷ property_bytes p) properties

-- the kind's word, the offsets, and the properties
abbrev pub tag_bytes : Tag → List ℕ
tag_bytes tag = kind_word tag.kind ++ ((6 ∷ codes "offset=") ++ (decimal tag.range.start
    ++ ((6 ∷ codes "end_offset=") ++ (decimal tag.range.stop ++ properties_bytes tag.properties))))

-- a range of numbers of 64 bits, and properties of plain texts
abbrev pub FitsTag : Tag → Type 0
FitsTag tag = FitsRange tag.range × AllByRecursion FitsProperty tag.properties
