-- Reports as lines of bytes (this project's own).
use Rattle.std.specs.Prelude.{ℕ, List, [], ◌∷◌, ◌++◌, codes, decimal}
use Rattle.std.specs.List.{flat_map}
use Rattle.report_markup.specs.declared.property.Property.{Property}
use Rattle.report_markup.specs.declared.report.Report.{Report}
use Rattle.report_markup.specs.Words.{kind_word, key_word}
use Rattle.language.specs.Lang.{Lang}
use Rattle.text_check.specs.OneText.{markup_of}

-- ` key=value`
abbrev pub property_text : Property → List ℕ
property_text p = codes " " ++ key_word p.key ++ codes "=" ++ p.value

-- `: text`, unless the text is empty
abbrev pub text_part : List ℕ → List ℕ
text_part [] = []
text_part (b ∷ bs) = codes ": " ++ b ∷ bs

-- `start-stop`
abbrev pub place_text : Report → List ℕ
place_text r = decimal r.range.start ++ codes "-" ++ decimal r.range.stop

-- ` kind`, the properties, the text, and the end of the line
abbrev pub said_text : Report → List ℕ
said_text r = codes " " ++ kind_word r.kind ++ flat_map property_text r.properties
    ++ text_part r.text ++ codes "\n"

-- the line of a report
abbrev pub report_line : Report → List ℕ
report_line r = place_text r ++ said_text r

-- the markup of a text, a report a line
abbrev pub lines : {S : Type 0} → Lang S → List ℕ → List ℕ
lines l text = flat_map report_line (markup_of l text)
