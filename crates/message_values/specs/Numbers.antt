-- Numbers that a text writes.
use Rattle.std.specs.Prelude.{ℕ, nat_lt, ◌&&◌, bytes_eq, if◌then◌else◌, List, Option, Some, None, decimal}
use Rattle.std.specs.Str.Parse.{digits_value}
use Rattle.xml_codec.specs.Data.{int_end}

-- the number, where it has at most 18 digits and the text is its decimal
abbrev pub written : ℕ → List ℕ → Option ℕ
written number text =
    if nat_lt number int_end && bytes_eq (decimal number) text then Some number else None

-- the number of at most 18 digits whose decimal the text is (this project's own)
abbrev pub number_of : List ℕ → Option ℕ
number_of text = written (digits_value 10 text) text
