-- A text that is not padded is the decimal of what it is read as.
use Rattle.std.proofs.Common.{◌≡◌, true, false, length}
use Rattle.std.specs.Prelude.{slice_index}
use Rattle.xml_codec.proofs.Numbers.{padded, padded_none, read_whole, decimal_read}
use Rattle.xml_codec.proofs.number.number_of.Goals as goal

pub returns-then-is_padded-clause-none : goal.returns-then-is_padded-clause-none
returns-then-is_padded-clause-none c =
    let told : padded (slice_index c.args.text.now 0) (length c.args.text.now) ≡ true = cc (c.is_padded.ensures, c.if-is_padded.true) in
    λ n small e. padded_none n _ small told e

pub returns-in-Ok-clause-some : goal.returns-in-Ok-clause-some
returns-in-Ok-clause-some c =
    let plain : padded (slice_index c.args.text.now 0) (length c.args.text.now) ≡ false = cc (c.is_padded.ensures, c.if-is_padded.false) in
    read_whole c.in-Ok.number _ _ plain c.parse.ensures.value.0 c.in-Ok.is

pub returns-in-Err-clause-none : goal.returns-in-Err-clause-none
returns-in-Err-clause-none c = λ n small e.
    let read = decimal_read n _ _ small e c.parse.ensures.value.0 in
    let other = c.in-Err.is in absurd (cc (read, other))
