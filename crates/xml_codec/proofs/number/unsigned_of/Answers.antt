-- No number has the decimal of another.
use Rattle.std.proofs.Common.{◌≡◌, sym, ◌∙◌, arith}
use Rattle.std.proofs.lemmas.Fmt.{decimal_injective}
use Rattle.xml_codec.proofs.number.unsigned_of.Goals as goal

pub returns-in_default-clause-none : goal.returns-in_default-clause-none
returns-in_default-clause-none c = λ m small e.
    let same : m ≡ c.in-Some.number = decimal_injective m c.in-Some.number (omega (arith, small)) c.in-Some.ensures.small (sym e ∙ c.in-Some.ensures.some) in
    omega (arith, small, same, c.if-number.false)
