-- A minus stands first in the decimals of negative numbers alone.
use Rattle.std.proofs.Common.{◌≡◌, ◌<◌, ◌≢◌, ◌∷◌, ℕ, ℤ, Option, IfNone, Some, None, sym, ap, ◌∙◌, subst, arith, w64, decimal}
use Rattle.std.specs.Prelude.{pos}
use Rattle.std.specs.Fmt.{signed_decimal}
use Rattle.std.proofs.lemmas.Int.{ints}
use mir.Val.{of_z}
use Rattle.xml_codec.specs.Data.{IsShort, int_end}
use Rattle.xml_codec.proofs.Numbers.{behind_minus, no_negative_zero, without_minus}
use Rattle.xml_codec.proofs.number.int_of.Goals as goal

pub returns-in_default-clause-none : goal.returns-in_default-clause-none
returns-in_default-clause-none c = λ n short e.
    let told = c.in-Some-unsigned_of.ensures.some in
    let at : of_z w64 (pos told.0) ≡ 0 = subst (λ z. of_z w64 z ≡ 0) told.1 c.if-number-ne0.false in
    let zero : told.0 ≡ 0 = omega (arith, ints, told.2, at) in
    no_negative_zero n short (sym e ∙ c.in-Some.ensures ∙ ap (λ ds. 45 ∷ ds) (told.3 ∙ ap decimal zero))

pub returns-in_default-2-clause-none : goal.returns-in_default-2-clause-none
returns-in_default-2-clause-none c = λ n short e.
    let told = behind_minus n c.in-Some.digits.now short (sym e ∙ c.in-Some.ensures) in
    c.in_default.ensures.none told.0 told.1 told.2

pub returns-in-None-clause-none : goal.returns-in-None-clause-none
returns-in-None-clause-none c = go c.unsigned_of-in-None.result c.unsigned_of-in-None.ensures.none where
  go : (r : Option ℤ) → IfNone r ((m : ℕ) → m < int_end → c.args.text.now ≢ decimal m) → IfNone r ((n : ℤ) → IsShort n → c.args.text.now ≢ signed_decimal n)
  go (Some n) h = h
  go None h = λ n short e. let told = without_minus n c.args.text.now short e c.in-None.ensures in h told.0 told.1 told.2
