-- No number has the decimal of another.
use Rattle.std.proofs.Common.{◌≡◌, sym, ap, ◌∙◌, decimal}
use Rattle.std.proofs.lemmas.Fmt.{decimal_injective}
use Rattle.std.proofs.Common.{eq-eqb, eqb-true}
use Rattle.xml_codec.proofs.variant.is_number.Goals as goal

pub returns-in-Some : goal.returns-in-Some
returns-in-Some c = (
  λ told. let same : c.in-Some.found ≡ c.args.number = eqb-true _ _ told in c.in-Some.ensures.some ∙ ap decimal same,
  λ e. let same : c.in-Some.found ≡ c.args.number = decimal_injective _ _ c.in-Some.ensures.small c.ranges.number.fits (sym c.in-Some.ensures.some ∙ e) in eq-eqb _ _ same,
)
