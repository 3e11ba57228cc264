-- A number's digits can be an attribute's value.
use Rattle.std.proofs.Common.{ℕ, ◌+◌, ◌<◌, ◌^◌, ◌%◌, List, [], ◌∷◌, arith, decimal}
use Rattle.std.specs.List.{AllByRecursion}
use Rattle.std.proofs.ByRecursion.{All-append}
use Rattle.std.proofs.lemmas.Bool.{ne_eqb}
use Rattle.std.proofs.lemmas.Fmt.{decimal_by_steps}
use Rattle.pide_base.specs.declared.range.Range.{Range}
use Rattle.yxml.specs.declared.tree.Attribute.{Attribute}
use Rattle.yxml.specs.Normal.{IsPlain, IsAttribute}
use Rattle.report_markup.specs.Element.{with_offsets}
use Rattle.report_markup.proofs.Words.{offset_fits, end_offset_fits}

digit : (n : ℕ) → n < 10 → IsPlain ((48 + n) ∷ [])
digit n small =
    ((ne_eqb _ _ (λ e. absurd (omega (arith, e))), tt), (ne_eqb _ _ (λ e. absurd (omega (arith, e))), tt))

pub plain-decimal : (n : ℕ) → n < 2 ^ 64 → IsPlain (decimal n)
plain-decimal = decimal_by_steps (λ n ds. IsPlain ds) digit
    (λ n ds ten plain. let last = digit (n % 10) (omega arith) in
    (All-append _ ds _ plain.0 last.0, All-append _ ds _ plain.1 last.1))

pub offsets_fit : (range : Range) (others : List Attribute) → range.start < 2 ^ 64 → range.stop < 2 ^ 64
    → AllByRecursion IsAttribute others → AllByRecursion IsAttribute (with_offsets range others)
offsets_fit range others start stop fit = (
  (offset_fits.0, offset_fits.1, plain-decimal range.start start),
  ((end_offset_fits.0, end_offset_fits.1, plain-decimal range.stop stop), fit),
)
