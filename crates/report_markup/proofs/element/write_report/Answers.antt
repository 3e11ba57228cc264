-- What is written is the element's YXML piece by piece, and the element is a normal body.
use Rattle.std.proofs.Common.{◌≡◌, ◌++◌, ◌∷◌, [], List, map, string_bytes, subst, arith}
use Rattle.std.specs.List.{AllByRecursion}
use Rattle.pide_base.proofs.KnownOutcomes.{on_ok_always}
use Rattle.yxml.specs.Normal.{IsAttribute}
use Rattle.yxml.specs.Spelling.{yxml}
use Rattle.report_markup.specs.declared.property.Property.{Property}
use Rattle.report_markup.specs.declared.report.Report.{Report}
use Rattle.report_markup.specs.Element.{element, property_attribute}
use Rattle.report_markup.proofs.KnownNumbers.{offsets_fit}
use Rattle.report_markup.proofs.Written.{pieces, normal}
use Rattle.report_markup.proofs.element.write_report.Goals as goal
use Rattle.report_markup.proofs.KnownPieces.{last_piece}

pub returns-clause-bytes : goal.returns-clause-bytes
returns-clause-bytes c =
    let report : Report = record c.args.report.now { range = c.args.range } in
    let all = pieces report (string_bytes c.args.out.now) in
    let whole : string_bytes c.push_str-4.new.self ++ 5 ∷ 6 ∷ 5 ∷ [] ≡ string_bytes c.args.out.now ++ yxml (element report ∷ []) =
    rw (
      c.in_ok-push_str-4.ensures.bytes,
      c.as_str.ensures.text,
      c.in_ok-push_str-3.ensures.bytes,
      c.in_ok-write_properties.ensures.bytes,
      c.as_slice.ensures,
      c.in_ok-write_number-2.ensures,
      c.in_ok-write_number.ensures,
      c.in_ok-push_str-2.ensures.bytes,
      c.word.ensures,
      c.in_ok-push_str.ensures.bytes,
    ) all in
    last_piece c.push_str-5.result _ (string_bytes c.push_str-4.new.self) (5 ∷ 6 ∷ 5 ∷ []) _ c.push_str-5.ensures.bytes whole

pub returns-clause-normal : goal.returns-clause-normal
returns-clause-normal c =
    let report : Report = record c.args.report.now { range = c.args.range } in
    let P : List Property → Type 0 = λ ps. AllByRecursion IsAttribute (map property_attribute ps) in
    on_ok_always c.push_str-5.result (normal report c.as_str.ensures.plain
    (offsets_fit c.args.range _ (omega arith) (omega arith) (subst P c.as_slice.ensures c.in_ok-write_properties.ensures.plain)))
