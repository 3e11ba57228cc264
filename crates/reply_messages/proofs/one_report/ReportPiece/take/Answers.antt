-- A report is an element, told by its tag and its text.
use Rattle.std.proofs.Common.{◌<◌, ◌++◌, length, sym, ap, subst, ◌∙◌, arith}
use Rattle.report_markup.specs.declared.report.Report.{Report}
use Rattle.reply_messages.specs.Fits.{FitsReport, IsPlainText}
use Rattle.reply_messages.specs.Found.{Finds}
use Rattle.reply_messages.specs.Marks.{element_bytes}
use Rattle.reply_messages.specs.Tags.{tag_bytes, FitsTag}
use Rattle.reply_messages.proofs.Cuts.{one_element}
use Rattle.reply_messages.proofs.ReadReports.{tag_of, report_bytes, report_is}
use Rattle.reply_messages.proofs.Tags.{tag_lacks}
use Rattle.reply_messages.proofs.Taking.{fronts}
use Rattle.reply_messages.proofs.one_report.ReportPiece.take.Goals as goal

pub returns-in_default : goal.returns-in_default
returns-in_default c = λ r rest fits e. c.in_default.ensures (tag_bytes (tag_of r)) r.text rest (tag_lacks (tag_of r) (fits.range, fits.properties)) fits.text.plain.0
    (e ∙ ap (λ s. s ++ rest) (report_is r))

pub returns-in_default-2 : goal.returns-in_default-2
returns-in_default-2 c = λ r rest fits e.
    let here = c.in-Some.ensures in
    let same = one_element c.in-Some.element.tag.now c.in-Some.element.text.now c.in-Some.element.rest.now (tag_bytes (tag_of r)) r.text rest
    here.0 here.1 (tag_lacks (tag_of r) (fits.range, fits.properties)) fits.text.plain.0 (sym here.2 ∙ e ∙ ap (λ s. s ++ rest) (report_is r)) in
    subst (λ found. Finds tag_bytes FitsTag c.in-Some.element.tag.now found) c.in_default-2.is c.in_ok-tag.ensures (tag_of r) (fits.range, fits.properties) (sym same.0)

pub returns-in_default-3 : goal.returns-in_default-3
returns-in_default-3 c = λ r rest fits e.
    let here = c.in-Some.ensures in
    let same = one_element c.in-Some.element.tag.now c.in-Some.element.text.now c.in-Some.element.rest.now (tag_bytes (tag_of r)) r.text rest
    here.0 here.1 (tag_lacks (tag_of r) (fits.range, fits.properties)) fits.text.plain.0 (sym here.2 ∙ e ∙ ap (λ s. s ++ rest) (report_is r)) in
    subst (λ found. Finds (λ text. text) IsPlainText c.in-Some.element.text.now found) c.in_default-3.is c.in_ok-text.ensures r.text fits.text (sym same.1)

pub returns : goal.returns
returns c =
    let here = c.in-Some.ensures in
    let tag = subst (λ found. Finds tag_bytes FitsTag c.in-Some.element.tag.now found) c.in-Some-2.is c.in_ok-tag.ensures in
    let text = subst (λ found. Finds (λ text. text) IsPlainText c.in-Some.element.text.now found) c.in-Some-3.is c.in_ok-text.ensures in
    let r : Report = record { range = c.in-Some-2.tag.range; kind = c.in-Some-2.tag.kind; properties = c.in-Some-2.tag.properties; text = c.in-Some-3.text } in
    fronts report_bytes FitsReport c.args.text.now c.in-Some.element.rest.now r (record { range = tag.0.0; properties = tag.0.1; text = text.0 })
    (subst (λ s. 0 < length s) (sym (report_is r)) (omega arith))
    (here.2 ∙ ap (λ t. element_bytes t c.in-Some.element.text.now ++ c.in-Some.element.rest.now) (sym tag.1)
    ∙ ap (λ t. element_bytes (tag_bytes c.in-Some-2.tag) t ++ c.in-Some.element.rest.now) (sym text.1)
    ∙ ap (λ s. s ++ c.in-Some.element.rest.now) (sym (report_is r)))
