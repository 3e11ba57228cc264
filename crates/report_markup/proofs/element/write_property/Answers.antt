-- A key's word is fit to be a key, and the value is plain.
use Rattle.pide_base.proofs.KnownOutcomes.{on_ok_always}
use Rattle.report_markup.proofs.Words.{key_fits}
use Rattle.report_markup.proofs.element.write_property.Goals as goal

pub returns-clause-plain : goal.returns-clause-plain
returns-clause-plain c =
    let fit = key_fits c.args.property.now.key in
    on_ok_always c.push_str-4.result (fit.0, fit.1, c.as_str.ensures.plain)
