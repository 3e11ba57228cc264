-- A piece that is no property.
use Rattle.std.proofs.Common.{subst}
use Rattle.reply_messages.specs.Fits.{FitsProperty}
use Rattle.reply_messages.specs.Found.{Finds}
use Rattle.reply_messages.specs.Tags.{property_bytes}
use Rattle.reply_messages.proofs.TagSteps.{no_property}
use Rattle.reply_messages.proofs.tag.properties_at.Goals as goal

pub returns-in_default-2 : goal.returns-in_default-2
returns-in_default-2 c = λ ps fits e.
    let none = subst (λ found. Finds property_bytes FitsProperty c.cut.result.0.now found) c.in_default-2.is c.in_ok-property.ensures in
    no_property c.properties.found ps c.args.text.now c.properties.rest.now c.in-Some.behind.now c.cut.result.0.now c.cut.result.1.now
    c.properties.invariant.fits c.properties.invariant.told c.properties.invariant.begins c.in-Some.ensures c.cut.ensures.whole c.cut.ensures.before c.cut.ensures.behind none fits e
