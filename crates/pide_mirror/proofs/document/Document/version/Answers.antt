-- It is made of the tip.
use Rattle.std.proofs.Common.{sym, subst}
use Rattle.pide_mirror.specs.Kept.{IsKept}
use Rattle.pide_mirror.specs.declared.known.Known.{Known}
use Rattle.mirror_rules.specs.Updates.{image_after}
use Rattle.pide_mirror.proofs.Versioning.{some_version, no_version}
use Rattle.pide_mirror.proofs.document.Document.version.Goals as goal

pub returns-in_ok-twice-in-Some : goal.returns-in_ok-twice-in-Some
returns-in_ok-twice-in-Some c = λ m id asked is fits.
    let made = c.args.prepared.now in
    let listed = c.args.listed.now in
    let k = some_version c.in_ok-known.field-0 c.args.self.now.tip m.tip listed made.after made.untouched c.untouched.result.now c.nodes-nodes.result.now
    c.nodes-nodes.ensures c.untouched.ensures fits.fits is.tip c.in_ok-known.ensures c.in-Some.known c.in-Some.is in
    let twice = c.in_ok-twice-in-Some.ensures in (
      k.0,
      subst (λ (known : Known). IsKept known (image_after m.tip listed made.after)) (sym twice.0) k.1,
      subst (λ (known : Known). IsKept known (image_after m.tip listed made.after)) (sym twice.1) k.1,
    )

pub returns-in-None : goal.returns-in-None
returns-in-None c = λ m id asked is fits.
    let made = c.args.prepared.now in
    no_version c.in_ok-known.field-0 c.args.self.now.tip m.tip c.args.listed.now made.after made.untouched c.untouched.result.now c.nodes-nodes.result.now
    c.nodes-nodes.ensures c.untouched.ensures fits.fits is.tip c.in_ok-known.ensures c.in-None.is
