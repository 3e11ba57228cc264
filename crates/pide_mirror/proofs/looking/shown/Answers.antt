use Rattle.pide_mirror.proofs.Viewing.{snapshot_shown}
use Rattle.pide_mirror.proofs.looking.shown.Goals as goal

pub returns : goal.returns
returns c = snapshot_shown c.args.parts.now c.args.edits.now c.snapshot.result c.requires c.snapshot.ensures.reports c.snapshot.ensures.pending c.snapshot.ensures.outdated
