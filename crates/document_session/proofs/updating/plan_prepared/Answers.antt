use Rattle.std.proofs.Common.{List, Bool, sym, subst}
use Rattle.doc_nodes.specs.Imports.{NodeList}
use Rattle.editor_buffer.specs.NameSets.{NameSet}
use Rattle.exec_rules.specs.Kept.{BlobList}
use Rattle.exec_assign.specs.Untouched.{AreChanged}
use Rattle.update_plans.specs.Alive.{HaveCommands}
use Rattle.core_rules.specs.Doc.{doc}
use Rattle.prover_core.proofs.KnownPrepared.{fits}
use Rattle.document_session.proofs.updating.plan_prepared.Goals as goal

pub plan-requires-clause-fits : goal.plan-requires-clause-fits
plan-requires-clause-fits g c = fits (doc g.L.Language.lang c.args.core.now.past) c.args.version
    c.nodes.result.now c.args.made.now.after.nodes c.blobs.result.now c.args.made.now.after.document.blobs
    c.nodes.ensures c.blobs.ensures c.requires.fits

pub plan-requires-clause-changed : goal.plan-requires-clause-changed
plan-requires-clause-changed g c =
    let tip = (doc g.L.Language.lang c.args.core.now.past).tip in
    subst (λ (set : NameSet). AreChanged set tip.blobs c.blobs.result.now) (sym c.changed.ensures)
    (subst (λ (bs : BlobList). AreChanged c.args.made.now.changed tip.blobs bs) (sym c.blobs.ensures) c.requires.changed)

pub plan-requires-clause-commands : goal.plan-requires-clause-commands
plan-requires-clause-commands g c =
    let tip = (doc g.L.Language.lang c.args.core.now.past).tip in
    subst (λ (marks : List Bool). HaveCommands tip c.nodes.result.now marks) (sym c.untouched.ensures)
    (subst (λ (ns : NodeList). HaveCommands tip ns c.args.made.now.untouched) (sym c.nodes.ensures) c.requires.commands)
