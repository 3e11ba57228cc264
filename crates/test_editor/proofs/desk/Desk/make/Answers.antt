use Rattle.std.proofs.Common.{◌≡◌, ◌<◌, false, sym, subst, ◌∙◌}
use Rattle.core_rules.specs.Standing.{has_ended, is_open}
use Rattle.core_rules.specs.Doc.{doc}
use Rattle.exec_rules.specs.Kept.{BlobList}
use Rattle.doc_nodes.specs.Imports.{NodeList}
use Rattle.exec_assign.specs.Untouched.{AreChanged}
use Rattle.update_plans.specs.Alive.{HaveCommands}
use Rattle.editor_buffer.specs.NameSets.{NameSet}
use Rattle.test_editor.specs.Tally.{counting}
use Rattle.test_editor.specs.Desk.{DeskState, IsPreparedBy}
use Rattle.test_editor.proofs.Moved.{told_as, later, updated}
use Rattle.prover_core.proofs.KnownPrepared.{changed, commands, fits, same_update}
use Rattle.test_editor.proofs.desk.Desk.make.Goals as goal

pub plan-requires-clause-going : goal.plan-requires-clause-going
plan-requires-clause-going c = subst (λ (s : DeskState). has_ended s.past ≡ false) (sym c.self.view_is) c.requires.going

pub plan-requires-clause-fits : goal.plan-requires-clause-fits
plan-requires-clause-fits c =
    let p = subst (λ (s : DeskState). IsPreparedBy s.buffer c.args.made) (sym c.self.view_is) c.requires.prepared in
    let newer = subst (λ (s : DeskState). (doc counting s.past).last < c.args.id) (sym c.self.view_is) c.requires.newer in
    fits _ c.args.id _ c.args.made.after.nodes _ c.args.made.after.document.blobs c.nodes.ensures c.blobs.ensures
    (c.fits_law.ensures.fits c.self.inside.buffer c.args.made.after (doc counting c.self.inside.core.past) p.live c.args.id p.asked
    c.self.invariant.agrees p.after newer)

pub plan-requires-clause-changed : goal.plan-requires-clause-changed
plan-requires-clause-changed c =
    let p = subst (λ (s : DeskState). IsPreparedBy s.buffer c.args.made) (sym c.self.view_is) c.requires.prepared in
    let d = doc counting c.self.inside.core.past in
    let base = changed c.args.made.changed c.self.inside.buffer.document.blobs d.tip.blobs c.args.made.after.document.blobs
    c.self.invariant.blobs p.changed in
    subst (λ (x : NameSet). AreChanged x d.tip.blobs c.blobs.result.now) (sym c.changed.ensures)
    (subst (λ (y : BlobList). AreChanged c.args.made.changed d.tip.blobs y) (sym c.blobs.ensures) base)

pub plan-requires-clause-commands : goal.plan-requires-clause-commands
plan-requires-clause-commands c =
    let p = subst (λ (s : DeskState). IsPreparedBy s.buffer c.args.made) (sym c.self.view_is) c.requires.prepared in
    let d = doc counting c.self.inside.core.past in
    let base = commands d.tip c.self.inside.buffer.nodes c.args.made.after.nodes c.args.made.untouched c.self.invariant.agrees.nodes p.kept in
    subst (λ (ns : NodeList). HaveCommands d.tip ns c.untouched.result.now) (sym c.nodes.ensures)
    (subst (λ ms. HaveCommands d.tip c.args.made.after.nodes ms) (sym c.untouched.ensures) base)

pub invariant_of-self : goal.invariant_of-self
invariant_of-self c = later counting _ _ _ _ _ c.plan.ensures.past c.self.invariant

pub invariant_of-self-in-Err-Limit : goal.invariant_of-self-in-Err-Limit
invariant_of-self-in-Err-Limit c = later counting _ _ _ _ _ c.plan.ensures.past c.self.invariant

pub update-told-requires-clause-going : goal.update-told-requires-clause-going
update-told-requires-clause-going c =
    subst (λ h. has_ended h ≡ false) (sym c.plan.ensures.past)
    (subst (λ (s : DeskState). has_ended s.past ≡ false) (sym c.self.view_is) c.requires.going)

pub invariant_of-self-2 : goal.invariant_of-self-2
invariant_of-self-2 c =
    let p = subst (λ (s : DeskState). IsPreparedBy s.buffer c.args.made) (sym c.self.view_is) c.requires.prepared in
    let past = c.self.inside.core.past in
    told_as counting _ _ _ _ _ _ _ c.commit.ensures
    (c.update-told.ensures.past ∙ same_update _ _ _ _ _ _ _ _ c.in-Ok.ensures.version
    (c.in-Ok.ensures.nodes ∙ c.nodes.ensures) (c.in-Ok.ensures.blobs ∙ c.blobs.ensures) c.plan.ensures.past)
    c.number-self-inside.ensures.value
    (updated counting c.self.inside.buffer c.args.made.after past c.self.inside.last c.args.id _ c.self.invariant
    (c.fits_law.ensures.kept c.self.inside.buffer c.args.made.after (doc counting past) p.live c.args.id p.asked
    (λ e. is_open counting past (doc counting past).homes e) c.self.invariant.agrees p.after))
