use Rattle.std.proofs.Common.{Option, Some, None, Ok, Err, subst}
use Rattle.doc_nodes.specs.Needs.{AliasList}
use Rattle.editor_buffer.specs.declared.fault.PrepareError.{PrepareError}
use Rattle.editor_buffer.specs.Standing.{sheets_of}
use Rattle.editor_buffer.specs.Cutting.{GivesRemade, whole}
use Rattle.editor_buffer.specs.declared.cutting.Remade.{Remade}
use Rattle.editor_buffer.proofs.CutPlaces.{here, step_stay, step_put}
use Rattle.editor_buffer.proofs.CutHere.{refused_here, err_passed}
use Rattle.editor_buffer.proofs.cutting.Cutting.step.Goals as goal

pub returns-in_err-remade_at-clause-refused : goal.returns-in_err-remade_at-clause-refused
returns-in_err-remade_at-clause-refused c =
    let tip = c.args.tip.now in
    let sheets = sheets_of c.args.self.opened in
    let e : PrepareError = c.in_err-remade_at.field-0.0 in
    let at = here tip.nodes.now sheets tip.next c.args.place c.args.self c.requires.cut c.requires.within in
    let Gives : AliasList → Type 0 = λ a. GivesRemade tip.nodes.now at.opened.0 at.opened.1 at.node.1 a c.args.self.next (Err e) in
    err_passed c.from_residual.result e (whole tip.nodes.now sheets tip.next) c.from_residual.ensures.1
    (refused_here tip.nodes.now sheets tip.next c.args.place c.args.self c.requires.cut at e
    (subst Gives c.requires.aliases (c.in_err-remade_at.ensures at.opened at.node at.open_at at.node_at)))

pub returns-in_ok-stayed-in-None-clause-cut : goal.returns-in_ok-stayed-in-None-clause-cut
returns-in_ok-stayed-in-None-clause-cut c =
    let tip = c.args.tip.now in
    let sheets = sheets_of c.args.self.opened in
    let at = here tip.nodes.now sheets tip.next c.args.place c.args.self c.requires.cut c.requires.within in
    let Gives : AliasList → Option Remade → Type 0 = λ a m. GivesRemade tip.nodes.now at.opened.0 at.opened.1 at.node.1 a c.args.self.next (Ok m) in
    let so =
    subst (λ a. Gives a None) c.requires.aliases
    (subst (λ m. Gives c.args.aliases.now m) c.in-None.is (c.in_ok-remade_at.ensures at.opened at.node at.open_at at.node_at)) in
    let same = c.in_ok-stayed-in-None.ensures in
    step_stay tip.nodes.now sheets tip.next c.args.place c.args.self c.requires.cut at c.in_ok-stayed-in-None.field-0
    so.0 so.1 so.2 same.0 same.1 same.2 same.3

pub returns-in_ok-put-in-Some-clause-cut : goal.returns-in_ok-put-in-Some-clause-cut
returns-in_ok-put-in-Some-clause-cut c =
    let tip = c.args.tip.now in
    let sheets = sheets_of c.args.self.opened in
    let made : Remade = c.in-Some.made in
    let at = here tip.nodes.now sheets tip.next c.args.place c.args.self c.requires.cut c.requires.within in
    let Gives : AliasList → Option Remade → Type 0 = λ a m. GivesRemade tip.nodes.now at.opened.0 at.opened.1 at.node.1 a c.args.self.next (Ok m) in
    let so =
    subst (λ a. Gives a (Some made)) c.requires.aliases
    (subst (λ m. Gives c.args.aliases.now m) c.in-Some.is (c.in_ok-remade_at.ensures at.opened at.node at.open_at at.node_at)) in
    step_put tip.nodes.now sheets tip.next c.args.place c.args.self c.requires.cut at made c.in_ok-put-in-Some.field-0
    so.0 so.1 (c.in_ok-put-in-Some.ensures at.opened at.open_at)
