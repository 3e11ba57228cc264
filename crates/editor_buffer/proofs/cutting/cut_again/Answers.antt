use Rattle.std.proofs.Common.{Some, Ok, ap, subst, ◌∙◌}
use Rattle.doc_nodes.specs.Needs.{AliasList}
use Rattle.buffer_rules.specs.declared.sheet.Sheet.{Sheet}
use Rattle.buffer_rules.specs.Nodes.{sources, before_in}
use Rattle.editor_buffer.specs.Commands.{commands_in}
use Rattle.editor_buffer.specs.OpenSheet.{OpenSheet}
use Rattle.editor_buffer.specs.CutNodes.{GivesCut}
use Rattle.editor_buffer.proofs.CutParts.{stay_so, made_so}
use Rattle.editor_buffer.proofs.cutting.cut_again.Goals as goal

pub returns-then-stays : goal.returns-then-stays
returns-then-stays c =
    stay_so c.args.tip.now.nodes.now c.args.name.now c.args.opened.now c.args.node.now c.args.aliases.now c.args.next
    (c.if-stays.ensures ∙ ap (λ (a : AliasList). Some a) c.get.ensures) c.requires.drafted c.requires.last

pub returns : goal.returns
returns c =
    let tip = c.args.tip.now.nodes.now in
    let name = c.args.name.now in
    let opened : OpenSheet = c.args.opened.now in
    let aliases : AliasList = c.args.aliases.now in
    let made = c.in_ok-made.made in
    let before = commands_in c.commands-old.result.text.now c.commands-old.result.entries.now in
    let Gives : Sheet → AliasList → Type 0 = λ s a. GivesCut s a before c.args.next (Ok made) in
    let so : GivesCut opened.sheet aliases before c.args.next (Ok made) =
    subst (λ s. Gives s aliases) c.sheet.ensures (subst (λ a. Gives c.sheet.result.now a) c.get-5.ensures c.in_ok-made.ensures) in (
      made_so tip name opened c.args.node.now aliases c.args.next before made so c.commands-old.ensures.commands
          (c.ids_law.ensures (before_in tip name) (sources opened.sheet aliases) c.args.next).counted,
      c.in_ok-opened.ensures,
    )
