use Rattle.std.proofs.Common.{◌≡◌, ℕ, List, Some, sym, ap, subst, ◌∙◌}
use Rattle.std.specs.Option.{option_and_then}
use Rattle.std.proofs.lemmas.Bool.{OnTrue_at}
use Rattle.doc_nodes.specs.declared.node.Entry.{Entry}
use Rattle.shared_map.specs.Pairs.{found}
use Rattle.doc_nodes.specs.Names.{in_order}
use Rattle.editor_buffer.specs.Commands.{AskUnder}
use Rattle.editor_buffer.specs.OpenSheet.{OpenSheet}
use Rattle.editor_buffer.proofs.StandingNodes.{asked_so}
use Rattle.editor_buffer.proofs.cutting.Tip.commands.Goals as goal

pub returns-in-Some-clause-asked : goal.returns-in-Some-clause-asked
returns-in-Some-clause-asked c = λ same.
    let aliases = c.args.aliases.now in
    let node = c.in-Some.node.now in
    let under : option_and_then (λ (o : OpenSheet). o.cut_under) (found in_order c.args.name.now c.args.self.now.opened.now) ≡ Some aliases =
    ap (λ f. option_and_then (λ (o : OpenSheet). o.cut_under) f) (sym c.get-in-Some-3.ensures) ∙ OnTrue_at same c.is_cut_under.ensures in
    let text : c.as_slice.result.now ≡ node.text = c.as_slice.ensures ∙ c.get-in-Some.ensures in
    let entries : c.as_slice-in-Some.result.now ≡ node.entries = c.as_slice-in-Some.ensures ∙ c.get-in-Some-2.ensures in
    let asked : AskUnder aliases node.text node.entries =
    asked_so c.args.self.now.opened.now c.args.self.now.nodes.now c.args.name.now aliases node c.requires under (sym c.in-Some.ensures) in
    subst (λ (t : List ℕ). AskUnder aliases t c.as_slice-in-Some.result.now) (sym text)
    (subst (λ (es : List Entry). AskUnder aliases node.text es) (sym entries) asked)
