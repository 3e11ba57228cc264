use Rattle.std.proofs.Common.{◌≡◌, ℕ, List, Option, Some, sym, ap, subst, ◌∙◌}
use Rattle.doc_nodes.specs.declared.node.Node.{Node}
use Rattle.doc_nodes.specs.Imports.{NodeList}
use Rattle.doc_nodes.specs.Needs.{AliasList}
use Rattle.buffer_rules.specs.declared.sheet.Sheet.{Sheet}
use Rattle.buffer_rules.specs.Nodes.{uncut_all}
use Rattle.editor_buffer.specs.OpenSheet.{OpenSheet}
use Rattle.editor_buffer.specs.Standing.{sheets_of, DraftedUnder, aliases_named}
use Rattle.editor_buffer.proofs.KnownTold.{along}
use Rattle.editor_buffer.proofs.BareNodes.{same_named}
use Rattle.editor_buffer.proofs.CutPlaces.{here}
use Rattle.editor_buffer.proofs.CutHere.{drafted_here, named_at}
use Rattle.editor_buffer.proofs.cutting.Cutting.remade_at.Goals as goal

pub unreachable-requires-in_default-at : goal.unreachable-requires-in_default-at
unreachable-requires-in_default-at c =
    let tip = c.args.tip.now in
    let at = here tip.nodes.now (sheets_of c.args.self.now.opened) tip.next c.args.place c.args.self.now c.requires.cut c.requires.within in
    let none = c.in_default-at.ensures ∙ at.node_at in
    cc (none)

pub cut_again-requires-clause-drafted : goal.cut_again-requires-clause-drafted
cut_again-requires-clause-drafted c =
    let tip = c.args.tip.now in
    let at = here tip.nodes.now (sheets_of c.args.self.now.opened) tip.next c.args.place c.args.self.now c.requires.cut c.requires.within in
    (drafted_here tip.nodes.now (sheets_of c.args.self.now.opened) tip.next c.args.place c.args.self.now c.requires.cut at
    (c.in-Some.name.now, c.in-Some.opened.now) (c.in-Some-at.field-0-0.now, c.in-Some-at.node.now) c.in-Some.ensures c.in-Some-at.ensures).1

named_here : (aliases : AliasList) (u : Option AliasList) (tip : NodeList) (name : List ℕ) (sheet : Sheet) (node : Node) → u ≡ Some aliases → DraftedUnder tip u name sheet node → aliases_named tip name ≡ Some aliases
named_here aliases u tip name sheet node e drafted = (subst (λ v. DraftedUnder tip v name sheet node) e drafted).2

pub cut_again-requires-clause-under : goal.cut_again-requires-clause-under
cut_again-requires-clause-under c =
    let tip = c.args.tip.now in
    let self = c.args.self.now in
    let sheets = sheets_of self.opened in
    let at = here tip.nodes.now sheets tip.next c.args.place self c.requires.cut c.requires.within in
    let name : List ℕ = c.in-Some.name.now in
    let opened : OpenSheet = c.in-Some.opened.now in
    let drafted = drafted_here tip.nodes.now sheets tip.next c.args.place self c.requires.cut at
    (name, opened) (c.in-Some-at.field-0-0.now, c.in-Some-at.node.now) c.in-Some.ensures c.in-Some-at.ensures in
    let place : aliases_named (uncut_all sheets) name ≡ Some c.args.aliases.now =
    named_at tip.nodes.now sheets tip.next c.args.place self c.requires.cut at (name, opened) c.in-Some.ensures ∙ ap (λ (a : AliasList). Some a) (sym c.requires.aliases) in
    along c.args.headers_stand (λ same under e.
    let told : Some under ≡ Some c.args.aliases.now = sym (named_here under opened.cut_under tip.nodes.now name opened.sheet c.in-Some-at.node.now e drafted.1) ∙ same_named tip.nodes.now (uncut_all sheets) same name ∙ place in cc (told))
    c.requires.headers
