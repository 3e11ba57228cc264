use Rattle.std.proofs.Common.{ap, ◌∙◌}
use Rattle.buffer_rules.specs.Nodes.{uncut}
use Rattle.editor_buffer.proofs.DraftLemmas.{drafted_put_so, put_told}
use Rattle.editor_buffer.proofs.draft.Draft.with_node.Goals as goal

pub returns-clause-drafted : goal.returns-clause-drafted
returns-clause-drafted c = λ tip all.
    let name = c.args.name.now in
    drafted_put_so tip c.args.self.opened c.in_ok-opened.opened c.args.self.nodes c.in_ok-opened.nodes name
    c.args.node c.in_ok-made.made c.requires (c.in_ok-made.ensures ∙ ap uncut c.sheet.ensures)
    (put_told c.with_named.result c.args.self.opened c.in_ok-opened.opened name c.args.node c.in_ok-opened.ensures.first c.with_named.ensures.map)
    (put_told c.with_named-2.result c.args.self.nodes c.in_ok-opened.nodes name c.in_ok-made.made c.in_ok-opened.ensures.second c.with_named-2.ensures.map)
    all
