use Rattle.std.proofs.Common.{sym, ◌∙◌}
use Rattle.doc_nodes.proofs.WantedLemmas.{hands_on_marked}
use Rattle.doc_nodes.proofs.wanted.hands_on.Goals as goal

pub returns-else-wants : goal.returns-else-wants
returns-else-wants c = λ reached are.
    c.is_marked.ensures
    ∙ hands_on_marked c.args.nodes.now c.args.marks.now reached c.args.place are
    (sym (c.requires.marks_are c.args.place) ∙ sym c.if-is_ordered.ensures)
    (sym c.if-wants.ensures)
