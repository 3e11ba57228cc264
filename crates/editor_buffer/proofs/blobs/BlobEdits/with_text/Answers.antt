use Rattle.editor_buffer.proofs.NameSets.{names_marked, changed_marked}
use Rattle.editor_buffer.proofs.blobs.BlobEdits.with_text.Goals as goal

pub returns-clause-came : goal.returns-clause-came
returns-clause-came c = λ names are.
    names_marked c.args.self.came c.in_ok-blobs.came c.marked.result names c.args.change.now.name are c.in_ok-blobs.ensures.second c.marked.ensures

pub returns-clause-changed : goal.returns-clause-changed
returns-clause-changed c = λ are.
    changed_marked c.args.self.changed c.in_ok-blobs.changed c.marked-2.result c.args.before.now c.args.self.blobs c.in_ok-blobs.blobs c.once.result
    c.args.change.now.name c.args.change.now.text c.differs-is_other.result are
    c.in_ok-blobs.ensures.first c.once.ensures.found c.in_ok-blobs.ensures.third c.marked-2.ensures c.differs-is_other.ensures
