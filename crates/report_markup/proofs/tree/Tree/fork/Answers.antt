use Rattle.std.proofs.Common.{ap, ◌∙◌}
use Rattle.std.specs.Arc.{arc_value}
use Rattle.report_markup.specs.declared.tree.Fork.{Fork}
use Rattle.report_markup.proofs.BoundLemmas.{fork_bounded}
use Rattle.report_markup.proofs.tree.Tree.fork.Goals as goal

pub invariant_of-result : goal.invariant_of-result
invariant_of-result c =
    let made = c.in_ok-new.ensures.ok in
    fork_bounded (arc_value c.in_ok-new.field-0) c.bounds.result c.bounds-2.result c.around-bounds.result c.args.left.now c.args.right.now
    (arc_value c.args.report.now) c.deref-held.result.now (ap (λ (f : Fork). f.bounds) made) c.around-bounds.ensures
    (ap (λ (f : Fork). f.left) made ∙ c.in_ok-copy.ensures) (ap (λ (f : Fork). f.right) made ∙ c.in_ok-copy-2.ensures)
    (ap (λ (f : Fork). arc_value f.report) made ∙ c.in_ok-try_clone.ensures) c.deref-held.ensures c.bounds.ensures c.bounds-2.ensures
