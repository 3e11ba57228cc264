use Rattle.std.proofs.Common.{not, ap, ◌∙◌}
use Rattle.doc_nodes.specs.Looks.{marked}
use Rattle.doc_nodes.proofs.Lists.{filter_kept, filter_left}
use Rattle.doc_nodes.proofs.graph.add_others.Goals as goal
use Rattle.doc_nodes.proofs.graph.add_others.Goals.{then-not-marks-place+in_ok-push, else-not-marks-place}

pub places-preserved : goal.places-preserved
places-preserved c = elim c.if-not-marks-place.branch [
  | then-not-marks-place+in_ok-push w ↦
      filter_kept (λ p. not (marked c.args.marks.now p)) c.places.place c.args.order.now.items c.places.order.items _ (ap not w.if-not-marks-place.true) c.places.invariant
      (ap (λ v. v.items) w.order-is ∙ w.in_ok-push.ensures.items)
  | else-not-marks-place w ↦
      ap (λ v. v.items) w.order-is
      ∙ filter_left (λ p. not (marked c.args.marks.now p)) c.places.place c.args.order.now.items c.places.order.items (ap not w.if-not-marks-place.false) c.places.invariant
]
