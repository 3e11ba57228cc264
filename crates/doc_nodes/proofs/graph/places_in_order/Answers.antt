use Rattle.std.proofs.Common.{◌≡◌, true, subst, ◌∙◌, arith}
use Rattle.text_words.specs.Members.{has}
use Rattle.doc_nodes.proofs.KnownRounds.{is_order}
use Rattle.doc_nodes.proofs.graph.places_in_order.Goals as goal

pub marks_of-requires : goal.marks_of-requires
marks_of-requires c = λ p h.
    let placed = (is_order c.args.aims.now).within p (subst (λ places. has places p ≡ true) (c.deref.ensures.value ∙ c.in_ok-order.ensures) h) in
    omega (arith, placed)
