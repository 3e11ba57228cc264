use Rattle.std.proofs.Common.{◌≡◌, ◌-◌, ◌<◌, ℕ, List, Option, get_or, sym, ap, ◌∙◌, arith, ◌||◌}
use Rattle.doc_nodes.specs.Looks.{marked, aims_at}
use Rattle.doc_nodes.specs.Imports.{order, aims}
use Rattle.doc_nodes.specs.Wanted.{hands_on, is_aimed}
use Rattle.doc_nodes.proofs.WantedLemmas.{reached_yes, reached_no, here, later}
use Rattle.doc_nodes.proofs.wanted.mark_reached.Goals as goal

pub back-preserved-then-hands_on : goal.back-preserved-then-hands_on
back-preserved-then-hands_on c =
    let nodes = c.args.nodes.now in
    let some : 0 < c.back.at = c.back-test.true in
    let place : get_or c.order-order.result.now (c.back.at - 1) 0 ≡ here nodes (order nodes) c.back.at some c.back.invariant.within =
    ap (λ (places : List ℕ). get_or places (c.back.at - 1) 0) (c.order-order.ensures ∙ c.requires.graph.order_is) in
    let row : c.aims.result.now ≡ aims_at (aims nodes) (here nodes (order nodes) c.back.at some c.back.invariant.within) =
    c.aims.ensures ∙ ap (λ (rows : List (List (Option ℕ))). aims_at rows (get_or c.order-order.result.now (c.back.at - 1) 0)) c.requires.graph.aims_are ∙ ap (aims_at (aims nodes)) place in
    record {
      within = omega arith;
      marks = reached_yes nodes (order nodes) c.back.at some c.back.invariant.within c.back.marks c.mark_aims.new.marks c.back.invariant.marks
          (ap (hands_on nodes (later nodes (order nodes) c.back.at some c.back.invariant.within)) (sym place) ∙ sym (c.hands_on.ensures _ c.back.invariant.marks) ∙ c.if-hands_on.true)
          (omega arith)
          (λ q lt. c.mark_aims.ensures q lt ∙ ap (λ (xs : List (Option ℕ)). is_aimed xs q || marked c.back.marks q) row);
    }

pub back-preserved : goal.back-preserved
back-preserved c =
    let nodes = c.args.nodes.now in
    let some : 0 < c.back.at = c.back-test.true in
    let place : get_or c.order-order.result.now (c.back.at - 1) 0 ≡ here nodes (order nodes) c.back.at some c.back.invariant.within =
    ap (λ (places : List ℕ). get_or places (c.back.at - 1) 0) (c.order-order.ensures ∙ c.requires.graph.order_is) in
    record {
      within = omega arith;
      marks = reached_no nodes (order nodes) c.back.at some c.back.invariant.within c.back.marks c.back.invariant.marks
          (ap (hands_on nodes (later nodes (order nodes) c.back.at some c.back.invariant.within)) (sym place) ∙ sym (c.hands_on.ensures _ c.back.invariant.marks) ∙ c.if-hands_on.false);
    }
