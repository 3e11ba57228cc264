use Rattle.std.proofs.Common.{◌≡◌, ◌<◌, ℕ, List, length, get_or, Some, sym, ap, subst, ◌∙◌}
use Rattle.std.specs.Prelude.{slice_get}
use Rattle.std.specs.Option.{option_map}
use Rattle.doc_nodes.specs.Imports.{placed_node, order}
use Rattle.doc_nodes.proofs.Lists.{filter_map_some, filter_map_none}
use Rattle.doc_nodes.proofs.placed.import_order.Goals as goal
use Rattle.doc_nodes.proofs.placed.import_order.Goals.{in-Some+in_ok-placed_node+in_ok-push, in_default}

pub places-preserved : goal.places-preserved
places-preserved c =
    let nodes = c.args.nodes.now in
    let same : c.order-place-items.result.now ≡ order nodes = c.order-place-items.ensures ∙ c.requires.order_is in
    let lt : c.places.place-index < length (order nodes) = subst (λ (places : List ℕ). c.places.place-index < length places) same c.places-test.true in
    let here = λ (places : List ℕ). option_map (placed_node nodes)
    (slice_get nodes (get_or places c.places.place-index 0)) in
    elim c.match-at.branch [
      | in-Some+in_ok-placed_node+in_ok-push w ↦
          filter_map_some (λ p. option_map (placed_node nodes) (slice_get nodes p)) (order nodes) c.places.place-index 0 _ c.places.all.items _ lt
          (ap here (sym same) ∙ ap (option_map (placed_node nodes)) (sym w.in-Some.ensures) ∙ ap (λ one. Some one) (sym w.in_ok-placed_node.ensures))
          c.places.invariant
          (ap (λ v. v.items) w.all-is ∙ w.in_ok-push.ensures.items)
      | in_default w ↦
          ap (λ v. v.items) w.all-is
          ∙ filter_map_none (λ p. option_map (placed_node nodes) (slice_get nodes p)) (order nodes) c.places.place-index 0 c.places.all.items lt
          (ap here (sym same) ∙ ap (option_map (placed_node nodes)) (sym w.in_default.ensures))
          c.places.invariant
    ]
