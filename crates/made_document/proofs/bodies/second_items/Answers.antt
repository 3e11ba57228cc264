-- One item more, or none.
use Rattle.std.proofs.Common.{◌≡◌, ◌++◌, ◌∷◌, [], ◌+◌, rules, true, false, ◌∙◌}
use Rattle.message_values.specs.Bodies.{item_body}
use Rattle.made_document.specs.Messages.{is_third, second_item}
use Rattle.made_document.proofs.Items.{second_more, second_same}
use Rattle.made_document.proofs.bodies.second_items.Goals.{then-number-eq0+in_ok-second_item+in_ok-push, else-number-eq0}
use Rattle.made_document.proofs.bodies.second_items.Goals as goal

pub nodes-preserved : goal.nodes-preserved
nodes-preserved c = elim c.if-number-eq0.branch [
  | then-number-eq0+in_ok-second_item+in_ok-push w ↦
      (let third : is_third (c.nodes.before + 1) ≡ true = search rules in
      let grown : c.if-number-eq0.items ≡ c.nodes.items ++ item_body (second_item (c.nodes.before + 1)) ∷ [] = search rules in
      second_more c.nodes.items c.if-number-eq0.items c.nodes.before third c.nodes.invariant grown)
  | else-number-eq0 w ↦
      (let not_third : is_third (c.nodes.before + 1) ≡ false = search rules in
      w.items-is ∙ second_same c.nodes.items c.nodes.before not_third c.nodes.invariant)
]
