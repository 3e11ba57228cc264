-- One item more.
use Rattle.std.proofs.Common.{◌≡◌, ◌++◌, ◌∷◌, [], ◌+◌, rules}
use Rattle.message_values.specs.Bodies.{item_body}
use Rattle.made_document.specs.Messages.{first_item}
use Rattle.made_document.proofs.Items.{first_more}
use Rattle.made_document.proofs.bodies.first_items.Goals as goal

pub nodes-preserved : goal.nodes-preserved
nodes-preserved c =
    let grown : c.push.new.self ≡ c.nodes.items ++ item_body (first_item (c.nodes.before + 1)) ∷ [] = search rules in
    first_more c.nodes.items c.push.new.self c.nodes.before c.nodes.invariant grown
