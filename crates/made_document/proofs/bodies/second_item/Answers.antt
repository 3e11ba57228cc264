-- Its parts are the item's.
use Rattle.std.proofs.Common.{◌≡◌, subst, rules}
use Rattle.std.specs.Prelude.{IfOk}
use Rattle.made_document.proofs.Items.{second_body}
use Rattle.made_document.proofs.bodies.second_item.Goals as goal

pub returns : goal.returns
returns c =
    subst (λ x. IfOk c.edited.result (λ body. body ≡ x))
    (second_body c.args.number c.in_ok-edit.edit (search rules)) c.edited.ensures
