-- None is left just where no pieces are.
use Rattle.std.proofs.Common.{◌≡◌, ◌↔◌, [], IsTrue, subst}
use Rattle.message_values.proofs.AttributePieces.{none_left}
use Rattle.message_values.proofs.attributes.LentAttributes.is_empty.Goals as goal

pub returns : goal.returns
returns c = subst (λ attributes. IsTrue c.is_none.result ↔ (attributes ≡ [])) c.self.view_is
    (none_left c.self.inside.pieces c.self.invariant c.is_none.result c.is_none.ensures)
