use Rattle.std.proofs.Common.{refl, ap, ◌∙◌, Some}
use Rattle.doc_nodes.proofs.BlobNames.{named_so, unnamed_so}
use Rattle.doc_nodes.proofs.asking.named_by.Goals as goal

pub returns-in-Ok : goal.returns-in-Ok
returns-in-Ok c =
    ap Some c.in-Ok.ensures.ok ∙ named_so _ _ c.in_ok-text_of.ensures (c.in-Ok.ensures.accepted.0 refl)

pub returns : goal.returns
returns c = unnamed_so _ _ c.in_ok-text_of.ensures c.in-Err.ensures.accepted.1
