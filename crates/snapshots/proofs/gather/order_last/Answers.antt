-- Sorting a part of them counts the same.
use Rattle.std.proofs.Common.{sym, ◌∙◌, ap, length}
use Rattle.std.proofs.lemmas.Result.{on_ok_weaker}
use Rattle.snapshots.proofs.Counted.{read_back}
use Rattle.snapshots.proofs.gather.order_last.Goals as goal

pub returns : goal.returns
returns c = on_ok_weaker c.order_back.result
    (read_back _ _ c.order_back.new.reports _ c.as_mut_slice.ensures.value
    (sym c.as_mut_slice.ensures.len ∙ ap length c.as_mut_slice.ensures.value))
    c.order_back.ensures
