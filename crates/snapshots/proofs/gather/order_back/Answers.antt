-- Sorting the back moves elements alone.
use Rattle.std.proofs.Common.{rules}
use Rattle.std.proofs.lemmas.List.Sorted.{IsPermutation-put_mid}
use Rattle.snapshots.proofs.gather.order_back.Goals as goal

pub returns-in_ok-sort : goal.returns-in_ok-sort
returns-in_ok-sort c = search (rules, IsPermutation-put_mid)
