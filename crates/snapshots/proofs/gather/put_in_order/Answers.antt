-- A list in order that counts as another is that one in order.
use Rattle.std.proofs.Common.{map, ◌∙◌}
use Rattle.snapshots.specs.Seen.{seen}
use Rattle.snapshots.proofs.Counted.{same_counts, sorted_seen}
use Rattle.snapshots.proofs.gather.put_in_order.Goals as goal

pub returns : goal.returns
returns c = λ all same. (c.one_order.ensures.one all).1 (map seen c.sort.new.self.items) (record {
  same = λ f. same_counts _ _ c.in_ok-sort.ensures.permutation f ∙ same f;
  sorted = sorted_seen c.sort.new.self.items c.in_ok-sort.ensures.sorted;
})
