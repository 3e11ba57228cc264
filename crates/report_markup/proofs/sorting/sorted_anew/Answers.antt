-- What was taken of the list, sorted, counts as the list does.
use Rattle.std.proofs.Common.{◌≡◌, ◌+◌, ℕ, List, [], ap, ◌∙◌, arith}
use Rattle.std.specs.List.{sum_by}
use Rattle.std.proofs.lemmas.List.Sorted.{sum_by-IsPermutation}
use Rattle.report_markup.proofs.sorting.sorted_anew.Goals as goal

counted : {X : Type 0} (f : X → ℕ) (none all xs : List X) → none ≡ [] → sum_by f all ≡ sum_by f none + sum_by f xs → sum_by f all ≡ sum_by f xs
counted f none all xs empty taken =
    let nothing : sum_by f none ≡ 0 = ap (sum_by f) empty in
    omega arith

pub returns : goal.returns
returns c = c.from_vec.ensures ∙ (c.one_order.ensures.one c.args.reports).1 c.sort.new.self.items (record {
  same = λ f. sum_by-IsPermutation f _ _ c.in_ok-sort.ensures.permutation
      ∙ counted f c.in_ok-all.all.items c.take_all.new.all.items c.args.reports c.in_ok-all.ensures.items (c.in_ok-take_all.ensures f);
  sorted = c.in_ok-sort.ensures.sorted;
})
