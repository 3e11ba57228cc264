-- Sorted and without repetitions, the executions rise and are the same.
use Rattle.std.proofs.Common.{◌≡◌, ℕ, List, subst, sym, eqb}
use Rattle.std.specs.List.{Contains, dedup}
use Rattle.std.specs.List.Sorted.{IsStrictlyIncreasing}
use Rattle.std.proofs.lemmas.List.Filters.{dedup_is}
use Rattle.std.proofs.lemmas.List.Kept.{Contains-dedup_nat, Contains-from_dedup}
use Rattle.std.proofs.lemmas.List.Sorted.{Contains-permutation, IsPermutation-sym}
use Rattle.std.proofs.lemmas.Map.Keys.{IsStrictlyIncreasing-dedup}
use Rattle.snapshots.proofs.pending.pending.Goals as goal

pub returns : goal.returns
returns c =
    let found : List ℕ = c.in_ok-execs.execs.items in
    let ordered : List ℕ = c.sort.new.self.items in
    let left : List ℕ = c.dedup.new.self.items in
    let e : left ≡ dedup eqb ordered = dedup_is eqb ordered left c.dedup.ensures.filtered in
    let moved = c.in_ok-sort.ensures.permutation in
    record {
      rising = subst IsStrictlyIncreasing (sym e) (IsStrictlyIncreasing-dedup ordered c.in_ok-sort.ensures.sorted);
      exact = λ exec. (
        λ h. subst (λ xs. Contains xs exec) c.in_ok-execs.ensures
            (Contains-permutation ordered found exec (IsPermutation-sym found ordered moved)
            (Contains-from_dedup eqb ordered exec (subst (λ xs. Contains xs exec) e h))),
        λ h. subst (λ xs. Contains xs exec) (sym e) (Contains-dedup_nat ordered exec
            (Contains-permutation found ordered exec moved (subst (λ xs. Contains xs exec) (sym c.in_ok-execs.ensures) h))),
      );
    }
