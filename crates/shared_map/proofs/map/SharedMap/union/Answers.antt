use Rattle.std.proofs.Common.{rules, ◌≡◌, sym, ◌∙◌, ap, subst}
use Rattle.shared_map.specs.Pairs.{IsSorted, found}
use Rattle.shared_map.specs.Changes.{united}
use Rattle.shared_map.proofs.KnownSorted.{IsSorted-united}
use Rattle.shared_map.proofs.KnownFound.{found_united}
use Rattle.shared_map.proofs.map.SharedMap.union.Goals as goal

pub invariant_of-result : goal.invariant_of-result
invariant_of-result g c =
    subst (IsSorted g.K.Ord.cmp) (sym c.in_ok-pairs.ensures)
    (IsSorted-united g.met.K.Ord.total c.self.inside.pairs c.other.inside.pairs c.self.invariant c.other.invariant)

pub returns-clause-found : goal.returns-clause-found
returns-clause-found g c key =
    let made : c.in_ok-pairs.pairs ≡ united g.K.Ord.cmp c.args.self.now c.args.other.now = search rules in
    ap (found g.K.Ord.cmp key) made
    ∙ found_united g.met.K.Ord.total c.args.self.now c.args.other.now (subst (IsSorted g.K.Ord.cmp) c.self.view_is c.self.invariant) key

pub returns-clause-sorted : goal.returns-clause-sorted
returns-clause-sorted g c = invariant_of-result g c
