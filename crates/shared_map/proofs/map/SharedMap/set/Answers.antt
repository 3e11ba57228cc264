use Rattle.std.proofs.Common.{rules, ◌≡◌, sym, ◌∙◌, ap, subst}
use Rattle.shared_map.specs.Pairs.{IsSorted, found}
use Rattle.shared_map.specs.Changes.{put}
use Rattle.shared_map.proofs.KnownSorted.{IsSorted-put}
use Rattle.shared_map.proofs.KnownFound.{found_put}
use Rattle.shared_map.proofs.map.SharedMap.set.Goals as goal

pub invariant_of-self : goal.invariant_of-self
invariant_of-self g c =
    let stored : c.replace.new.dest ≡ put g.K.Ord.cmp (c.args.key, c.args.value) c.self.inside.pairs = search rules in
    subst (IsSorted g.K.Ord.cmp) (sym stored) (IsSorted-put g.met.K.Ord.total (c.args.key, c.args.value) c.self.inside.pairs c.self.invariant)

pub returns-clause-found : goal.returns-clause-found
returns-clause-found g c other =
    let stored : c.replace.new.dest ≡ put g.K.Ord.cmp (c.args.key, c.args.value) c.args.self.now = search rules in
    ap (found g.K.Ord.cmp other) stored ∙ found_put g.met.K.Ord.total (c.args.key, c.args.value) c.args.self.now other

pub returns-clause-sorted : goal.returns-clause-sorted
returns-clause-sorted g c = invariant_of-self g c
