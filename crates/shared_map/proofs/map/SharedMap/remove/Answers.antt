use Rattle.std.proofs.Common.{sym, ◌∙◌, ap, subst}
use Rattle.std.specs.Option.{is_some}
use Rattle.shared_map.specs.Pairs.{IsSorted, found}
use Rattle.shared_map.specs.Changes.{without}
use Rattle.shared_map.proofs.KnownSorted.{IsSorted-without}
use Rattle.shared_map.proofs.KnownFound.{found_without, without_none}
use Rattle.shared_map.proofs.LentFinds.{none_of, some_of}
use Rattle.shared_map.proofs.map.SharedMap.remove.Goals as goal

pub returns-then-is_none-clause-ok : goal.returns-then-is_none-clause-ok
returns-then-is_none-clause-ok g c =
    sym c.self.view_is
    ∙ without_none g.met.K.Ord.total c.args.key.now c.self.inside.pairs c.self.invariant
    (none_of c.first_in.result _ c.if-is_none.ensures c.first_in.ensures)
    ∙ ap (without g.K.Ord.cmp c.args.key.now) c.self.view_is

pub returns-clause-had : goal.returns-clause-had
returns-clause-had g c =
    some_of (λ pair. pair.1) c.first_in.result _ c.if-is_none.ensures c.first_in.ensures
    ∙ ap (λ pairs. is_some (found g.K.Ord.cmp c.args.key.now pairs)) c.self.view_is

pub invariant_of-self : goal.invariant_of-self
invariant_of-self g c =
    subst (IsSorted g.K.Ord.cmp) (sym (c.replace.ensures.after ∙ c.in_ok-pairs.ensures))
    (IsSorted-without g.met.K.Ord.total c.args.key.now c.self.inside.pairs c.self.invariant)

pub returns-clause-found : goal.returns-clause-found
returns-clause-found g c other =
    ap (found g.K.Ord.cmp other) (c.replace.ensures.after ∙ c.in_ok-pairs.ensures ∙ ap (without g.K.Ord.cmp c.args.key.now) c.self.view_is)
    ∙ found_without g.met.K.Ord.total c.args.key.now c.args.self.now other

pub returns-clause-sorted : goal.returns-clause-sorted
returns-clause-sorted g c = invariant_of-self g c
