use Rattle.std.proofs.Common.{rules, ◌≡◌, ◌++◌, ◌∷◌, sym, ◌∙◌, ap, subst}
use Rattle.std.proofs.lemmas.Result.{IfOk-at_ok}
use Rattle.std.specs.Arc.{arc_value}
use Rattle.shared_map.specs.Pairs.{IsSorted}
use Rattle.shared_map.proofs.KnownSorted.{fork_of, left_of, right_of}
use Rattle.shared_map.specs.Cuts.{before, behind, at_key}
use Rattle.shared_map.specs.Changes.{united}
use Rattle.shared_map.proofs.Lists.{ok_along}
use Rattle.shared_map.proofs.KnownSorted.{IsSorted-filter}
use Rattle.shared_map.proofs.United.{united_fork, united_nothing}
use Rattle.shared_map.proofs.change.+union_of.Goals as goal

pub returns-then-len-eq0 : goal.returns-then-len-eq0
returns-then-len-eq0 g t c =
    ok_along c.copy.result _ _
    (united_nothing g.K.Ord.cmp c.args.pairs.now c.args.others.now (sym c.len.ensures ∙ c.if-len-eq0.true)) c.copy.ensures

pub union_of-left-requires : goal.union_of-left-requires
union_of-left-requires g t c κs within =
    let left = left_of g.K.Ord.cmp _ _ _ _ c.in-Some.ensures c.requires.sorted in
    let others : IsSorted g.K.Ord.cmp c.in_ok-front.front =
    subst (IsSorted g.K.Ord.cmp) (sym c.in_ok-front.ensures.front)
    (IsSorted-filter g.K.Ord.cmp _ c.args.others.now c.requires.others_sorted) in
    search (rules, left.0, left.1)

pub union_of-requires : goal.union_of-requires
union_of-requires g t c κs within =
    let right = right_of g.K.Ord.cmp _ _ _ _ c.in-Some.ensures c.requires.sorted in
    let others : IsSorted g.K.Ord.cmp c.in_ok-front.back =
    subst (IsSorted g.K.Ord.cmp) (sym c.in_ok-front.ensures.back)
    (IsSorted-filter g.K.Ord.cmp _ c.args.others.now c.requires.others_sorted) in
    search (rules, right.0, right.1)

pub returns : goal.returns
returns g t c =
    let fork = fork_of g.K.Ord.cmp _ _ _ _ c.in-Some.ensures c.requires.sorted in
    let front = c.in_ok-front.ensures.front ∙ ap (λ pair. before (at_key g.K.Ord.cmp pair.0) c.args.others.now) c.deref-pair.ensures in
    let back = c.in_ok-front.ensures.back ∙ ap (λ pair. behind (at_key g.K.Ord.cmp pair.0) c.args.others.now) c.deref-pair.ensures in
    let left = IfOk-at_ok _ c.in_ok-left.ensures.first c.union_of-left.ensures in
    let right = IfOk-at_ok _ c.in_ok-left.ensures.second c.union_of.ensures in
    let rest = ap (λ xs. united g.K.Ord.cmp xs c.args.others.now) c.in-Some.ensures ∙ united_fork g.met.K.Ord.total c.in-Some.parts.left.now (arc_value c.in-Some.parts.item.now) c.in-Some.parts.right.now c.args.others.now fork.smaller in
    let made : c.in_ok-left.left ++ (arc_value c.in-Some.parts.item.now) ∷ c.in_ok-left.right ≡ united g.K.Ord.cmp c.args.pairs.now c.args.others.now =
    ap (λ l. l ++ (arc_value c.in-Some.parts.item.now) ∷ c.in_ok-left.right) (left ∙ ap (united g.K.Ord.cmp c.in-Some.parts.left.now) front)
    ∙ ap (λ r. united g.K.Ord.cmp c.in-Some.parts.left.now (before (at_key g.K.Ord.cmp (arc_value c.in-Some.parts.item.now).0) c.args.others.now) ++ (arc_value c.in-Some.parts.item.now) ∷ r) (right ∙ ap (united g.K.Ord.cmp c.in-Some.parts.right.now) back)
    ∙ sym rest in
    ok_along c.joined.result _ _ made c.joined.ensures
